-- Each side has its own edition: what is sent on it, after each call and over any history of both sides (02, R-5).
use mathlib.Core.Path.{◌≡◌, refl, ap, sym, ◌∙◌, subst}
use mathlib.Core.Bool.{Bool, true, false, cond, ◌||◌, false≢true}
use mathlib.Core.List.{List, [], ◌∷◌, ◌++◌}
use Prim.Native.Nat.{ℕ, ◌<◌}
use native.Mathlib.Omega.{arith}
use Rattle.messages.specs.Editions.{ours, lower}
use Rattle.messages.specs.declared.edition.Edition.{Edition}
use Rattle.messages.specs.declared.request.Request.{Request}
use Rattle.laptop.specs.State.{Memory}
use Rattle.laptop_laws.specs.Editions.{Said, nothing, identity_out, acknowledged, edition_by, said_by, request_edition, SentAt, said_over, edition_over, NoIdentityOut, NoneAcknowledged}
use Rattle.laptop_laws.specs.Effects.{Effect as LaptopEffect}
use Rattle.laptop_laws.specs.Effects.{Kept as LaptopKept}
use Rattle.laptop_laws.specs.Effects.{kept_after as laptop_kept_after}
use Rattle.laptop_laws.proofs.Editions.{call_edition as laptop_call_edition}
use Rattle.laptop_laws.proofs.Editions.{sent_at as laptop_sent_at}
use Rattle.laptop_laws.proofs.EditionsOver.{since_acknowledged as laptop_since_acknowledged}
use Rattle.laptop_laws.proofs.Saying.{is_acknowledged}
use Rattle.port.specs.Sides.{same_side, seen}
use Rattle.port.specs.declared.Port.{Port}
use Rattle.port.specs.declared.Side.{Side}
use Rattle.port.specs.declared.Side.TheVariants.{Partner, Cable}
use Rattle.port.specs.Step.{Step}
use Rattle.port_laws.specs.Editions.{said_on, said_over_on}
use Rattle.port_laws.specs.Effects.{Call, message, next, start_over, drop, enter, exit, timer, protocol_error, one_sided, concerns, effect_of, effect_seen, Kept, memory_of, of_side, effect_in, kept_by_of, kept_after}
use Rattle.port_laws.specs.Leaving.{is_others_call, is_blocked, is_left_out, leaving, one_sided_all}
use Rattle.port_laws.proofs.Isolation.{left_out_leaves, share_is_a_laptops}
use Rattle.port_laws.proofs.OneCall.{concerns_other, own_as_laptop, own_seen, blocked_changes_nothing}
use Rattle.port_laws.proofs.Refusing.{refusal_state}

-- ONE CALL: a side's edition afterwards, whatever the call and whichever side it is for
pub edition_on : (side : Side) (c : Call) (out : List ℕ) (k : Kept) →
    (seen side (kept_by_of c out k).port).edition ≡ edition_by (said_on side c out k) (seen side k.port).edition
edition_on side c out k = go (is_left_out side c k) refl
  where
    go : (t : Bool) → is_left_out side c k ≡ t →
        (seen side (kept_by_of c out k).port).edition ≡
        edition_by (cond t nothing (said_by (one_sided c) (seen side k.port) (memory_of side k) out)) (seen side k.port).edition
    go true e = ap (λ (x : LaptopKept). x.laptop.edition) (left_out_leaves side c out k e)
    go false e =
        ap (λ (x : LaptopKept). x.laptop.edition) (own_as_laptop side c out k e).0 ∙
        laptop_call_edition (one_sided c) (seen side k.port) (memory_of side k) out

-- a call's step names the side that it concerns
step_side : (c : Call) (p : Port) (m : Memory) (out : List ℕ) → (effect_of c p m out).step.side ≡ concerns c p.wait
step_side (message s bytes) p m out = refl
step_side (next s) p m out = refl
step_side (start_over s) p m out = refl
step_side (drop s) p m out = refl
step_side (enter s svid position) p m out = refl
step_side (exit s svid position) p m out = refl
step_side (timer first last) p m out = refl
step_side protocol_error p m out = refl

same_itself : (s : Side) → same_side s s ≡ true
same_itself Partner = refl
same_itself Cable = refl

-- what is refused sends nothing
refused_silent : (c : Call) (out : List ℕ) (k : Kept) → (effect_in c out k).step.refusal ≡ 7 → (effect_in c out k).step.length ≡ 0
refused_silent c out k e =
    ap (λ (s : Step). s.length) (refusal_state c k.port (memory_of (concerns c k.port.wait) k) out (λ z. omega (arith, e, z)))

module _ (side : Side) (c : Call) (out : List ℕ) (k : Kept) (for_side : (effect_in c out k).step.side ≡ side) (some : 0 < (effect_in c out k).step.length) where
  concerns_side : concerns c k.port.wait ≡ side
  concerns_side = sym (step_side c k.port (memory_of (concerns c k.port.wait) k) out) ∙ for_side

  -- a call that sends on the side is no event of the other, and is not refused because the other waits
  sender_kept : is_left_out side c k ≡ false
  sender_kept = go (is_others_call side c k.port.wait) (is_blocked side c k) refl refl
    where
      go : (others blocked : Bool) → is_others_call side c k.port.wait ≡ others → is_blocked side c k ≡ blocked → others || blocked ≡ false
      go true b e f =
          absurd (false≢true (sym (concerns_other side c k.port.wait e) ∙ ap (λ (s : Side). same_side s side) concerns_side ∙ same_itself side))
      go false true e f = absurd (omega (arith, some, refused_silent c out k (blocked_changes_nothing side c out k e f).1))
      go false false e f = refl

  -- WHAT IS SENT on a side: a request whose bytes say its edition, Identity ours and every other that of the side; the side stands at it afterwards
  pub sent_on : (r : Request) × SentAt (request_edition r (seen side k.port).edition) r (effect_seen side (effect_in c out k))
  sent_on =
      let is = own_seen side c out k sender_kept concerns_side in
      let sent = laptop_sent_at (one_sided c) (seen side k.port) (memory_of side k) out (subst (λ (e : LaptopEffect). 0 < e.step.length) is some) in
      (sent.0, subst (SentAt (request_edition sent.0 (seen side k.port).edition) sent.0) (sym is) sent.1)

-- ANY HISTORY of both sides: a side's edition is that of what was last said of it
pub edition_over_on : (side : Side) (history : List (Call × List ℕ)) (k : Kept) →
    (seen side (kept_after history k).port).edition ≡ edition_over (seen side k.port).edition (said_over_on side history k)
edition_over_on side [] k = refl
edition_over_on side (c ∷ rest) k =
    edition_over_on side rest (kept_by_of c.0 c.1 k) ∙
    ap (λ (e : Edition). edition_over e (said_over_on side rest (kept_by_of c.0 c.1 k))) (edition_on side c.0 c.1 k)

-- no Identity of the side goes out, nor does one in the side's share
none_in_share : (side : Side) (history : List (Call × List ℕ)) (k : Kept) → NoIdentityOut (said_over_on side history k) →
    NoIdentityOut (said_over (one_sided_all (leaving side history k)) (of_side side k))
unfolding leaving
none_in_share side [] k none = tt
none_in_share side (c ∷ rest) k none = go (none_in_share side rest (kept_by_of c.0 c.1 k) none.1) (is_left_out side c.0 k) refl none.0
  where
    after : Kept
    after = kept_by_of c.0 c.1 k

    go : NoIdentityOut (said_over (one_sided_all (leaving side rest after)) (of_side side after)) → (t : Bool) → is_left_out side c.0 k ≡ t →
        (cond t nothing (said_by (one_sided c.0) (seen side k.port) (memory_of side k) c.1) ≡ identity_out → ⊥) →
        NoIdentityOut (said_over (one_sided_all (cond t (leaving side rest after) (c ∷ leaving side rest after))) (of_side side k))
    go behind true e first =
        subst (λ (x : LaptopKept). NoIdentityOut (said_over (one_sided_all (leaving side rest after)) x)) (left_out_leaves side c.0 c.1 k e) behind
    go behind false e first = (
      first,
      subst (λ (x : LaptopKept). NoIdentityOut (said_over (one_sided_all (leaving side rest after)) x)) (own_as_laptop side c.0 c.1 k e).0 behind,
    )

-- once at our edition, a side stays so until an Identity ACK of its own is taken
ours_stays : (side : Side) (between : List (Call × List ℕ)) (k : Kept) → (seen side k.port).edition ≡ ours → NoneAcknowledged (said_over_on side between k) →
    (seen side (kept_after between k).port).edition ≡ ours
ours_stays side [] k at none = at
ours_stays side (c ∷ rest) k at none =
    ours_stays side rest (kept_by_of c.0 c.1 k) (edition_on side c.0 c.1 k ∙ go (said_on side c.0 c.1 k) none.0) none.1
  where
    go : (s : Said) → ((e : Edition) → s ≡ acknowledged e → ⊥) → edition_by s (seen side k.port).edition ≡ ours
    go nothing first = at
    go identity_out first = refl
    go (acknowledged e) first = absurd (first e refl)

kept_behind : (before rest : List (Call × List ℕ)) (k : Kept) → kept_after (before ++ rest) k ≡ kept_after rest (kept_after before k)
kept_behind [] rest k = refl
kept_behind (c ∷ before) rest k = kept_behind before rest (kept_by_of c.0 c.1 k)

-- a history of both sides with a call in it, after which others follow, of either side
module _ (side : Side) (before between : List (Call × List ℕ)) (c : Call × List ℕ) (start : Kept) where
  abbrev Reached : Kept
  Reached = kept_after before start

  abbrev Left : Kept
  Left = kept_by_of c.0 c.1 Reached

  abbrev Now : Kept
  Now = kept_after (before ++ c ∷ between) start

  split : Now ≡ kept_after between Left
  split = kept_behind before (c ∷ between) start

  at_split : {e : Edition} → (seen side (kept_after between Left).port).edition ≡ e → (seen side Now.port).edition ≡ e
  at_split is = ap (λ (k : Kept). (seen side k.port).edition) split ∙ is

  -- what the next call sends on the side, unless it is Identity, is at the edition where the side stands
  sends_at : {e : Edition} → (seen side Now.port).edition ≡ e → (d : Call) (out : List ℕ) → (effect_in d out Now).step.side ≡ side →
      0 < (effect_in d out Now).step.length → (r : Request) × SentAt (request_edition r e) r (effect_seen side (effect_in d out Now))
  sends_at is d out for_side some =
      let sent = sent_on side d out Now for_side some in
      (sent.0, subst (λ (x : Edition). SentAt (request_edition sent.0 x) sent.0 (effect_seen side (effect_in d out Now))) is sent.1)

  -- from an Identity ACK of the side to its next Identity that goes out: the lower of that ACK's edition and ours
  module _ (at : Edition) (taken : said_on side c.0 c.1 Reached ≡ acknowledged at) (none : NoIdentityOut (said_over_on side between Left)) where
    pub since_acknowledged : (seen side Now.port).edition ≡ lower at ours
    since_acknowledged = at_split (go (is_left_out side c.0 Reached) refl taken)
      where
        share : List (Call × List ℕ)
        share = leaving side between Left

        go : (t : Bool) → is_left_out side c.0 Reached ≡ t →
            cond t nothing (said_by (one_sided c.0) (seen side Reached.port) (memory_of side Reached) c.1) ≡ acknowledged at →
            (seen side (kept_after between Left).port).edition ≡ lower at ours
        go true e said = absurd (false≢true (ap is_acknowledged said))
        go false e said =
            let own = (own_as_laptop side c.0 c.1 Reached e).0 in
            ap (λ (k : LaptopKept). k.laptop.edition) ((share_is_a_laptops side between Left).0 ∙ ap (λ (k : LaptopKept). laptop_kept_after (one_sided_all share) k) own) ∙
            laptop_since_acknowledged [] (one_sided_all share) (one_sided c.0, c.1) (of_side side Reached) at said
            (subst (λ (k : LaptopKept). NoIdentityOut (said_over (one_sided_all share) k)) own (none_in_share side between Left none))

    pub sent_since_acknowledged : (d : Call) (out : List ℕ) → (effect_in d out Now).step.side ≡ side → 0 < (effect_in d out Now).step.length →
        (r : Request) × SentAt (request_edition r (lower at ours)) r (effect_seen side (effect_in d out Now))
    sent_since_acknowledged = sends_at since_acknowledged

  -- from an Identity of the side that goes out to the next ACK of it: ours
  module _ (sent : said_on side c.0 c.1 Reached ≡ identity_out) (none : NoneAcknowledged (said_over_on side between Left)) where
    pub since_identity : (seen side Now.port).edition ≡ ours
    since_identity =
        at_split (ours_stays side between Left (edition_on side c.0 c.1 Reached ∙ ap (λ (s : Said). edition_by s (seen side Reached.port).edition) sent) none)

    pub sent_since_identity : (d : Call) (out : List ℕ) → (effect_in d out Now).step.side ≡ side → 0 < (effect_in d out Now).step.length →
        (r : Request) × SentAt (request_edition r ours) r (effect_seen side (effect_in d out Now))
    sent_since_identity = sends_at since_identity
