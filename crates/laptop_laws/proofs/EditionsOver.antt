-- The edition after any history, and that of what is sent then (02, R-5).
use mathlib.Core.Path.{◌≡◌, refl, ap, subst, sym, ◌∙◌}
use mathlib.Core.Bool.{Bool, true, false, cond, ◌&&◌, false≢true}
use mathlib.Core.List.{List, [], ◌∷◌, ◌++◌}
use Prim.Native.Nat.{ℕ, ◌<◌}
use lib.Dec.{eqb}
use lib.ListN.{length}
use Rattle.messages.specs.Editions.{ours, lower}
use Rattle.messages.specs.Reading.{Outcome, accepted, refused, read_outcome}
use Rattle.messages.specs.declared.edition.Edition.{Edition}
use Rattle.messages.specs.declared.request.Request.{Request}
use Rattle.hearing.specs.Hearing.{fits}
use Rattle.laptop.specs.Calls.{short_runs}
use Rattle.laptop.specs.State.{Memory}
use Rattle.laptop.specs.declared.Laptop.{Laptop}
use Rattle.laptop_laws.specs.Editions.{Said, nothing, identity_out, acknowledged, edition_by, identity_goes_out, acknowledgement, taken_by, said_by, request_edition, SentAt, said_over, edition_over, NoIdentityOut, NoneAcknowledged}
use Rattle.laptop_laws.specs.Effects.{Call, message, next, start_over, drop, enter, exit, timer, protocol_error, effect_of, Kept, kept_after}
use Rattle.laptop_laws.specs.WellFormed.{awaits_identity}
use Rattle.laptop_laws.proofs.Fitting.{fits_is}
use Rattle.laptop_laws.proofs.Saying.{is_acknowledged, call_says}
use Rattle.laptop_laws.proofs.Editions.{call_edition, sent_at}

-- the edition is that of what was last said
pub edition_over_lem : (history : List (Call × List ℕ)) (k : Kept) → (kept_after history k).laptop.edition ≡ edition_over k.laptop.edition (said_over history k)
edition_over_lem [] k = refl
edition_over_lem (c ∷ rest) k =
    edition_over_lem rest (kept_after (c ∷ []) k) ∙
    ap (λ (e : Edition). edition_over e (said_over rest (kept_after (c ∷ []) k))) (call_edition c.0 k.laptop k.memory c.1)

kept_behind : (before rest : List (Call × List ℕ)) (k : Kept) → kept_after (before ++ rest) k ≡ kept_after rest (kept_after before k)
kept_behind [] rest k = refl
kept_behind (c ∷ before) rest k = kept_behind before rest (kept_after (c ∷ []) k)

-- an Identity ACK is taken only where Identity is awaited
acknowledged_awaited : (l : Laptop) (o : Outcome) → is_acknowledged (acknowledgement l o) ≡ true → awaits_identity l.wait ≡ true
acknowledged_awaited l (refused number) a = absurd (false≢true a)
acknowledged_awaited l (accepted e x) a = go (fits l.wait x.head) (eqb x.head.command 1) (eqb x.head.kind 1) refl refl a
  where
    go : (f c k : Bool) → fits l.wait x.head ≡ f → eqb x.head.command 1 ≡ c →
        is_acknowledged (cond (f && (c && k)) (acknowledged e) nothing) ≡ true → awaits_identity l.wait ≡ true
    go true true true ef ec n = ap awaits_identity (fits_is l.wait x.head ef) ∙ ec
    go true true false ef ec n = absurd (false≢true n)
    go true false k ef ec n = absurd (false≢true n)
    go false c k ef ec n = absurd (false≢true n)

taken_awaited : (c : Call) (l : Laptop) (m : Memory) → is_acknowledged (taken_by c l m) ≡ true → awaits_identity l.wait ≡ true
taken_awaited (message bytes) l m a = go (short_runs (length m.run) (length m.held_run)) a
  where
    go : (t : Bool) → is_acknowledged (cond t nothing (acknowledgement l (read_outcome bytes))) ≡ true → awaits_identity l.wait ≡ true
    go true n = absurd (false≢true n)
    go false n = acknowledged_awaited l (read_outcome bytes) n
taken_awaited next l m a = absurd (false≢true a)
taken_awaited start_over l m a = absurd (false≢true a)
taken_awaited drop l m a = absurd (false≢true a)
taken_awaited (enter svid position) l m a = absurd (false≢true a)
taken_awaited (exit svid position) l m a = absurd (false≢true a)
taken_awaited (timer first last) l m a = absurd (false≢true a)
taken_awaited protocol_error l m a = absurd (false≢true a)

said_awaited : (c : Call) (l : Laptop) (m : Memory) (out : List ℕ) → is_acknowledged (said_by c l m out) ≡ true → awaits_identity l.wait ≡ true
said_awaited c l m out a = go (identity_goes_out (effect_of c l m out).step) a
  where
    go : (t : Bool) → is_acknowledged (cond t identity_out (taken_by c l m)) ≡ true → awaits_identity l.wait ≡ true
    go true n = absurd (false≢true n)
    go false n = taken_awaited c l m n

-- while Identity is not awaited, and does not go out, the edition stays
between_stays : (between : List (Call × List ℕ)) (k : Kept) → awaits_identity k.laptop.wait ≡ false → NoIdentityOut (said_over between k) →
    (kept_after between k).laptop.edition ≡ k.laptop.edition
between_stays [] k free none = refl
between_stays (c ∷ rest) k free none =
    between_stays rest (kept_after (c ∷ []) k) ((call_says c.0 k.laptop k.memory c.1).stays free none.0) none.1 ∙
    call_edition c.0 k.laptop k.memory c.1 ∙ go (said_by c.0 k.laptop k.memory c.1) refl
  where
    go : (s : Said) → said_by c.0 k.laptop k.memory c.1 ≡ s →
        edition_by (said_by c.0 k.laptop k.memory c.1) k.laptop.edition ≡ k.laptop.edition
    go nothing e = ap (λ (s : Said). edition_by s k.laptop.edition) e
    go identity_out e = absurd (none.0 e)
    go (acknowledged at) e =
        absurd (false≢true (sym free ∙ said_awaited c.0 k.laptop k.memory c.1 (ap is_acknowledged e)))

-- once at our edition, it stays so until an Identity ACK is taken
ours_stays : (between : List (Call × List ℕ)) (k : Kept) → k.laptop.edition ≡ ours → NoneAcknowledged (said_over between k) →
    (kept_after between k).laptop.edition ≡ ours
ours_stays [] k at none = at
ours_stays (c ∷ rest) k at none =
    ours_stays rest (kept_after (c ∷ []) k)
    (call_edition c.0 k.laptop k.memory c.1 ∙ go (said_by c.0 k.laptop k.memory c.1) refl) none.1
  where
    go : (s : Said) → said_by c.0 k.laptop k.memory c.1 ≡ s → edition_by (said_by c.0 k.laptop k.memory c.1) k.laptop.edition ≡ ours
    go nothing e = ap (λ (s : Said). edition_by s k.laptop.edition) e ∙ at
    go identity_out e = ap (λ (s : Said). edition_by s k.laptop.edition) e
    go (acknowledged at) e = absurd (none.0 at e)

-- a history with a call in it, after which others follow
module _ (before between : List (Call × List ℕ)) (c : Call × List ℕ) (start : Kept) where
  abbrev Reached : Kept
  Reached = kept_after before start

  abbrev Now : Kept
  Now = kept_after (before ++ c ∷ between) start

  split : Now ≡ kept_after between (kept_after (c ∷ []) Reached)
  split = kept_behind before (c ∷ between) start

  abbrev SaidThen : Said
  SaidThen = said_by c.0 Reached.laptop Reached.memory c.1

  abbrev SaidSince : List Said
  SaidSince = said_over between (kept_after (c ∷ []) Reached)

  -- from an Identity ACK to the next Identity that goes out: the lower of its edition and ours
  module _ (at : Edition) (taken : SaidThen ≡ acknowledged at) (none : NoIdentityOut SaidSince) where
    pub since_acknowledged : Now.laptop.edition ≡ lower at ours
    since_acknowledged =
        ap (λ (k : Kept). k.laptop.edition) split ∙
        between_stays between (kept_after (c ∷ []) Reached) ((call_says c.0 Reached.laptop Reached.memory c.1).ends (ap is_acknowledged taken)) none ∙
        call_edition c.0 Reached.laptop Reached.memory c.1 ∙ ap (λ (s : Said). edition_by s Reached.laptop.edition) taken

    -- and what the next call sends is at it, unless it is Identity
    pub sent_since_acknowledged : (d : Call) (out : List ℕ) → 0 < (effect_of d Now.laptop Now.memory out).step.length →
        (r : Request) × SentAt (request_edition r (lower at ours)) r (effect_of d Now.laptop Now.memory out)
    sent_since_acknowledged d out some =
        let effect = effect_of d Now.laptop Now.memory out in
        let sent = sent_at d Now.laptop Now.memory out some in
        (sent.0, subst (λ (e : Edition). SentAt (request_edition sent.0 e) sent.0 effect) since_acknowledged sent.1)

  -- from an Identity that goes out to the next ACK of it: ours
  module _ (sent : SaidThen ≡ identity_out) (none : NoneAcknowledged SaidSince) where
    pub since_identity : Now.laptop.edition ≡ ours
    since_identity =
        ap (λ (k : Kept). k.laptop.edition) split ∙
        ours_stays between (kept_after (c ∷ []) Reached)
        (call_edition c.0 Reached.laptop Reached.memory c.1 ∙ ap (λ (s : Said). edition_by s Reached.laptop.edition) sent) none
