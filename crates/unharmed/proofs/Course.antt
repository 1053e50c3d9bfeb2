-- The course of a gathering: where the laptop's list stands beside the dock's page, and how each event moves them.
use mathlib.Core.Logic.{◌⊎◌, inl, inr}
use mathlib.Core.Path.{◌≡◌, refl, ap, sym, ◌∙◌, subst}
use mathlib.Core.Bool.{Bool, true, false, cond, not, ◌&&◌, false≢true}
use mathlib.Core.List.{List, ◌++◌}
use Prim.Native.Nat.{ℕ, ◌+◌, ◌*◌, ◌/◌, ◌^◌, ◌<◌, ◌≤◌}
use native.Mathlib.Omega.{arith}
use lib.ListN.{length, take, length-append, length-drop}
use lib.Seq.{length-take-le}
use borrow.Author.Tests.{ltb-true, ltb-false, le-ltb}
use Rattle.laws.specs.Bounded.{Below}
use Rattle.messages.specs.declared.request.Request.{Request}
use Rattle.pages.specs.Lists.{sound_list}
use Rattle.pages.specs.Pages.{halves, page, is_last, remaining, read_off}
use Rattle.taking.specs.Taking.{before, verdict}
use Rattle.taking.specs.declared.Verdict.TheVariants.{Repeat, More, Ends}
use Rattle.taking.proofs.Gathering.{repeat_again, take_more, take_last}
use Rattle.taking.proofs.Judging.{take_before}
use Rattle.taking.proofs.Sizes.{more_fits}
use Rattle.dock.specs.declared.Standing.{Standing}
use Rattle.dock.specs.declared.Standing.TheVariants.{Ready, Asking, Sending}

-- the answers of the fair dock
pub data FairAnswer : Type 0 where
  identity_ack : FairAnswer
  page_ack : ℕ → FairAnswer
  modes_ack : ℕ → FairAnswer
  mode_ack : Request → FairAnswer
  list_nak : FairAnswer
  busy_to : Request → FairAnswer

abbrev pub is_page : FairAnswer → Bool
is_page identity_ack = false
is_page (page_ack p) = true
is_page (modes_ack svid) = false
is_page (mode_ack r) = false
is_page list_nak = false
is_page (busy_to r) = false

-- the fate of an answer, with the answer for its bytes
pub data Carried : Type 0 where
  nothing : Carried
  under_way : FairAnswer → Carried
  sure : FairAnswer → Carried
  arrived : Bool → Carried

-- what tells the fates and the standings apart
abbrev is_sure : Carried → Bool
is_sure nothing = false
is_sure (under_way a) = false
is_sure (sure a) = true
is_sure (arrived b) = false

abbrev is_arrived : Carried → Bool
is_arrived nothing = false
is_arrived (under_way a) = false
is_arrived (sure a) = false
is_arrived (arrived b) = true

abbrev pub is_ready : Standing → Bool
is_ready Ready = true
is_ready (Asking r) = false
is_ready (Sending t) = false

abbrev sends_page : Standing → Bool
sends_page Ready = false
sends_page (Asking r) = false
sends_page (Sending t) = t

-- the confirmations lost when nothing more can be heard
abbrev pub lost_then : Carried → ℕ → ℕ
lost_then nothing z = z
lost_then (under_way a) z = z
lost_then (sure a) z = z
lost_then (arrived true) z = z + 1
lost_then (arrived false) z = z

-- "sent", heard now, would not move the page
abbrev pub NoPage : Standing → Type 0
NoPage Ready = Unit
NoPage (Asking r) = Unit
NoPage (Sending true) = ⊥
NoPage (Sending false) = Unit

-- no page waits for its confirmation
abbrev pub Quiet : Standing → Carried → Type 0
Quiet t nothing = Unit
Quiet t (under_way a) = Unit
Quiet t (sure a) = is_page a ≡ false
Quiet t (arrived true) = ⊥
Quiet t (arrived false) = NoPage t

abbrev pub Settled : Carried → Type 0
Settled nothing = Unit
Settled (under_way a) = Unit
Settled (sure a) = Unit
Settled (arrived true) = ⊥
Settled (arrived false) = Unit

-- no page is confirmed and still has to arrive
abbrev pub NoSurePage : Carried → Type 0
NoSurePage nothing = Unit
NoSurePage (under_way a) = Unit
NoSurePage (sure a) = is_page a ≡ false
NoSurePage (arrived b) = Unit

pub quiet_lost : (t : Standing) (v : Carried) (z : ℕ) → Quiet t v → lost_then v z ≡ z
quiet_lost t nothing z y = refl
quiet_lost t (under_way a) z y = refl
quiet_lost t (sure a) z y = refl
quiet_lost t (arrived true) z y = absurd y
quiet_lost t (arrived false) z y = refl

pub settled_lost : (v : Carried) (z : ℕ) → Settled v → lost_then v z ≡ z
settled_lost nothing z y = refl
settled_lost (under_way a) z y = refl
settled_lost (sure a) z y = refl
settled_lost (arrived true) z y = absurd y
settled_lost (arrived false) z y = refl

module _ (list : List ℕ) where
  -- the page after "sent"
  unfoldable pub moves_on : Bool → ℕ → ℕ
  moves_on is_page q = cond (is_page && not (is_last list q)) (q + 1) q

  -- g is gathered, k pages are counted and z confirmations lost, the dock stands at page p: the dock is in step, or a page behind since a
  -- confirmation was lost
  pub data At (g : List ℕ) (k p z : ℕ) : Type 0 where
    in_step : g ≡ take (p * 12) list → p * 12 ≤ length list → k ≡ p + z → At g k p z
    lost_one : g ≡ take (p * 12 + 12) list → p * 12 + 12 ≤ length list → k ≡ p + z → At g k p z

  -- and at the page q, with the last answer's fate: nothing is open; or a page has arrived and its confirmation is open; or the confirmation came
  -- before the page
  pub data Course (g : List ℕ) (k : ℕ) (t : Standing) (q : ℕ) (v : Carried) (z : ℕ) : Type 0 where
    even : At g k q z → Quiet t v → Course g k t q v z
    undecided : g ≡ take (q * 12 + 12) list → q * 12 + 12 ≤ length list → k ≡ q + 1 + z → t ≡ Sending true → v ≡ arrived true → Course g k t q v z
    early : (p : ℕ) → At g k p z → v ≡ sure (page_ack p) → q ≡ moves_on true p → Course g k t q v z

  pub last_no : (p : ℕ) → p * 12 + 12 ≤ length list → is_last list p ≡ false
  unfolding is_last
  last_no p h = le-ltb (length (remaining list p)) 12 (omega (arith, length-drop (p * 12) list))

  last_yes : (p : ℕ) → is_last list p ≡ true → length list < p * 12 + 12
  unfolding is_last
  last_yes p e = omega (arith, length-drop (p * 12) list, ltb-true (length (remaining list p)) 12 e)

  last_not : (p : ℕ) → is_last list p ≡ false → 0 < length list → p * 12 + 12 ≤ length list
  unfolding is_last
  last_not p e h = omega (arith, length-drop (p * 12) list, ltb-false (length (remaining list p)) 12 e)

  pub moves_more : (p : ℕ) → is_last list p ≡ false → moves_on true p ≡ p + 1
  unfolding moves_on
  moves_more p e = rw e

  pub moves_other : (p : ℕ) → moves_on false p ≡ p
  unfolding moves_on
  moves_other p = refl

  at_lost : {g : List ℕ} {k p z : ℕ} → At g k p z → (z' : ℕ) → z' ≡ z → At g k p z'
  at_lost (in_step a b c) z' e = in_step a b (omega arith)
  at_lost (lost_one a b c) z' e = lost_one a b (omega arith)

  sure_page : (v : Carried) (p : ℕ) → NoSurePage v → v ≡ sure (page_ack p) → ⊥
  sure_page v p n e = false≢true (sym (subst NoSurePage e n))

  -- nothing more can be heard of the last answer: what was undecided is lost
  pub replaced : {g : List ℕ} {k : ℕ} {t : Standing} {q : ℕ} {v : Carried} {z : ℕ} → Course g k t q v z → (t' : Standing) (v' : Carried) →
      Quiet t' v' → NoSurePage v → Course g k t' q v' (lost_then v z)
  replaced {t = t} {v = v} {z = z} (even a y) t' v' y' n = even (at_lost a (lost_then v z) (quiet_lost t v z y)) y'
  replaced {q = q} {z = z} (undecided a b c e e') t' v' y' n = even (lost_one a b (rw e' (c ∙ omega arith))) y'
  replaced {v = v} (early p a e e') t' v' y' n = absurd (sure_page v p n e)

  -- the last answer's fate is replaced where no page waits
  pub passes : {g : List ℕ} {k : ℕ} {t : Standing} {q : ℕ} {v : Carried} {z : ℕ} → Course g k t q v z → (t' : Standing) (v' : Carried) →
      Quiet t' v' → NoSurePage v → (v ≡ arrived true → ⊥) → Course g k t' q v' z
  passes (even a y) t' v' y' n f = even a y'
  passes (undecided a b c e e') t' v' y' n f = absurd (f e')
  passes {v = v} (early p a e e') t' v' y' n f = absurd (sure_page v p n e)

  -- an answer goes out to a request that has reached the dock
  pub answered : {g : List ℕ} {k : ℕ} {r : Request} {q : ℕ} {v : Carried} {z : ℕ} → Course g k (Asking r) q v z → (t' : Standing) (a : FairAnswer) →
      NoSurePage v → Course g k t' q (under_way a) z
  answered (even x y) t' a n = even x tt
  answered (undecided a b c e e') t' x n = absurd (false≢true (ap sends_page e))
  answered {v = v} (early p a e e') t' x n = absurd (sure_page v p n e)

  -- the dock hears "sent" of an answer that has arrived
  page_sent : (t : Bool) → Sending t ≡ Sending true → t ≡ true
  page_sent t e = ap sends_page e

  next_page : (p : ℕ) → p * 12 + 12 ≡ (p + 1) * 12
  next_page p = omega arith

  pub confirmed_after : {g : List ℕ} {k : ℕ} {t : Bool} {q : ℕ} {b : Bool} {z : ℕ} → Course g k (Sending t) q (arrived b) z →
      Course g k Ready (moves_on t q) nothing z
  confirmed_after {t = true} {b = true} (even a y) = absurd y
  confirmed_after {t = true} {b = false} (even a y) = absurd y
  confirmed_after {g = g} {k = k} {t = false} {q = q} {z = z} (even a y) =
      subst (λ (n : ℕ). Course g k Ready n nothing z) (sym (moves_other q)) (even a tt)
  confirmed_after {g = g} {k = k} {t = t} {q = q} {z = z} (undecided a h c e e') =
      subst (λ (x : Bool). Course g k Ready (moves_on x q) nothing z) (sym (page_sent t e))
      (subst (λ (n : ℕ). Course g k Ready n nothing z) (sym (moves_more q (last_no q h)))
      (even (in_step (a ∙ ap (λ (n : ℕ). take n list) (next_page q)) (omega arith) c) tt))
  confirmed_after (early p a e e') = absurd (false≢true (ap is_sure e))

  -- or of one that still has to arrive
  sure_other : {g : List ℕ} {k q z : ℕ} (a : FairAnswer) → is_page a ≡ false → At g k q z → Course g k Ready (moves_on (is_page a) q) (sure a) z
  sure_other {g = g} {k = k} {q = q} {z = z} a e x =
      subst (λ (n : ℕ). Course g k Ready n (sure a) z) (sym (ap (λ (t : Bool). moves_on t q) e ∙ moves_other q)) (even x e)

  pub confirmed_before : {g : List ℕ} {k : ℕ} {t : Standing} {q : ℕ} {z : ℕ} (a : FairAnswer) → ((p : ℕ) → a ≡ page_ack p → p ≡ q) →
      Course g k t q (under_way a) z → Course g k Ready (moves_on (is_page a) q) (sure a) z
  confirmed_before a at (undecided x b c e e') = absurd (false≢true (ap is_arrived e'))
  confirmed_before a at (early p x e e') = absurd (false≢true (ap is_sure e))
  confirmed_before {g = g} {k = k} {q = q} {z = z} (page_ack p) at (even x y) =
      early p (subst (λ (n : ℕ). At g k n z) (sym (at p refl)) x) refl (ap (moves_on true) (sym (at p refl)))
  confirmed_before identity_ack at (even x y) = sure_other identity_ack refl x
  confirmed_before (modes_ack svid) at (even x y) = sure_other (modes_ack svid) refl x
  confirmed_before (mode_ack r) at (even x y) = sure_other (mode_ack r) refl x
  confirmed_before list_nak at (even x y) = sure_other list_nak refl x
  confirmed_before (busy_to r) at (even x y) = sure_other (busy_to r) refl x

  -- page p arrives where the list stands at p
  pub data Taken (g : List ℕ) (k p z : ℕ) : Type 0 where
    grows : verdict g (halves (page list p)) ≡ More → g ++ halves (page list p) ≡ take (p * 12 + 12) list → p * 12 + 12 ≤ length list → k ≡ p + z →
        Taken g k p z
    again : verdict g (halves (page list p)) ≡ Repeat → g ≡ take (p * 12 + 12) list → p * 12 + 12 ≤ length list → k ≡ p + z → Taken g k p z
    finishes : (n : ℕ) → verdict g (halves (page list p)) ≡ Ends n → g ++ take n (halves (page list p)) ≡ list → is_last list p ≡ true →
        k + 1 ≡ length list / 12 + 1 + z → Taken g k p z

  module _ (b : Below (2 ^ 16) list) (sound : sound_list list ≡ true) (few : length list ≤ 72) (some : 0 < length list) where
    pub taken : {g : List ℕ} {k p z : ℕ} → At g k p z → Taken g k p z
    taken {g = g} {k = k} {p = p} {z = z} (in_step a h c) = go (is_last list p) refl
      where
        go : (t : Bool) → is_last list p ≡ t → Taken g k p z
        go false e =
            let more = take_more list p b sound few e in
            grows (ap (λ (x : List ℕ). verdict x (halves (page list p))) a ∙ more.0) (ap (λ (x : List ℕ). x ++ halves (page list p)) a ∙ more.1)
            (last_not p e some) c
        go true e =
            let last = take_last list p b sound few e h some in
            let short = last_yes p e in
            let count : before (halves (page list p)) ≡ length (remaining list p) =
            let all : length (take (p * 12) list ++ read_off (halves (page list p))) ≡ length list = ap length last.1 in
            omega (arith, length-append (take (p * 12) list) (read_off (halves (page list p))), length-take-le (p * 12) list h, length-drop (p * 12) list) in
            finishes (length (remaining list p)) (ap (λ (x : List ℕ). verdict x (halves (page list p))) a ∙ last.0)
            (ap (λ (x : List ℕ). x ++ take (length (remaining list p)) (halves (page list p))) a ∙
            ap (λ (n : ℕ). take (p * 12) list ++ take n (halves (page list p))) (sym count) ∙
            ap (λ (x : List ℕ). take (p * 12) list ++ x) (take_before (halves (page list p))) ∙ last.1) e (omega arith)
    taken {g = g} {p = p} (lost_one a h c) =
        let more = take_more list p b sound few (last_no p h) in
        let same : g ≡ take (p * 12) list ++ halves (page list p) = a ∙ sym more.1 in
        again
        (ap (λ (x : List ℕ). verdict x (halves (page list p))) same ∙
        repeat_again (take (p * 12) list) (halves (page list p)) (more_fits (take (p * 12) list) (halves (page list p)) more.0).0) a h c

  -- the fate of an answer that has arrived without being confirmed
  abbrev pub arrived_as : Standing → Bool → Carried
  arrived_as Ready b = nothing
  arrived_as (Asking r) b = nothing
  arrived_as (Sending t) b = arrived b

  abbrev pub lost_as : Standing → Bool → ℕ → ℕ
  lost_as Ready b z = lost_then (arrived b) z
  lost_as (Asking r) b z = lost_then (arrived b) z
  lost_as (Sending t) b z = z

  -- a page before the last was taken: its confirmation is open, or lost,
  pub page_arrived : {g : List ℕ} {k q : ℕ} (z : ℕ) (t : Standing) → (t ≡ Sending true) ⊎ (t ≡ Ready) → g ≡ take (q * 12 + 12) list → q * 12 + 12 ≤ length list →
      k ≡ q + 1 + z → Course g k t q (arrived_as t true) (lost_as t true z)
  page_arrived z Ready tie a h c = even (lost_one a h (omega arith)) tt
  page_arrived z (Asking r) (inl e) a h c = absurd (false≢true (ap sends_page e))
  page_arrived z (Asking r) (inr e) a h c = absurd (false≢true (ap is_ready e))
  page_arrived z (Sending b) (inl e) a h c = undecided a h c e refl
  page_arrived z (Sending b) (inr e) a h c = absurd (false≢true (ap is_ready e))

  -- or has come before
  pub page_sure : {g : List ℕ} {k z : ℕ} (p : ℕ) (t : Standing) (q : ℕ) → q ≡ moves_on true p → g ≡ take (p * 12 + 12) list → p * 12 + 12 ≤ length list →
      k ≡ p + 1 + z → Course g k t q nothing z
  page_sure {g = g} {k = k} {z = z} p t q e a h c =
      subst (λ (n : ℕ). Course g k t n nothing z) (sym (e ∙ moves_more p (last_no p h)))
      (even (in_step (a ∙ ap (λ (n : ℕ). take n list) (next_page p)) (omega arith) c) tt)

  -- an answer that is no page arrives
  pub other_arrived : {g : List ℕ} {k q z : ℕ} (t : Standing) (a : FairAnswer) → (t ≡ Sending false) ⊎ (t ≡ Ready) → Course g k t q (under_way a) z →
      Course g k t q (arrived_as t false) z
  other_arrived Ready a tie c = passes c Ready nothing tt tt (λ e. false≢true (ap is_arrived e))
  other_arrived (Asking r) a tie c = passes c (Asking r) nothing tt tt (λ e. false≢true (ap is_arrived e))
  other_arrived (Sending true) a (inl e) c = absurd (false≢true (sym (ap sends_page e)))
  other_arrived (Sending true) a (inr e) c = absurd (false≢true (ap is_ready e))
  other_arrived (Sending false) a tie c = passes c (Sending false) (arrived false) tt tt (λ e. false≢true (ap is_arrived e))

  pub other_sure : {g : List ℕ} {k q z : ℕ} {t : Standing} (a : FairAnswer) → is_page a ≡ false → Course g k t q (sure a) z → Course g k t q nothing z
  other_sure {t = t} a e c = passes c t nothing tt e (λ x. false≢true (ap is_arrived x))

pub quiet_settled : (t : Standing) (v : Carried) → Quiet t v → Settled v
quiet_settled t nothing y = tt
quiet_settled t (under_way a) y = tt
quiet_settled t (sure a) y = tt
quiet_settled t (arrived true) y = absurd y
quiet_settled t (arrived false) y = tt
