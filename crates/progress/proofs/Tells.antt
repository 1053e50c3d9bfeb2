-- What has come beside where the laptop stands.
use mathlib.Core.Path.{◌≡◌, refl, ap, sym, ◌∙◌, subst}
use mathlib.Core.Logic.{◌⊎◌, inl, inr}
use mathlib.Core.Bool.{false}
use mathlib.Core.List.{List, [], ◌∷◌}
use Prim.Native.Nat.{ℕ, zero, suc, ◌+◌, ◌*◌, ◌/◌, ◌<◌, ◌≤◌}
use native.Mathlib.Omega.{arith}
use lib.ListN.{length}
use Rattle.messages.specs.Layout.{Message}
use Rattle.dock.specs.Data.{listed}
use Rattle.dock.specs.declared.Dock.{Dock}
use Rattle.laptop.specs.declared.Candidate.TheVariants.{Absent, Open, Done}
use Rattle.laptop.specs.declared.Laptop.{Laptop}
use Rattle.laptop_laws.specs.WellFormed.{awaits_identity}
use Rattle.link.specs.Demand.{Meets}
use Rattle.link.specs.Needed.{list_answers, missing, needed, pages_in, in_all_of}
use Rattle.progress.proofs.InOrder.{Come, pages_left, still_needed, nak_left, nak_needed, list_in_all, needed_in_all}

module _ (modes_of : ℕ → List ℕ) (d : Dock) (meets : Meets modes_of d) where
  -- nothing has come; or all; or Identity and the first p pages; or also the last page and the modes of some SVIDs
  pub data Tells (l : Laptop) (got : List Message) : Type 0 where
    none_came : got ≡ [] → l.candidate ≡ Absent → Tells l got
    all_came : needed modes_of d got ≡ 0 → missing (list_answers (listed d)) got ≡ 0 → l.candidate ≡ Absent → awaits_identity l.wait ≡ false →
        l.pages ≡ pages_in got → Tells l got
    pages_come : (p : ℕ) → l.candidate ≡ Open → l.gathered.count ≡ p * 12 → p * 12 ≤ length (listed d) → l.pages ≡ pages_in got →
        Come modes_of d meets p 0 got → Tells l got
    modes_come : l.candidate ≡ Done → 0 < length (listed d) → l.stored < length (listed d) → l.pages ≡ pages_in got →
        Come modes_of d meets (length (listed d) / 12 + 1) l.stored got → Tells l got

  -- a laptop with the same candidate, of which no less is known
  pub tells_same : (l l' : Laptop) (got : List Message) → l'.candidate ≡ l.candidate → l'.gathered ≡ l.gathered → l'.stored ≡ l.stored →
      l'.pages ≡ l.pages → (awaits_identity l.wait ≡ false → awaits_identity l'.wait ≡ false) → Tells l got → Tells l' got
  tells_same l l' got c g f p w (none_came e a) = none_came e (c ∙ a)
  tells_same l l' got c g f p w (all_came e n a i k) = all_came e n (c ∙ a) (w i) (p ∙ k)
  tells_same l l' got c g f p w (pages_come q a b h k t) = pages_come q (c ∙ a) (ap (λ x. x.count) g ∙ b) h (p ∙ k) t
  tells_same l l' got c g f p w (modes_come a s h k t) =
      modes_come (c ∙ a) s (omega arith) (p ∙ k) (subst (λ (n : ℕ). Come modes_of d meets (length (listed d) / 12 + 1) n got) (sym f) t)

  some_in_all : (n : ℕ) → 0 < in_all_of n
  some_in_all zero = omega arith
  some_in_all (suc n) = omega arith

  pub needs_some : 0 < needed modes_of d []
  needs_some = omega (arith, needed_in_all modes_of d meets, some_in_all (length (listed d)))

  -- an empty list, or not
  pub empty_or_some : (list : List ℕ) → (list ≡ []) ⊎ (0 < length list)
  empty_or_some [] = inl refl
  empty_or_some (svid ∷ list) = inr (omega arith)

  -- while the list is open an answer to SVIDs is missing
  pub open_left : (p : ℕ) (got : List Message) → p * 12 ≤ length (listed d) → Come modes_of d meets p 0 got → 0 < missing (list_answers (listed d)) got
  open_left p got h come = go (empty_or_some (listed d))
    where
      go : (listed d ≡ []) ⊎ (0 < length (listed d)) → 0 < missing (list_answers (listed d)) got
      go (inl e) = omega (arith, nak_left modes_of d meets p 0 got come e)
      go (inr some) = omega (arith, pages_left modes_of d meets p 0 got come some)

  pub open_needed : (p : ℕ) (got : List Message) → p * 12 ≤ length (listed d) → Come modes_of d meets p 0 got → 0 < needed modes_of d got
  open_needed p got h come = go (empty_or_some (listed d))
    where
      go : (listed d ≡ []) ⊎ (0 < length (listed d)) → 0 < needed modes_of d got
      go (inl e) = omega (arith, nak_needed modes_of d meets p 0 got come e)
      go (inr some) = omega (arith, still_needed modes_of d meets p 0 got come some)

  -- with nothing come the list is open too
  pub none_left : 0 < missing (list_answers (listed d)) []
  unfolding list_answers
  none_left = go (empty_or_some (listed d))
    where
      go : (listed d ≡ []) ⊎ (0 < length (listed d)) → 0 < missing (list_answers (listed d)) []
      go (inl e) = subst (λ (list : List ℕ). 0 < missing (list_answers list) []) (sym e) (omega arith)
      go (inr some) = omega (arith, list_in_all modes_of d meets some)

  -- while modes are missing none is
  pub modes_left_list : (f : ℕ) (got : List Message) → 0 < length (listed d) → Come modes_of d meets (length (listed d) / 12 + 1) f got →
      missing (list_answers (listed d)) got ≡ 0
  modes_left_list f got some come = omega (arith, pages_left modes_of d meets (length (listed d) / 12 + 1) f got come some)

  -- where none is missing any more there is no candidate, and all pages that came are counted
  pub finished_absent : (l : Laptop) (got : List Message) → needed modes_of d got ≡ 0 → Tells l got → l.candidate ≡ Absent
  finished_absent l got n (none_came e a) = a
  finished_absent l got n (all_came e z a w k) = a
  finished_absent l got n (pages_come p a count most pages come) = absurd (omega (arith, open_needed p got most come))
  finished_absent l got n (modes_come a some h k come) =
      absurd (omega (arith, still_needed modes_of d meets (length (listed d) / 12 + 1) l.stored got come some))

  pub finished_pages : (l : Laptop) (got : List Message) → needed modes_of d got ≡ 0 → Tells l got → l.pages ≡ pages_in got
  finished_pages l got n (none_came e a) = absurd (omega (arith, needs_some, ap (needed modes_of d) e))
  finished_pages l got n (all_came e z a w k) = k
  finished_pages l got n (pages_come p a count most pages come) = pages
  finished_pages l got n (modes_come a some h k come) = k
