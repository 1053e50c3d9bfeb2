-- How many answers are missing, where those up to some place have come.
use mathlib.Core.Path.{◌≡◌, refl, ap, ap₂, ◌∙◌}
use mathlib.Core.Bool.{Bool, true, false, cond}
use mathlib.Core.List.{List, [], ◌∷◌, ◌++◌}
use Prim.Native.Nat.{ℕ, zero, suc, ◌+◌, ◌-◌, ◌<◌, ◌≤◌}
use native.Mathlib.Omega.{arith}
use lib.Dec.{ltb}
use lib.ListN.{length, get_or}
use borrow.Author.Tests.{ltb-true, ltb-false}
use Rattle.messages.specs.Layout.{Message}
use Rattle.link.specs.Needed.{page_answer, page_answers, modes_answer, modes_answers, has_come, missing}

module _ (got : List Message) where
  pub missing_append : (a b : List Message) → missing (a ++ b) got ≡ missing a got + missing b got
  missing_append [] b = omega arith
  missing_append (m ∷ a) b = ap (λ (n : ℕ). cond (has_come m got) 0 1 + n) (missing_append a b) ∙ together (cond (has_come m got) 0 1) (missing a got) (missing b got)
    where
      together : (x y z : ℕ) → x + (y + z) ≡ x + y + z
      together x y z = omega arith

  -- none are missing but those that are needed
  pub missing_most : (a : List Message) → missing a got ≤ missing a []
  missing_most [] = omega arith
  missing_most (m ∷ a) = go (has_come m got) (missing_most a)
    where
      go : (b : Bool) → missing a got ≤ missing a [] → cond b 0 1 + missing a got ≤ 1 + missing a []
      go true h = omega arith
      go false h = omega arith

  -- one more, of which it is known whether it has come
  one_more : (k p : ℕ) (b : Bool) → ltb k p ≡ b → k - p + (cond b 0 1 + 0) ≡ suc k - p
  one_more k p true e = omega (arith, ltb-true k p e)
  one_more k p false e = omega (arith, ltb-false k p e)

  -- of the first k pages the first p have come
  pub missing_pages : (list : List ℕ) (p k : ℕ) → ((i : ℕ) → i < k → has_come (page_answer list i) got ≡ ltb i p) → missing (page_answers list k) got ≡ k - p
  missing_pages list p zero f = omega arith
  missing_pages list p (suc k) f =
      missing_append (page_answers list k) (page_answer list k ∷ []) ∙
      ap₂ (λ (x : ℕ) (b : Bool). x + (cond b 0 1 + 0)) (missing_pages list p k (λ i h. f i (omega arith))) (f k (omega arith)) ∙
      one_more k p (ltb k p) refl

  -- of the SVIDs from place `at` on, those before place f have their modes
  pub missing_modes : (modes_of : ℕ → List ℕ) (f at : ℕ) (list : List ℕ) →
      ((j : ℕ) → j < length list → has_come (modes_answer modes_of (get_or list j 0)) got ≡ ltb (at + j) f) →
      missing (modes_answers modes_of list) got ≡ length list - (f - at)
  missing_modes modes_of f at [] c = omega arith
  missing_modes modes_of f at (svid ∷ list) c =
      ap₂ (λ (b : Bool) (n : ℕ). cond b 0 1 + n) (c 0 (omega arith) ∙ ap (λ (n : ℕ). ltb n f) (plain at))
      (missing_modes modes_of f (at + 1) list (λ j h. c (suc j) (omega arith) ∙ ap (λ (n : ℕ). ltb n f) (onward at j))) ∙
      first (ltb at f) refl
    where
      plain : (n : ℕ) → n + 0 ≡ n
      plain n = omega arith

      onward : (n j : ℕ) → n + suc j ≡ n + 1 + j
      onward n j = omega arith

      first : (b : Bool) → ltb at f ≡ b → cond b 0 1 + (length list - (f - (at + 1))) ≡ suc (length list) - (f - at)
      first true e = omega (arith, ltb-true at f e)
      first false e = omega (arith, ltb-false at f e)
