-- A table's rule at each row, from the one test over the table.
use mathlib.Core.Path.{◌≡◌, subst, sym}
use mathlib.Core.Bool.{Bool, true}
use mathlib.Core.List.{List, [], ◌∷◌}
use Prim.Native.Nat.{ℕ, zero, suc, ◌+◌, ◌<◌}
use native.Mathlib.Nat.{add-zero, zero-add, le_of_suc-le-suc, not-suc-le-zero}
use native.Mathlib.Omega.{arith}
use lib.ListN.{length, get_or}
use Rattle.laws.specs.Rows.{every}
use Rattle.laws.proofs.Lines.{and_left, and_right}

module _ {A : Type 0} (test : ℕ → A → Bool) (none : A) where
  from : (rows : List A) (i : ℕ) → every test i rows ≡ true → (k : ℕ) → k < length rows → test (i + k) (get_or rows k none) ≡ true
  from [] i e k h = absurd (not-suc-le-zero h)
  from (row ∷ rows) i e zero h =
      subst (λ (n : ℕ). test n row ≡ true) (sym (add-zero i)) (and_left (test i row) (every test (suc i) rows) e)
  from (row ∷ rows) i e (suc k) h =
      let n : suc i + k ≡ i + suc k = omega arith in
      subst (λ (n : ℕ). test n (get_or rows k none) ≡ true) n
      (from rows (suc i) (and_right (test i row) (every test (suc i) rows) e) k (le_of_suc-le-suc h))

  pub at_row : (rows : List A) → every test 0 rows ≡ true → (k : ℕ) → k < length rows → test k (get_or rows k none) ≡ true
  at_row rows e k h = subst (λ (n : ℕ). test n (get_or rows k none) ≡ true) (zero-add k) (from rows 0 e k h)
