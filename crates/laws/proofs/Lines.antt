-- Lines that all hold, and the first of several that holds.
use mathlib.Core.Logic.{◌↔◌}
use mathlib.Core.Path.{◌≡◌, refl, sym}
use mathlib.Core.Bool.{Bool, true, false, not, ◌&&◌, ◌||◌, false≢true}
use mathlib.Core.List.{List, [], ◌∷◌}
use Prim.Native.Nat.{ℕ, zero, suc, ◌+◌, ◌<◌, ◌≤◌}
use native.Mathlib.Omega.{arith}
use lib.ListN.{get_or}
use Rattle.laws.specs.Lines.{first_line, first_at, all_hold}

pub and_left : (a b : Bool) → (a && b) ≡ true → a ≡ true
and_left true b e = refl
and_left false b e = e

pub and_right : (a b : Bool) → (a && b) ≡ true → b ≡ true
and_right true b e = e
and_right false b e = absurd (false≢true e)

pub or_right : (a b : Bool) → (not a || b) ≡ true → a ≡ true → b ≡ true
or_right true b e h = e
or_right false b e h = absurd (false≢true h)

-- each of them holds
pub hold_at : (lines : List Bool) → all_hold lines ≡ true → (k : ℕ) → get_or lines k true ≡ true
hold_at [] e k = refl
hold_at (line ∷ lines) e zero = and_left line (all_hold lines) e
hold_at (line ∷ lines) e (suc k) = hold_at lines (and_right line (all_hold lines) e) k

-- a number is given exactly when its line is the first that holds
first_given : (n : ℕ) (lines : List Bool) (k : ℕ) → first_at lines k ≡ true → first_line n lines ≡ n + k
first_given n [] k e = absurd (false≢true e)
first_given n (true ∷ lines) zero e = omega arith
first_given n (true ∷ lines) (suc k) e = absurd (false≢true e)
first_given n (false ∷ lines) zero e = absurd (false≢true e)
first_given n (false ∷ lines) (suc k) e = let given = first_given (n + 1) lines k e in omega arith

first_bound : (n : ℕ) (lines : List Bool) → (first_line n lines ≡ 0 → ⊥) → n ≤ first_line n lines
first_bound n [] h = absurd (h refl)
first_bound n (true ∷ lines) h = omega arith
first_bound n (false ∷ lines) h = let later = first_bound (n + 1) lines h in omega arith

first_only : (n : ℕ) (lines : List Bool) (k : ℕ) → 0 < n → first_line n lines ≡ n + k → first_at lines k ≡ true
first_only n [] k h e = absurd (omega arith)
first_only n (true ∷ lines) zero h e = refl
first_only n (true ∷ lines) (suc k) h e = absurd (omega arith)
first_only n (false ∷ lines) zero h e = absurd (omega (arith, first_bound (n + 1) lines (λ z. omega arith)))
first_only n (false ∷ lines) (suc k) h e = first_only (n + 1) lines k (omega arith) (omega arith)

pub first_line_lem : (n : ℕ) (lines : List Bool) (k : ℕ) → 0 < n → (first_line n lines ≡ n + k) ↔ (first_at lines k ≡ true)
first_line_lem n lines k h = (first_only n lines k h, first_given n lines k)

pub first_at_lem : (lines : List Bool) (k : ℕ) → ((j : ℕ) → j < k → get_or lines j false ≡ false) → get_or lines k false ≡ true → first_at lines k ≡ true
first_at_lem [] k before holds = holds
first_at_lem (line ∷ lines) zero before holds = holds
first_at_lem (true ∷ lines) (suc k) before holds = absurd (false≢true (sym (before zero (omega arith))))
first_at_lem (false ∷ lines) (suc k) before holds = first_at_lem lines k (λ j h. before (suc j) (omega arith)) holds

pub none_holds : (n : ℕ) (lines : List Bool) → 0 < n → first_line n lines ≡ 0 → (k : ℕ) → get_or lines k false ≡ false
none_holds n [] h e k = refl
none_holds n (true ∷ lines) h e k = absurd (omega arith)
none_holds n (false ∷ lines) h e zero = refl
none_holds n (false ∷ lines) h e (suc k) = none_holds (n + 1) lines (omega arith) e k
