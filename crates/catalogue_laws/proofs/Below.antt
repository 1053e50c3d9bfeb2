-- A part of a list of numbers below a bound.
use Prim.Native.Nat.{ℕ, zero, suc, ◌+◌}
use mathlib.Core.List.{List, [], ◌∷◌}
use native.Mathlib.Omega.{arith}
use lib.ListN.{take, drop}
use lib.Seq.{get_or-drop}
use Rattle.laws.specs.Bounded.{Below}

module _ (bound : ℕ) where
  pub take_below : (n : ℕ) (l : List ℕ) → Below bound l → Below bound (take n l)
  take_below zero l b k = omega (arith, b k)
  take_below (suc n) [] b k = b k
  take_below (suc n) (x ∷ l) b zero = b 0
  take_below (suc n) (x ∷ l) b (suc k) = take_below n l (λ j. b (suc j)) k

  pub drop_below : (n : ℕ) (l : List ℕ) → Below bound l → Below bound (drop n l)
  drop_below n l b k = rw (get_or-drop n l k 0) (b (n + k))
