-- Parts of a list from the front.
use mathlib.Core.Path.{◌≡◌, ap}
use mathlib.Core.List.{List}
use Prim.Native.Nat.{ℕ, ◌-◌}
use native.Mathlib.Omega.{arith}
use lib.ListN.{take}

pub first_part : (n : ℕ) (l : List ℕ) → take (n - 0) l ≡ take n l
first_part n l = let e : n - 0 ≡ n = omega arith in ap (λ (k : ℕ). take k l) e
