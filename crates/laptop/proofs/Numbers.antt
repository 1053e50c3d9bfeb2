-- How many modes an SVID has.
use mathlib.Core.Path.{◌≡◌}
use mathlib.Core.List.{List}
use Prim.Native.Nat.{ℕ, ◌≤◌}
use native.Mathlib.Omega.{arith}
use lib.ListN.{get_or}
use Rattle.std.proofs.lemmas.Grind.{common_steps}
use Rattle.laptop.specs.Catalogue.{modes_each, modes_number}

module _ (modes : List ℕ) (i : ℕ) where
  pub number_few : (n : ℕ) → n ≡ get_or modes i 0 → n ≤ modes_each → n ≡ modes_number modes i
  unfolding modes_number
  number_few n e h = grind (arith, common_steps)

  pub number_most : modes_number modes i ≤ modes_each
  unfolding modes_number
  number_most = grind (arith, common_steps)
