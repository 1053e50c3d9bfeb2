-- The modes of the SVID at a place.
use mathlib.Core.Path.{◌≡◌, ap}
use mathlib.Core.List.{List}
use Prim.Native.Nat.{ℕ, ◌+◌, ◌*◌, ◌-◌, ◌≤◌}
use native.Mathlib.Omega.{arith}
use lib.ListN.{length, take, drop, length-take}
use Rattle.laptop.specs.Catalogue.{modes_each, modes_number, modes_at}
use Rattle.laptop.proofs.Numbers.{number_most}

module _ (modes : List ℕ) (i : ℕ) where
  -- words 6i to 6i + 5, as many as there are modes
  pub modes_part : (run : List ℕ) (n : ℕ) → n ≡ modes_number modes i →
      take (i * modes_each + n - i * modes_each) (drop (i * modes_each) run) ≡ modes_at modes run i
  unfolding modes_at
  modes_part run n e =
      let same : i * modes_each + n - i * modes_each ≡ modes_number modes i = omega (arith, e) in
      ap (λ (k : ℕ). take k (drop (i * modes_each) run)) same

  pub modes_most : (run : List ℕ) → length (modes_at modes run i) ≤ modes_each
  unfolding modes_at
  modes_most run = omega (arith, length-take (modes_number modes i) (drop (i * modes_each) run), number_most modes i)
