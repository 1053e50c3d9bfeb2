-- `values_of` meets its promise. The loop's invariant: the values before the place are the objects'.
use mathlib.Core.Path.{◌≡◌}
use Prim.Native.Nat.{ℕ, ◌<◌}
use lib.ListN.{length, get_or}
use Rattle.gathering.specs.Gathering.{six_halves}
use Rattle.gathering.proofs.gathering.values_of.Given as goal

abbrev pub invariant-loop-place : goal.invariant-loop-place
invariant-loop-place l = (length l.values ≡ 12) × ((k : ℕ) → k < l.place → get_or l.values k 0 ≡ get_or (six_halves l.objects) k 0)
