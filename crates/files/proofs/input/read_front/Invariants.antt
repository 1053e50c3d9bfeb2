-- `files::input::read_front` is safe and ends. The front keeps its length, and the measure is how much of it is left to read.
-- Assumes nothing.
use Prim.Native.Nat.{◌-◌, ◌≤◌}
use lib.ListN.{length}
use mathlib.Core.Path.{◌≡◌}
use Rattle.files.proofs.input.read_front.Given as goal

abbrev pub invariant-loop-end : goal.invariant-loop-end
invariant-loop-end g l = (length l.front ≡ length l.initial.front) × (l.end ≤ length l.initial.front)

abbrev pub decreases-loop-end : goal.decreases-loop-end
decreases-loop-end g l = length l.initial.front - l.end
