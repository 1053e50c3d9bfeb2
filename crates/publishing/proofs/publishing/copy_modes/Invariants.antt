-- `copy_modes` meets its promise. The loop's invariant: the words before k are copied, and what the definition gives is
-- theirs and the rest's.
use mathlib.Core.Path.{◌≡◌}
use lib.ListN.{length}
use Rattle.publishing.specs.Publishing.{copied}
use Rattle.publishing.proofs.Copying.{copied_from}
use Rattle.publishing.proofs.publishing.copy_modes.Given as goal

abbrev pub invariant-loop-k : goal.invariant-loop-k
invariant-loop-k l =
    (length l.held_run ≡ length l.initial.held_run) × (copied l.modes l.run 0 l.initial.held_run ≡ copied_from l.modes l.run l.k l.held_run)
