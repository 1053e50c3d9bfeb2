-- `put_modes` meets its promise: the entries that are left, put from where the loop stands, give what all of them give at the start.
use Rattle.rebuilding.proofs.Putting.{PuttingModes}
use Rattle.rebuilding.proofs.words.put_modes.Given as goal

abbrev pub invariant-loop-i : goal.invariant-loop-i
invariant-loop-i l =
    PuttingModes l.bytes l.fn.walk l.numbers l.initial.run l.run l.at l.i
