-- `put_words` meets its promise: what is left, put from where the loop stands, gives what all of it gives at the start.
use Rattle.rebuilding.proofs.Putting.{PuttingWords}
use Rattle.rebuilding.proofs.words.put_words.Given as goal

abbrev pub invariant-loop-i : goal.invariant-loop-i
invariant-loop-i l =
    PuttingWords l.bytes l.at l.number l.initial.run l.place l.run l.i
