-- `put_words` meets its promise. The loop's invariant: the first i words stand there, and nothing else has changed.
use mathlib.Core.Path.{◌≡◌}
use lib.ListN.{take}
use lib.Seq.{sets}
use Rattle.answers.proofs.answers.put_words.Given as goal

abbrev pub invariant-loop-i : goal.invariant-loop-i
invariant-loop-i l = l.run ≡ sets l.initial.run l.at (take l.i l.words)
