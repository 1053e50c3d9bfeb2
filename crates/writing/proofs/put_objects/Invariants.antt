-- The loop of `put_objects`: the first i objects stand behind the header's place, and nothing else has changed.
use mathlib.Core.Path.{◌≡◌}
use lib.ListN.{take}
use lib.Seq.{sets}
use Rattle.messages.specs.Layout.{bytes_of}
use Rattle.writing.proofs.put_objects.Given as goal

abbrev pub invariant-loop-i : goal.invariant-loop-i
invariant-loop-i l = l.out ≡ sets l.initial.out 4 (bytes_of (take l.i l.objects))
