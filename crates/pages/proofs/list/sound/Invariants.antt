-- `sound` meets its promise. The loop's invariant: what is left is sound exactly if the list is.
use mathlib.Core.Path.{◌≡◌}
use lib.ListN.{drop}
use Rattle.pages.specs.Lists.{sound_list}
use Rattle.pages.proofs.list.sound.Given as goal

abbrev pub invariant-loop-i : goal.invariant-loop-i
invariant-loop-i l = sound_list l.list ≡ sound_list (drop l.i l.list)
