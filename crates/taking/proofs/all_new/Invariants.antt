-- `all_new` meets its promise. The loop's invariant: what is left is new exactly if the values are.
use mathlib.Core.Path.{◌≡◌}
use lib.ListN.{drop}
use Rattle.taking.specs.Taking.{all_new}
use Rattle.taking.proofs.all_new.Given as goal

abbrev pub invariant-loop-i : goal.invariant-loop-i
invariant-loop-i l = all_new l.list l.values ≡ all_new l.list (drop l.i l.values)
