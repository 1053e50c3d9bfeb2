-- `is_in` meets its promise. The loop's invariant: the list has the SVID exactly if it was found or what is left has
-- it.
use mathlib.Core.Path.{◌≡◌}
use mathlib.Core.Bool.{◌||◌}
use lib.ListN.{drop}
use Rattle.pages.specs.Lists.{is_in}
use Rattle.pages.proofs.list.is_in.Given as goal

abbrev pub invariant-loop-listed : goal.invariant-loop-listed
invariant-loop-listed l = is_in l.svid l.list ≡ (l.found || is_in l.svid (drop l.listed-index l.list))
