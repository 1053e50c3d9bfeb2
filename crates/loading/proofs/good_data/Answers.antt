-- `good_data` meets its promise.
use native.Mathlib.Omega.{arith}
use Rattle.std.proofs.lemmas.Grind.{common_steps}
use Rattle.dock.specs.Data.{good_data, good_identity}
use Rattle.loading.proofs.good_data.Goals as goal

pub returns-then-svids-le-MOST_SVIDS : goal.returns-then-svids-le-MOST_SVIDS
unfolding good_data good_identity
returns-then-svids-le-MOST_SVIDS c = grind (arith, common_steps)

pub returns-else-svids-le-MOST_SVIDS : goal.returns-else-svids-le-MOST_SVIDS
unfolding good_data good_identity
returns-else-svids-le-MOST_SVIDS c = grind (arith, common_steps)
