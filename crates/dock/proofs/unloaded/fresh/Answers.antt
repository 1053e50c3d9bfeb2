-- `fresh` meets its promise.
use mathlib.Core.Path.{refl}
use Rattle.dock.specs.Data.{fresh_dock}
use Rattle.dock.proofs.unloaded.fresh.Goals as goal

pub returns : goal.returns
unfolding fresh_dock
returns c = refl
