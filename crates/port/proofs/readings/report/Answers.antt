-- `report` meets its promise.
use mathlib.Core.Path.{ap, ◌∙◌}
use Rattle.laptop.specs.Marks.{reported}
use Rattle.laptop.specs.declared.Laptop.{Laptop}
use Rattle.port.specs.Sides.{seen}
use Rattle.port.proofs.readings.report.Goals as goal

pub returns : goal.returns
unfolding seen
returns c = c.report.ensures ∙ ap (λ (l : Laptop). reported l.held c.args.held_svids.now c.args.entered.now c.args.svid) c.seen.ensures
