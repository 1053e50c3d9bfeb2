-- `modes_at` meets its promise.
use mathlib.Core.Path.{◌∙◌}
use native.Mathlib.Omega.{arith}
use Rattle.laptop.proofs.Numbers.{number_most}
use Rattle.catalogue.proofs.Places.{modes_part}
use Rattle.catalogue.proofs.parts.Parts.modes_at.Goals as goal

pub slice_bounds-result-end : goal.slice_bounds-result-end
slice_bounds-result-end c = omega (arith, number_most c.args.self.modes.now c.args.i, c.args.self.few_svids, c.args.self.whole_run)

pub returns : goal.returns
returns c = modes_part c.args.self.modes.now c.args.i c.args.self.run.now _ (c.from.ensures ∙ c.modes_number.ensures)
