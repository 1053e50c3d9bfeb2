-- `is_in` meets its promise.
use mathlib.Core.Path.{sym, ◌∙◌}
use Rattle.pages.proofs.Scanning.{in_next, in_end}
use Rattle.pages.proofs.list.is_in.Goals as goal

pub loop-listed-preserved : goal.loop-listed-preserved
loop-listed-preserved c = c.loop-listed.invariant ∙ in_next c.args.list.now c.loop-listed.listed-index c.loop-listed-test.true c.loop-listed.found c.args.svid

pub returns : goal.returns
returns c = sym (c.loop-listed.invariant ∙ in_end c.loop-listed.found c.args.svid c.args.list.now c.loop-listed.listed-index c.loop-listed-test.false)
