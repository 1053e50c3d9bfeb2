-- `same_wait` meets its promise.
use mathlib.Core.Path.{◌∙◌}
use Rattle.controller.proofs.PortSame.{same_wait}
use Rattle.controller.proofs.port_same.same_wait.Goals as goal

pub returns : goal.returns
returns c = c.eq.ensures ∙ same_wait c.args.one c.args.other
