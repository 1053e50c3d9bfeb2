-- `same_own` meets its promise.
use mathlib.Core.Path.{◌∙◌}
use Rattle.controller.proofs.PortSame.{same_own}
use Rattle.controller.proofs.port_same.same_own.Goals as goal

pub returns : goal.returns
returns c = c.eq.ensures ∙ same_own c.args.a c.args.b
