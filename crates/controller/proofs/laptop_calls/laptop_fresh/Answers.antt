-- `laptop_fresh` meets its promise.
use mathlib.Core.Path.{ap, ◌∙◌}
use Rattle.controller.specs.Port.{port_numbers}
use Rattle.controller.proofs.laptop_calls.laptop_fresh.Goals as goal

pub returns : goal.returns
returns c = (c.write_port.ensures ∙ ap port_numbers c.fresh.ensures.0, c.fresh.ensures.1, c.fresh.ensures.2)
