-- `hand_over_here` meets its promise.
use mathlib.Core.Path.{ap, ◌∙◌}
use Rattle.controller.specs.Port.{numbers_after}
use Rattle.controller.proofs.told.hand_over_here.Goals as goal

pub returns : goal.returns
returns c = (c.tell.ensures.0, c.put_port_here.ensures ∙ ap (numbers_after c.args.state.now) c.port_in.ensures, c.tell.ensures.1)
