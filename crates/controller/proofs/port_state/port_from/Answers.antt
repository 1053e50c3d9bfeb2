-- `port_from` meets its promise.
use Rattle.controller.specs.Port.{port_from}
use Rattle.controller.proofs.port_state.port_from.Goals as goal

pub returns : goal.returns
unfolding port_from
returns c = rw (c.wait_in.ensures, c.own_from.ensures, c.own_from-2.ensures)
