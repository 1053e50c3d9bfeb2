-- `wait_in` meets its promise.
use Rattle.controller.specs.Port.{wait_in}
use Rattle.controller.proofs.port_state.wait_in.Goals as goal

pub returns : goal.returns
unfolding wait_in
returns c = rw (c.wait_from.ensures, c.request_from.ensures)
