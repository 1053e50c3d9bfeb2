-- `laptop_exit` meets its promise.
use Rattle.controller.proofs.LaptopHanding.{sends_in}
use Rattle.controller.proofs.laptop_owner.laptop_exit.Goals as goal

pub returns : goal.returns
returns c = sends_in c.hand_over.ensures c.side_from.ensures c.port_from.ensures c.exit-given.ensures
