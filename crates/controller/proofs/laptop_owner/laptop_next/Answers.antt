-- `laptop_next` meets its promise.
use Rattle.controller.proofs.LaptopHanding.{sends_in}
use Rattle.controller.proofs.laptop_owner.laptop_next.Goals as goal

pub returns : goal.returns
returns c = sends_in c.hand_over_here.ensures c.side_from.ensures c.port_from.ensures c.next-given.ensures
