-- `hear` meets its promise.
use Rattle.controller.proofs.LaptopHanding.{heard_as}
use Rattle.controller.proofs.laptop_calls.hear.Goals as goal

pub returns : goal.returns
returns c = heard_as c.side_from.ensures c.port_from.ensures c.seen.ensures _ _ c.message.ensures
