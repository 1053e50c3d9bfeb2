-- `laptop_message` meets its promise.
use Rattle.controller.proofs.LaptopHanding.{hears_in}
use Rattle.controller.proofs.laptop_calls.laptop_message.Goals as goal

pub returns : goal.returns
returns c = hears_in c.hand_over.ensures c.side_from.ensures c.port_from.ensures c.hear-heard.ensures c.given_on-given.ensures
