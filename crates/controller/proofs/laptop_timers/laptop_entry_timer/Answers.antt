-- `laptop_entry_timer` meets its promise.
use Rattle.controller.proofs.LaptopHanding.{sends_nothing_in}
use Rattle.controller.proofs.laptop_timers.laptop_entry_timer.Goals as goal

pub returns : goal.returns
returns c = sends_nothing_in c.hand_over.ensures c.port_from.ensures c.entry_timer.ensures
