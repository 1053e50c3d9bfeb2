-- `dock_numbers` meets its promise.
use Rattle.controller.specs.Dock.{dock_numbers}
use Rattle.controller.proofs.dock_state.dock_numbers.Goals as goal

pub returns : goal.returns
unfolding dock_numbers
returns c = rw (c.from.ensures, c.from-2.ensures, c.from-3.ensures, c.standing_numbers-standing.ensures, c.from-5.ensures, c.from-4.ensures)
