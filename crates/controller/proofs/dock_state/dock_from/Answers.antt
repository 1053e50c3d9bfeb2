-- `dock_from` meets its promise.
use Rattle.controller.specs.Dock.{dock_from}
use Rattle.controller.proofs.dock_state.dock_from.Goals as goal

pub returns : goal.returns
unfolding dock_from
returns c = rw (c.low_byte.ensures, c.low_byte-2.ensures, c.low_byte-3.ensures, c.standing_from.ensures, c.request_from.ensures, c.edition_from.ensures)
