-- `dock_message` meets its promise.
use Rattle.controller.proofs.DockHanding.{sends_in}
use Rattle.controller.proofs.dock_calls.dock_message.Goals as goal

pub returns : goal.returns
returns c = sends_in (c.hand_over.ensures c.dock_from.result) c.dock_from.ensures c.message-given.ensures
