-- `dock_sent` meets its promise.
use Rattle.controller.proofs.DockHanding.{sends_nothing_in}
use Rattle.controller.proofs.dock_calls.dock_sent.Goals as goal

pub returns : goal.returns
returns c = sends_nothing_in (c.hand_over.ensures c.dock_from.result) c.dock_from.ensures c.sent-given.ensures
