-- `dock_load` meets its promise.
use mathlib.Core.Path.{refl}
use Rattle.controller.proofs.DockHanding.{loads_written, loads_kept}
use Rattle.controller.proofs.dock_calls.dock_load.Goals as goal

pub returns-in-Ok : goal.returns-in-Ok
returns-in-Ok c = loads_written (c.hand_over-number.ensures c.dock_from.result) c.dock_from.ensures c.load-given.ensures c.in-Ok.is refl refl

pub returns-in_default : goal.returns-in_default
returns-in_default c = loads_kept (c.hand_over-number.ensures c.dock_from.result) c.dock_from.ensures c.load-given.ensures c.in_default.is refl refl
