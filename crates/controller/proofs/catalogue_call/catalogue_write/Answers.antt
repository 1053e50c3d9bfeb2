-- `catalogue_write` meets its promise.
use mathlib.Core.Path.{refl}
use Rattle.messages.proofs.Numbers.{numbered}
use Rattle.controller.proofs.LaptopHanding.{held_as, wrote, wrote_nothing}
use Rattle.controller.proofs.catalogue_call.catalogue_write.Goals as goal

pub returns-in-Ok : goal.returns-in-Ok
returns-in-Ok c = wrote (held_as c.side_from.ensures c.port_from.ensures _ _ _ _ c.in-Ok.ensures) refl refl

pub returns-in-Err : goal.returns-in-Err
returns-in-Err c =
    rw c.from.ensures
    (wrote_nothing (held_as c.side_from.ensures c.port_from.ensures _ _ _ _ c.in-Err.ensures) (numbered c.in-Err.refusal) refl)
