-- `catalogue_read` meets its promise.
use mathlib.Core.Path.{refl, ap, ◌∙◌}
use Prim.Native.Nat.{ℕ}
use Rattle.messages.proofs.Numbers.{numbered}
use Rattle.controller.specs.CatalogueReading.{with_offset}
use Rattle.controller.proofs.ReadingBack.{small, read_accepted, read_refused}
use Rattle.controller.proofs.catalogue_reading.catalogue_read.Goals as goal

pub sizes_of-requires : goal.sizes_of-requires
sizes_of-requires c = small c.in-Ok.ensures

pub with_offset-requires : goal.with_offset-requires
with_offset-requires c = (small c.in-Ok.ensures).at_most

pub returns-in-Ok : goal.returns-in-Ok
returns-in-Ok c = read_accepted _ _ _ _ _ _ c.in-Ok.ensures _ c.with_offset.ensures _ refl c.sizes_of.ensures

pub with_offset-requires-in-Err : goal.with_offset-requires-in-Err
with_offset-requires-in-Err c = (small c.in-Err.ensures).at_most

pub returns-in-Err : goal.returns-in-Err
returns-in-Err c =
    read_refused _ _ _ _ _ _ c.in-Err.ensures _ (c.with_offset-in-Err.ensures ∙ ap (λ (n : ℕ). with_offset n c.in-Err.fault.at) c.from.ensures) _
    (numbered c.in-Err.fault.refusal) refl
