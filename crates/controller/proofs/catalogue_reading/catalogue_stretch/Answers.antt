-- `catalogue_stretch` meets its promise.
use mathlib.Core.Path.{refl, ap, ◌∙◌}
use Prim.Native.Nat.{ℕ}
use native.Mathlib.Omega.{arith}
use Rattle.messages.proofs.Numbers.{numbered}
use Rattle.controller.specs.CatalogueReading.{with_offset}
use Rattle.controller.proofs.ReadingBack.{place_small, stretch_accepted, stretch_refused}
use Rattle.controller.proofs.catalogue_reading.catalogue_stretch.Goals as goal

pub overflow_cast-length : goal.overflow_cast-length
overflow_cast-length c = omega (arith, place_small _ _ c.in-Ok.ensures)

pub with_offset-requires : goal.with_offset-requires
with_offset-requires c = omega (arith, place_small _ _ c.in-Ok.ensures)

pub returns-in-Ok : goal.returns-in-Ok
returns-in-Ok c = stretch_accepted _ _ c.in-Ok.ensures _ c.with_offset.ensures _ refl refl

pub with_offset-requires-in-Err : goal.with_offset-requires-in-Err
with_offset-requires-in-Err c = omega (arith, place_small _ _ c.in-Err.ensures)

pub returns-in-Err : goal.returns-in-Err
returns-in-Err c =
    stretch_refused _ _ c.in-Err.ensures _ (c.with_offset-in-Err.ensures ∙ ap (λ (n : ℕ). with_offset n c.in-Err.fault.at) c.from.ensures) _
    (numbered c.in-Err.fault.refusal) refl
