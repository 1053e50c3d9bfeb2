-- `catalogue_mend` meets its promise.
use mathlib.Core.Path.{refl, ap, ◌∙◌}
use Prim.Native.Nat.{ℕ}
use Rattle.mending.specs.Shown.{outcome_in}
use Rattle.controller.specs.CatalogueReading.{with_offset}
use Rattle.controller.proofs.Mending.{sound_small, partial_small, fault_near, mend_refused, mend_sound, mend_partial}
use Rattle.controller.proofs.catalogue_mending.catalogue_mend.Goals as goal

pub numbers_of-requires : goal.numbers_of-requires
numbers_of-requires c = sound_small _ _ _ _ c.in-Ok-Sound.ensures _ (ap outcome_in c.in-Ok-Sound.field-0-is)

pub numbers_of-requires-in-Ok-Partial : goal.numbers_of-requires-in-Ok-Partial
numbers_of-requires-in-Ok-Partial c = partial_small _ _ _ _ c.in-Ok-Partial.ensures _ _ (ap outcome_in c.in-Ok-Partial.field-0-is)

pub with_offset-requires : goal.with_offset-requires
with_offset-requires c = fault_near _ _ _ _ c.in-Ok-Partial.ensures _ _ (ap outcome_in c.in-Ok-Partial.field-0-is)

pub returns-in-Ok-Sound : goal.returns-in-Ok-Sound
returns-in-Ok-Sound c = mend_sound _ _ _ _ c.in-Ok-Sound.ensures _ _ (ap outcome_in c.in-Ok-Sound.field-0-is) refl c.numbers_of.ensures

pub returns-in-Ok-Partial : goal.returns-in-Ok-Partial
returns-in-Ok-Partial c =
    mend_partial _ _ _ _ c.in-Ok-Partial.ensures _ _ _ (ap outcome_in c.in-Ok-Partial.field-0-is)
    (c.with_offset.ensures ∙ ap (λ (n : ℕ). with_offset n c.in-Ok-Partial.fault.at) c.from.ensures) c.numbers_of-in-Ok-Partial.ensures

pub returns-in-Err : goal.returns-in-Err
returns-in-Err c =
    mend_refused _ _ _ _ c.in-Err.ensures _ _ refl (c.with_offset-in-Err.ensures ∙ ap (λ (n : ℕ). with_offset n 0) c.from-in-Err.ensures) refl
