-- `tell` meets its promise.
use mathlib.Core.Path.{refl, sym, ◌∙◌}
use Rattle.laws.specs.Lent.{accepted}
use Rattle.messages.proofs.Numbers.{numbered}
use Rattle.controller.proofs.Accepting.{accepted_kept}
use Rattle.controller.proofs.told.tell.Goals as goal

pub returns-in-Ok : goal.returns-in-Ok
unfolding accepted
returns-in-Ok c = (rw c.in-Ok.is refl, rw (c.in-Ok.is, ← c.side_number.ensures) c.told_numbers.ensures)

pub returns-in-Err : goal.returns-in-Err
returns-in-Err c = (
  rw c.in-Err.is c.from.ensures,
  accepted_kept _ _ _ (λ e. numbered c.in-Err.refused.refusal (sym c.from.ensures ∙ e)),
)
