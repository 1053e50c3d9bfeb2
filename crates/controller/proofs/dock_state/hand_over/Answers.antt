-- `hand_over` meets its promise.
use mathlib.Core.Path.{◌≡◌, refl, sym, ◌∙◌}
use Rattle.laws.specs.Lent.{accepted}
use Rattle.messages.proofs.Numbers.{numbered}
use Rattle.controller.proofs.Accepting.{accepted_kept}
use Rattle.controller.proofs.dock_state.hand_over.Goals as goal

pub returns-in-Ok : goal.returns-in-Ok
unfolding accepted
returns-in-Ok c dock = rw c.in-Ok.is (refl, c.dock_numbers.ensures, refl)

pub returns-in-Err : goal.returns-in-Err
returns-in-Err c dock =
    let refused : c.from.result ≡ 0 → ⊥ = λ e. numbered c.in-Err.refusal (sym c.from.ensures ∙ e) in
    rw c.in-Err.is (c.from.ensures, accepted_kept _ _ _ refused, accepted_kept _ _ _ refused)
