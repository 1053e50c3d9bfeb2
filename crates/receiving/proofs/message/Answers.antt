-- `message` meets its promise: what was read is taken apart, and each case of it is one of the outcome.
use mathlib.Core.Path.{◌≡◌, refl, ap₂, sym, ◌∙◌}
use native.Mathlib.Omega.{arith}
use Rattle.std.specs.Prelude.{Err}
use Rattle.std.proofs.lemmas.Grind.{common_steps}
use Rattle.messages.specs.Reading.{read_outcome}
use Rattle.messages.proofs.Laws.{shown_message, shown_refused}
use Rattle.messages.specs.declared.edition.Edition.{Edition}
use Rattle.messages.specs.declared.refusal.Refusal.TheVariants.{Unawaited}
use Rattle.messages.specs.declared.request.Request.{Request}
use Rattle.dock.specs.Data.{with_edition}
use Rattle.dock.specs.Dock.{decide_request, decide_message, refuses}
use Rattle.dock.proofs.Decisions.{message_refused, message_answer, message_attention, message_request}
use Rattle.dock.proofs.Steps.{refuse, same}
use Rattle.receiving.proofs.message.Goals as goal

pub returns-in_err-received : goal.returns-in_err-received
returns-in_err-received c = let a = c.args in
    let o = read_outcome a.bytes.now in
    let is : c.from_residual.result ≡ Err c.in_err-received.field-0.0 = grind (arith, common_steps) in
    rw is (refuse a.dock _ a.out.now _ (message_refused a.dock o _ (shown_refused o _ _ c.in_err-received.ensures refl)))

pub returns-then-head-ne-REQ : goal.returns-then-head-ne-REQ
returns-then-head-ne-REQ c = let a = c.args in
    let o = read_outcome a.bytes.now in
    let m = shown_message o _ _ _ _ c.in_ok-received.ensures refl in
    let none : decide_message a.dock o ≡ refuses 6 = grind (arith, message_answer a.dock o _ m.0 _ m.1 m.2, message_attention a.dock o _ m.0 _ m.1 m.2) in
    refuse a.dock _ a.out.now Unawaited none

pub returns : goal.returns
returns c = let a = c.args in
    let o = read_outcome a.bytes.now in
    let m = shown_message o _ _ _ _ c.in_ok-received.ensures refl in
    let e = message_request a.dock o _ m.0 _ m.1 m.2 (grind arith) (grind arith) in
    same a.dock _ _ a.out.now _ _ (e ∙ ap₂ (λ (at : Edition) (r : Request). decide_request (with_edition at a.dock) r) (sym c.lower.ensures) (sym c.from.ensures)) c.receive.ensures
