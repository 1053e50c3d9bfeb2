-- `send` meets its promise: the message is handed over, or the buffer refuses it and the dock stays.
use mathlib.Core.Path.{◌≡◌, ap, ◌∙◌}
use native.Mathlib.Omega.{arith}
use Rattle.std.specs.Prelude.{Err}
use Rattle.std.proofs.lemmas.Grind.{common_steps}
use Rattle.dock.specs.Data.{with_standing, with_edition}
use Rattle.dock.specs.Dock.{reply, sending}
use Rattle.dock.specs.declared.Standing.TheVariants.{Sending}
use Rattle.dock.proofs.Steps.{send_refused, send_few, send_whole, written_head}
use Rattle.dock.proofs.replying.send.Goals as goal

pub returns-in_err-write : goal.returns-in_err-write
unfolding sending
returns-in_err-write c = let a = c.args in
    let o = a.objects.now in
    let w = written_head a.edition _ _ o a.out.now _ _ c.head_for.ensures c.in_err-write.ensures in
    let is : c.from_residual.result ≡ Err c.in_err-write.field-0.0 = grind (arith, common_steps) in
    rw is (send_refused a.dock (sending a.page (with_edition a.edition a.dock)) (reply a.request a.kind o) a.out.now _ _ w)

pub overflow_cast-result : goal.overflow_cast-result
overflow_cast-result c = let a = c.args in
    let o = a.objects.now in
    let w = written_head a.edition _ _ o a.out.now _ _ c.head_for.ensures c.in_ok-write.ensures in
    omega (arith, send_few a.dock (with_edition a.edition a.dock) (reply a.request a.kind o) a.out.now _ w)

pub returns : goal.returns
unfolding sending
returns c = let a = c.args in
    let o = a.objects.now in
    let w = written_head a.edition _ _ o a.out.now _ _ c.head_for.ensures c.in_ok-write.ensures in
    send_whole a.dock (sending a.page (with_edition a.edition a.dock)) (reply a.request a.kind o) a.out.now _ w _
    (c.standing_at.ensures ∙ ap (with_standing (Sending a.page)) c.spoken_at.ensures)
