-- `receive` meets its promise.
use mathlib.Core.Path.{◌≡◌, ap, ◌∙◌}
use mathlib.Core.Bool.{false}
use mathlib.Core.List.{[]}
use native.Mathlib.Omega.{arith}
use Rattle.messages.specs.Layout.{nak}
use Rattle.dock.specs.Data.{with_edition}
use Rattle.dock.specs.Dock.{asking, decide_request, sends, reply, sending}
use Rattle.dock.proofs.Decisions.{request_zero, request_past, request_asked}
use Rattle.dock.proofs.Steps.{same, accept}
use Rattle.receiving.proofs.receive.Goals as goal

pub returns-then-request-lt-IDENTITY : goal.returns-then-request-lt-IDENTITY
returns-then-request-lt-IDENTITY c = let a = c.args in
    let d = with_edition a.edition a.dock in
    let bare : decide_request d a.request ≡ sends (reply a.request nak []) (sending false d) = grind (arith, request_zero, request_past) in
    same a.dock _ _ a.out.now _ _ bare c.send_bare.ensures

pub returns : goal.returns
returns c = let a = c.args in
    let d = with_edition a.edition a.dock in
    accept a.dock _ a.out.now (asking a.request d) _ (request_asked a.request d (omega arith) (omega arith))
    (c.asking_for.ensures ∙ ap (asking a.request) c.spoken_at.ensures)
