-- `send` meets its promise: the request is handed over, or the buffer refuses it and the laptop stays.
use mathlib.Core.Path.{refl}
use mathlib.Core.List.{[]}
use native.Mathlib.Omega.{arith}
use Rattle.std.proofs.lemmas.Grind.{common_steps}
use Rattle.owner.specs.Owner.{request_message}
use Rattle.laptop.proofs.Steps.{send_refused, send_whole, written_head}
use Rattle.owner.proofs.send.Goals as goal

pub returns-in_err-map_err : goal.returns-in_err-map_err
returns-in_err-map_err c = let a = c.args in
    let w = written_head a.after.edition _ _ [] a.out.now _ _ c.head_for.ensures c.write.ensures in
    send_refused a.laptop a.after (request_message a.request) a.out.now _ _ w c.from_residual.result c.from_residual.ensures.0 (grind (arith, common_steps))

pub returns : goal.returns
returns c = let a = c.args in
    let w = written_head a.after.edition _ _ [] a.out.now _ _ c.head_for.ensures c.write.ensures in
    send_whole a.laptop a.after (request_message a.request) a.out.now _ _ w _ (grind (arith, common_steps)) refl
