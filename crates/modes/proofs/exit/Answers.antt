-- `exit` meets its promise.
use mathlib.Core.Path.{◌≡◌}
use native.Mathlib.Omega.{arith}
use Rattle.std.proofs.lemmas.Grind.{common_steps}
use Rattle.messages.specs.Refusals.{number_in}
use Rattle.laptop.specs.Catalogue.{held_list}
use Rattle.laptop.proofs.Steps.{stop, go_on}
use Rattle.owner.specs.Owner.{exit_refusal, decide_exit}
use Rattle.modes.proofs.exit.Goals as goal

pub returns-in_err-map_err : goal.returns-in_err-map_err
unfolding decide_exit
returns-in_err-map_err c = let a = c.args in
    stop a.laptop _ _ a.out.now _ c.owner_check.ensures c.from_residual.result c.from_residual.ensures.0 (grind (arith, common_steps))

pub returns-in_err-map_err-2 : goal.returns-in_err-map_err-2
unfolding decide_exit
returns-in_err-map_err-2 c = let a = c.args in
    let lacks : number_in c.exit_check.result ≡ exit_refusal (held_list a.laptop.held a.held_svids.now) a.held_modes.now a.entered.now a.svid a.position =
    grind (arith, common_steps) in
    go_on a.laptop _ _ a.out.now _ c.owner_check.ensures _ _ (grind (arith, common_steps))
    (stop a.laptop _ _ a.out.now _ lacks c.from_residual-in_err-map_err-2.result c.from_residual-in_err-map_err-2.ensures.0 (grind (arith, common_steps)))

pub returns : goal.returns
unfolding decide_exit
returns c = let a = c.args in
    let lacks : number_in c.exit_check.result ≡ exit_refusal (held_list a.laptop.held a.held_svids.now) a.held_modes.now a.entered.now a.svid a.position =
    grind (arith, common_steps) in
    go_on a.laptop _ _ a.out.now _ c.owner_check.ensures _ _ (grind (arith, common_steps))
    (go_on a.laptop _ _ a.out.now _ lacks _ _ (grind (arith, common_steps)) c.ask.ensures)
