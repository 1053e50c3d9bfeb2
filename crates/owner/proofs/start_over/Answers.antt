-- `start_over` meets its promise.
use native.Mathlib.Omega.{arith}
use Rattle.std.proofs.lemmas.Grind.{common_steps}
use Rattle.laptop.proofs.Steps.{stop, go_on}
use Rattle.owner.specs.Owner.{decide_start_over}
use Rattle.owner.proofs.start_over.Goals as goal

pub returns-in_err-map_err : goal.returns-in_err-map_err
unfolding decide_start_over
returns-in_err-map_err c = let a = c.args in
    stop a.laptop _ _ a.out.now _ c.asking_check.ensures c.from_residual.result c.from_residual.ensures.0 (grind (arith, common_steps))

pub returns : goal.returns
unfolding decide_start_over
returns c = let a = c.args in
    go_on a.laptop _ _ a.out.now _ c.asking_check.ensures _ _ (grind (arith, common_steps)) c.ask_identity.ensures
