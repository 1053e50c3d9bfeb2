-- `drop` meets its promise.
use mathlib.Core.Path.{refl, ap, ◌∙◌}
use native.Mathlib.Omega.{arith}
use Rattle.std.proofs.lemmas.Grind.{common_steps}
use Rattle.laptop.specs.Calls.{accepted_with}
use Rattle.laptop.specs.declared.Told.TheVariants.{Nothing}
use Rattle.laptop.proofs.Steps.{accept, stop, go_on}
use Rattle.owner.specs.Owner.{decide_drop}
use Rattle.owner.proofs.drop.Goals as goal

pub returns-in_err-map_err : goal.returns-in_err-map_err
unfolding decide_drop
returns-in_err-map_err c = let a = c.args in
    stop a.laptop _ _ a.out.now _ c.owner_check.ensures c.from_residual.result c.from_residual.ensures.0 (grind (arith, common_steps))

pub returns : goal.returns
unfolding decide_drop
returns c = let a = c.args in
    go_on a.laptop _ _ a.out.now _ c.owner_check.ensures _ _ (grind (arith, common_steps))
    (accept a.laptop _ Nothing _ a.out.now _ refl (c.accept.ensures ∙ ap (accepted_with Nothing) c.dropped.ensures))
