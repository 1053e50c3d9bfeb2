-- `enter` meets its promise.
use mathlib.Core.Path.{◌≡◌, refl}
use mathlib.Core.Bool.{cond}
use Prim.Native.Nat.{ℕ}
use native.Mathlib.Omega.{arith}
use Rattle.std.proofs.lemmas.Grind.{common_steps}
use Rattle.messages.specs.Refusals.{number_in}
use Rattle.laptop.specs.Catalogue.{held_list}
use Rattle.laptop.proofs.Steps.{stop_at, stop, go_on}
use Rattle.owner.specs.Owner.{is_absent, enter_refusal, decide_enter}
use Rattle.modes.proofs.enter.Goals as goal

pub returns-in_err-map_err : goal.returns-in_err-map_err
unfolding decide_enter
returns-in_err-map_err c = let a = c.args in
    stop a.laptop _ _ a.out.now _ c.owner_check.ensures c.from_residual.result c.from_residual.ensures.0 (grind (arith, common_steps))

pub returns-then-ne : goal.returns-then-ne
unfolding decide_enter
returns-then-ne c = let a = c.args in
    let there : ◌≡◌ {A = ℕ} 13 (cond (is_absent a.laptop.candidate) 0 13) = grind (arith, common_steps) in
    go_on a.laptop _ _ a.out.now _ c.owner_check.ensures _ _ (grind (arith, common_steps))
    (stop_at a.laptop _ _ a.out.now 13 there _ (λ z. omega arith) c.refuse.ensures)

pub returns-in_err-map_err-2 : goal.returns-in_err-map_err-2
unfolding decide_enter
returns-in_err-map_err-2 c = let a = c.args in
    let absent : ◌≡◌ {A = ℕ} 0 (cond (is_absent a.laptop.candidate) 0 13) = grind (arith, common_steps) in
    let lacks : number_in c.enter_check.result ≡ enter_refusal (held_list a.laptop.held a.held_svids.now) a.held_modes.now a.entered.now a.svid a.position =
    grind (arith, common_steps) in
    go_on a.laptop _ _ a.out.now _ c.owner_check.ensures _ _ (grind (arith, common_steps))
    (go_on a.laptop _ _ a.out.now 0 absent _ _ refl
    (stop a.laptop _ _ a.out.now _ lacks c.from_residual-in_err-map_err-2.result c.from_residual-in_err-map_err-2.ensures.0 (grind (arith, common_steps))))

pub returns : goal.returns
unfolding decide_enter
returns c = let a = c.args in
    let absent : ◌≡◌ {A = ℕ} 0 (cond (is_absent a.laptop.candidate) 0 13) = grind (arith, common_steps) in
    let lacks : number_in c.enter_check.result ≡ enter_refusal (held_list a.laptop.held a.held_svids.now) a.held_modes.now a.entered.now a.svid a.position =
    grind (arith, common_steps) in
    go_on a.laptop _ _ a.out.now _ c.owner_check.ensures _ _ (grind (arith, common_steps))
    (go_on a.laptop _ _ a.out.now 0 absent _ _ refl
    (go_on a.laptop _ _ a.out.now _ lacks _ _ (grind (arith, common_steps)) c.ask.ensures))
