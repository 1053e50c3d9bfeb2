-- `next` meets its promise.
use mathlib.Core.Path.{◌≡◌, ap, sym, ◌∙◌}
use Prim.Native.Nat.{ℕ}
use lib.ListN.{get_or}
use native.Mathlib.Omega.{arith}
use Rattle.std.proofs.lemmas.Grind.{common_steps}
use Rattle.messages.specs.Requests.{modes_command}
use Rattle.messages.specs.declared.request.Request.{Request}
use Rattle.laptop.proofs.Steps.{same, stop, go_on}
use Rattle.owner.specs.Owner.{discover, asks, asks_next, decide_next}
use Rattle.owner.proofs.next.Goals as goal

pub returns-in_err-map_err : goal.returns-in_err-map_err
unfolding decide_next
returns-in_err-map_err c = let a = c.args in
    stop a.laptop _ _ a.out.now _ c.asking_check.ensures c.from_residual.result c.from_residual.ensures.0 (grind (arith, common_steps))

pub returns-in-Absent : goal.returns-in-Absent
unfolding decide_next asks_next
returns-in-Absent c = let a = c.args in
    go_on a.laptop _ _ a.out.now _ c.asking_check.ensures _ _ (grind (arith, common_steps))
    (same a.laptop _ _ a.out.now _ _ (ap (asks_next a.laptop a.svids.now) c.in-Absent.is) c.ask_identity.ensures)

pub returns-in-Open : goal.returns-in-Open
unfolding decide_next asks_next
returns-in-Open c = let a = c.args in
    go_on a.laptop _ _ a.out.now _ c.asking_check.ensures _ _ (grind (arith, common_steps))
    (same a.laptop _ _ a.out.now _ _
    (ap (asks_next a.laptop a.svids.now) c.in-Open.is ∙ ap (λ (x : Request). asks x a.laptop) (sym c.discover.ensures)) c.ask.ensures)

pub returns-in-Done : goal.returns-in-Done
unfolding decide_next asks_next
returns-in-Done c = let a = c.args in
    let svid : c.item_or-svid.result ≡ get_or a.svids.now a.laptop.stored 0 = grind (arith, common_steps) in
    go_on a.laptop _ _ a.out.now _ c.asking_check.ensures _ _ (grind (arith, common_steps))
    (same a.laptop _ _ a.out.now _ _
    (ap (asks_next a.laptop a.svids.now) c.in-Done.is ∙
    ap (λ (x : Request). asks x a.laptop) (sym (c.discover-in-Done.ensures ∙ ap (λ (s : ℕ). discover s modes_command) svid))) c.ask-in-Done.ensures)
