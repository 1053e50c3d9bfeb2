-- `mend_catalogue` meets its promise: its ways out are the definition's, and nothing is put before the last test.
use mathlib.Core.List.{[]}
use mathlib.Core.Path.{ap, ◌∙◌}
use native.Mathlib.Omega.{arith}
use Rattle.judging.specs.declared.walk.Walk.{Walk}
use Rattle.mending.specs.Keeping.{kept_by_of}
use Rattle.mending.proofs.Outcomes.{kept_bounds, mend_none, mend_short, room_kept, mend_whole}
use Rattle.mending.proofs.mend_catalogue.Goals as goal

pub returns-then-walk-eq0 : goal.returns-then-walk-eq0
returns-then-walk-eq0 c =
    mend_none _ c.args.out.now c.judge-judged.ensures (omega (arith, ap (λ (w : Walk). w.extent) c.reached-walk.ensures, c.if-walk-eq0.true))

pub kept_of-kept-requires : goal.kept_of-kept-requires
kept_of-kept-requires c = rw c.reached-walk.ensures (kept_bounds _ [] c.judge-judged.ensures)

pub returns-then-out-kept : goal.returns-then-out-kept
returns-then-out-kept c =
    let extent = ap (λ (w : Walk). w.extent) c.reached-walk.ensures in
    mend_short _ c.args.out.now c.judge-judged.ensures (λ none. omega (arith, extent, c.if-walk-eq0.false, none)) _
    (c.kept_of-kept.ensures ∙ ap kept_by_of c.reached-walk.ensures) (omega (arith, c.if-out-kept.true))

pub overflow_sub-kept : goal.overflow_sub-kept
overflow_sub-kept c =
    let extent = ap (λ (w : Walk). w.extent) c.reached-walk.ensures in
    (room_kept _ c.args.out.now c.judge-judged.ensures (λ none. omega (arith, extent, c.if-walk-eq0.false, none)) (λ k. omega (arith, c.type_inv.bytes k)) _
    (c.kept_of-kept.ensures ∙ ap kept_by_of c.reached-walk.ensures) (omega (arith, c.if-out-kept.false))).0

pub put_kept-requires : goal.put_kept-requires
put_kept-requires c =
    let extent = ap (λ (w : Walk). w.extent) c.reached-walk.ensures in
    let room = room_kept _ c.args.out.now c.judge-judged.ensures (λ none. omega (arith, extent, c.if-walk-eq0.false, none)) (λ k. omega (arith, c.type_inv.bytes k)) _
    (c.kept_of-kept.ensures ∙ ap kept_by_of c.reached-walk.ensures) (omega (arith, c.if-out-kept.false)) in
    (room.1, room.2)

pub returns : goal.returns
returns c =
    let extent = ap (λ (w : Walk). w.extent) c.reached-walk.ensures in
    mend_whole _ c.args.out.now c.judge-judged.ensures (λ none. omega (arith, extent, c.if-walk-eq0.false, none)) (λ k. omega (arith, c.type_inv.bytes k)) _
    (c.kept_of-kept.ensures ∙ ap kept_by_of c.reached-walk.ensures) (omega (arith, c.if-out-kept.false)) _ c.put_kept.ensures _
    c.outcome.ensures
