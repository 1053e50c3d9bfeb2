-- `give` meets its promise.
use native.Mathlib.Omega.{arith}
use Rattle.std.proofs.lemmas.Grind.{common_steps}
use Rattle.messages.specs.declared.refusal.Refusal.TheVariants.{BadData}
use Rattle.dock.proofs.Decisions.{give_modes_lem, give_brings, give_other_lem}
use Rattle.dock.proofs.Steps.{refuse, same}
use Rattle.answering.proofs.give.Goals as goal

pub returns-then-request-eq-MODES : goal.returns-then-request-eq-MODES
returns-then-request-eq-MODES c = let a = c.args in
    same a.dock _ _ a.out.now _ _ (give_modes_lem a.dock a.request a.objects.now c.if-request-eq-MODES.true) c.give_modes.ensures

pub returns-then-not-is_empty : goal.returns-then-not-is_empty
returns-then-not-is_empty c = let a = c.args in
    refuse a.dock _ a.out.now BadData (give_brings a.dock a.request a.objects.now c.if-request-eq-MODES.false (grind (arith, common_steps)))

pub returns : goal.returns
returns c = let a = c.args in
    same a.dock _ _ a.out.now _ _ (give_other_lem a.dock a.request a.objects.now c.if-request-eq-MODES.false (grind (arith, common_steps))) c.give_other.ensures
