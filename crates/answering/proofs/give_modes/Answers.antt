-- `give_modes` meets its promise.
use mathlib.Core.Path.{◌≡◌}
use native.Mathlib.Omega.{arith}
use Rattle.std.proofs.lemmas.Grind.{common_steps}
use Rattle.messages.specs.declared.refusal.Refusal.TheVariants.{BadData}
use Rattle.dock.specs.Dock.{give_modes, refuses}
use Rattle.dock.proofs.Decisions.{modes_few, modes_many, modes_given}
use Rattle.dock.proofs.Steps.{refuse, same}
use Rattle.answering.proofs.give_modes.Goals as goal

pub returns-then-is_empty : goal.returns-then-is_empty
returns-then-is_empty c = let a = c.args in
    let bad : give_modes a.dock a.request a.objects.now ≡ refuses 10 = grind (arith, common_steps, modes_few, modes_many) in
    refuse a.dock _ a.out.now BadData bad

pub returns : goal.returns
returns c = let a = c.args in
    same a.dock _ _ a.out.now _ _ (modes_given a.dock a.request a.objects.now (grind (arith, common_steps)) (omega arith)) c.send.ensures
