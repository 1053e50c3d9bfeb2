-- `decline` meets its promise.
use native.Mathlib.Omega.{arith}
use Rattle.std.proofs.lemmas.Grind.{common_steps}
use Rattle.messages.specs.declared.refusal.Refusal.TheVariants.{BadData}
use Rattle.dock.proofs.Decisions.{declined_brings, declined_bare}
use Rattle.dock.proofs.Steps.{refuse, same}
use Rattle.answering.proofs.decline.Goals as goal

pub returns-then-not-is_empty : goal.returns-then-not-is_empty
returns-then-not-is_empty c = let a = c.args in
    refuse a.dock _ a.out.now BadData (declined_brings a.dock a.request a.objects.now a.kind (grind (arith, common_steps)))

pub returns : goal.returns
returns c = let a = c.args in
    same a.dock _ _ a.out.now _ _ (declined_bare a.dock a.request a.objects.now a.kind (grind (arith, common_steps))) c.send_bare.ensures
