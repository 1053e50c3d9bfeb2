-- `give_other` meets its promise.
use native.Mathlib.Omega.{arith}
use Rattle.dock.proofs.Decisions.{other_identity, other_svids, other_bare}
use Rattle.dock.proofs.Steps.{same}
use Rattle.answering.proofs.give_other.Goals as goal

pub returns-in-1 : goal.returns-in-1
returns-in-1 c = let a = c.args in same a.dock _ _ a.out.now _ _ (other_identity a.dock a.request c.in-1.is) c.give_identity.ensures

pub returns-in-2 : goal.returns-in-2
returns-in-2 c = let a = c.args in same a.dock _ _ a.out.now _ _ (other_svids a.dock a.request (λ z. omega (arith, z)) c.in-2.is) c.give_page.ensures

pub returns-in_default : goal.returns-in_default
returns-in_default c = let a = c.args in
    same a.dock _ _ a.out.now _ _ (other_bare a.dock a.request (λ z. omega (arith, z)) (λ z. omega (arith, z))) c.send_bare.ensures
