-- `give_identity` meets its promise.
use mathlib.Core.Path.{◌≡◌, ap, sym, ◌∙◌}
use mathlib.Core.Bool.{false}
use mathlib.Core.List.{List}
use Prim.Native.Nat.{ℕ}
use lib.ListN.{take}
use native.Mathlib.Omega.{arith}
use Rattle.messages.specs.Layout.{ack}
use Rattle.messages.specs.declared.refusal.Refusal.TheVariants.{BadData}
use Rattle.dock.specs.Dock.{give_identity, refuses, sends, reply, sending}
use Rattle.dock.proofs.Decisions.{identity_few, identity_many, identity_given}
use Rattle.dock.proofs.Steps.{refuse, same}
use Rattle.answering.proofs.give_identity.Goals as goal

pub returns-then-dock-lt3 : goal.returns-then-dock-lt3
returns-then-dock-lt3 c = let a = c.args in
    let bad : give_identity a.dock a.request ≡ refuses 10 = grind (arith, identity_few, identity_many) in
    refuse a.dock _ a.out.now BadData bad

pub returns : goal.returns
returns c = let a = c.args in
    let e = identity_given a.dock a.request (omega arith) (omega arith) in
    let objects = c.first-identity.ensures ∙ ap (λ (n : ℕ). take n a.dock.identity) c.from.ensures in
    same a.dock _ _ a.out.now _ _
    (e ∙ ap (λ (l : List ℕ). sends (reply a.request ack l) (sending false a.dock)) (sym objects)) c.send.ensures
