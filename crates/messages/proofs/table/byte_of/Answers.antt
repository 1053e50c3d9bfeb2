-- `byte_of` meets its promise.
use borrow.Author.Tests.{eq-eqb, ne_eqb}
use Rattle.messages.proofs.table.byte_of.Goals as goal

pub returns-then-kind-eq0 : goal.returns-then-kind-eq0
returns-then-kind-eq0 c = simp (eq-eqb _ _ c.if-kind-eq0.true)

pub returns-else-kind-eq0 : goal.returns-else-kind-eq0
returns-else-kind-eq0 c = simp (ne_eqb _ _ c.if-kind-eq0.false)
