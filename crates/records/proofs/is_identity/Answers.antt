-- `is_identity` meets its promise.
use borrow.Author.Tests.{lt-leb, le-leb}
use Rattle.records.specs.Records.{is_identity}
use Rattle.records.proofs.is_identity.Goals as goal

pub returns-then-kind-ge-LEAST_OBJECTS : goal.returns-then-kind-ge-LEAST_OBJECTS
unfolding is_identity
returns-then-kind-ge-LEAST_OBJECTS c = simp (le-leb 3 _ c.if-kind-ge-LEAST_OBJECTS.true)

pub returns-else-kind-ge-LEAST_OBJECTS : goal.returns-else-kind-ge-LEAST_OBJECTS
unfolding is_identity
returns-else-kind-ge-LEAST_OBJECTS c = simp (lt-leb 3 _ c.if-kind-ge-LEAST_OBJECTS.false)
