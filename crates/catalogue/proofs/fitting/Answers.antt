-- `fitting` meets its promise: its ways out are the definition's.
use Rattle.catalogue.proofs.Outcomes.{size_few, size_short, size_fits}
use Rattle.catalogue.proofs.fitting.Goals as goal

pub returns-then-extent-lt-LEAST_OBJECTS : goal.returns-then-extent-lt-LEAST_OBJECTS
returns-then-extent-lt-LEAST_OBJECTS c = size_few _ _ _ c.if-extent-lt-LEAST_OBJECTS.true

pub returns-then-room-bytes : goal.returns-then-room-bytes
returns-then-room-bytes c = size_short _ _ _ c.if-extent-lt-LEAST_OBJECTS.false c.if-room-bytes.true

pub returns-else-room-bytes : goal.returns-else-room-bytes
returns-else-room-bytes c = size_fits _ _ _ c.if-extent-lt-LEAST_OBJECTS.false c.if-room-bytes.false
