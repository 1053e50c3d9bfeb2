-- `put_port_here` meets its promise.
use Rattle.controller.specs.Port.{numbers_after}
use Rattle.controller.proofs.port_writing.put_port_here.Goals as goal

pub returns-then-not-stands_for : goal.returns-then-not-stands_for
unfolding numbers_after
returns-then-not-stands_for c = rw (← c.stands_for.ensures, c.if-not-stands_for.true) c.write_port.ensures

pub returns-else-not-stands_for : goal.returns-else-not-stands_for
unfolding numbers_after
returns-else-not-stands_for c = rw (← c.stands_for.ensures, c.if-not-stands_for.false)
