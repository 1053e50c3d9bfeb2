-- `seen` meets its promise.
use Rattle.port.specs.Sides.{seen}
use Rattle.port.proofs.sides.seen.Goals as goal

pub returns : goal.returns
unfolding seen
returns c = rw (c.wait_seen.ensures, c.own_of-own.ensures)
