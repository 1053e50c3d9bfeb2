-- `put_back` meets its promise.
use Rattle.port.specs.Sides.{put_back}
use Rattle.port.proofs.sides.put_back.Goals as goal

pub returns-in-Partner : goal.returns-in-Partner
unfolding put_back
returns-in-Partner c = rw (c.wait_put-wait.ensures, c.own_in-own.ensures, c.in-Partner.is)

pub returns-in-Cable : goal.returns-in-Cable
unfolding put_back
returns-in-Cable c = rw (c.wait_put-wait.ensures, c.own_in-own.ensures, c.in-Cable.is)
