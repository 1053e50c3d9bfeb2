-- `write_catalogue` meets its promise.
use mathlib.Core.Path.{ap}
use Rattle.laptop.specs.declared.Laptop.{Laptop}
use Rattle.port.specs.Sides.{seen}
use Rattle.port.proofs.readings.write_catalogue.Goals as goal

pub returns : goal.returns
unfolding seen
returns c = rw (ap (λ (l : Laptop). l.held) c.seen.ensures) at c.write_catalogue.ensures
