-- `write_port` meets its promise.
use mathlib.Core.Path.{refl}
use lib.ListN.{replicate}
use Rattle.controller.proofs.PortNumbers.{port_stored}
use Rattle.controller.proofs.port_writing.write_port.Goals as goal

pub returns : goal.returns
returns c = port_stored (replicate 22 0) c.args.port.now refl c.put_wait.ensures c.put_own.ensures c.put_own-2.ensures
