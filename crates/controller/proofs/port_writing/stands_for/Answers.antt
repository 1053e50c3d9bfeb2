-- `stands_for` meets its promise.
use native.Mathlib.Omega.{arith}
use Rattle.std.proofs.lemmas.Grind.{common_steps}
use Rattle.controller.proofs.PortSame.{same_port}
use Rattle.controller.proofs.port_writing.stands_for.Goals.{then-same_wait, else-same_wait}
use Rattle.controller.proofs.port_writing.stands_for.Goals as goal

pub returns-then-same_own : goal.returns-then-same_own
returns-then-same_own c =
    rw (same_port c.args.state.now c.args.port.now)
    (elim c.if-same_wait.branch [ then-same_wait w ↦ grind (arith, common_steps) | else-same_wait w ↦ grind (arith, common_steps) ])

pub returns-else-same_own : goal.returns-else-same_own
returns-else-same_own c =
    rw (same_port c.args.state.now c.args.port.now)
    (elim c.if-same_wait.branch [ then-same_wait w ↦ grind (arith, common_steps) | else-same_wait w ↦ grind (arith, common_steps) ])
