-- `head_of` meets its promise.
use native.Mathlib.Omega.{arith}
use Rattle.messages.proofs.Refusals.{head_of_lem}
use Rattle.reading.proofs.head_of.Goals as goal

pub returns : goal.returns
returns c = head_of_lem c.args.header _ _ _ _ (omega (arith, c.ranges.header.fits)) (omega arith) (omega arith) (omega arith)
