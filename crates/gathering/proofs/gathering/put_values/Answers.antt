-- `put_values` meets its promise.
use native.Mathlib.Omega.{arith}
use Rattle.laws.proofs.Stores.{put_part}
use Rattle.gathering.proofs.gathering.put_values.Goals as goal

pub returns : goal.returns
returns c = put_part c.args.n _ c.args.svids.now _ _ c.copy_from_slice.ensures.after (omega arith) (omega (arith, c.requires))
