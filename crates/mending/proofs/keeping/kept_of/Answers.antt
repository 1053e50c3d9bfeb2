-- `kept_of` meets its promise.
use native.Mathlib.Omega.{arith}
use Rattle.mending.proofs.Counting.{kept_most, kept_made}
use Rattle.mending.proofs.keeping.kept_of.Goals as goal

pub overflow_mul-length-2 : goal.overflow_mul-length-2
overflow_mul-length-2 c = omega (arith, c.svids_kept-svids.ensures, kept_most c.args.walk)

pub overflow_add-length-2 : goal.overflow_add-length-2
overflow_add-length-2 c = omega (arith, c.svids_kept-svids.ensures, kept_most c.args.walk)

pub overflow_add-length-3 : goal.overflow_add-length-3
overflow_add-length-3 c = omega (arith, c.svids_kept-svids.ensures, kept_most c.args.walk)

pub returns : goal.returns
returns c = kept_made c.args.walk _ c.svids_kept-svids.ensures
