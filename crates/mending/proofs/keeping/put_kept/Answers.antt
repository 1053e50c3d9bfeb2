-- `put_kept` meets its promise.
use native.Mathlib.Omega.{arith}
use Rattle.catalogue.specs.Bytes.{end_kind}
use Rattle.mending.proofs.Copying.{copied_end}
use Rattle.mending.proofs.keeping.put_kept.Goals as goal

pub returns : goal.returns
returns c =
    copied_end c.args.out.now c.args.bytes.now _ c.args.number end_kind c.copy_from_slice.ensures.after (omega (arith, c.requires.0)) (omega (arith, c.requires.1))
