-- `stretch_of` meets its promise: the place that `find_stretch` tells lies within the bytes.
use Rattle.std.proofs.Common.{arith, ap, ◌+◌}
use Rattle.stretches.specs.Stretches.{Place}
use Rattle.stretches.proofs.Fitting.{stretch_fits}
use Rattle.stretches.proofs.stretch_of.Goals as goal

pub part_of-requires : goal.part_of-requires
part_of-requires c =
    omega (arith, ap (λ (p : Place). p.at + p.length) c.in_ok-place.ensures, stretch_fits c.args.bytes.now c.args.svid)
