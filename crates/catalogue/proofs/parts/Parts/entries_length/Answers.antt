-- `entries_length` meets its promise.
use mathlib.Core.Path.{ap}
use native.Mathlib.Omega.{arith}
use lib.ListN.{length as length-of}
use Rattle.catalogue.proofs.Lengths.{entries_more, entries_end, from_most}
use Rattle.catalogue.proofs.parts.Parts.entries_length.Goals as goal

pub overflow_add-length-in-loop-i : goal.overflow_add-length-in-loop-i
overflow_add-length-in-loop-i c =
    let p = c.args.self in
    let more = entries_more p.svids.now p.modes.now p.run.now c.loop-i.i c.loop-i-test.true _ c.modes_at.ensures in
    omega (arith, from_most p.modes.now p.run.now 0 p.svids.now, more, c.loop-i.invariant, p.few_svids)

pub loop-i-preserved : goal.loop-i-preserved
loop-i-preserved c =
    let p = c.args.self in
    omega (arith, entries_more p.svids.now p.modes.now p.run.now c.loop-i.i c.loop-i-test.true _ c.modes_at.ensures, c.loop-i.invariant)

pub returns : goal.returns
returns c =
    let p = c.args.self in
    omega (arith, ap length-of (entries_end p.svids.now p.modes.now p.run.now c.loop-i.i c.loop-i-test.false), c.loop-i.invariant)
