-- `put_entries` meets its promise.
use Prim.Native.Nat.{◌+◌}
use native.Mathlib.Omega.{arith}
use lib.ListN.{get_or, drop}
use Rattle.laptop.specs.Catalogue.{Entry, entries_from}
use Rattle.catalogue.specs.Bytes.{entry_bytes, entries_bytes}
use Rattle.catalogue.proofs.Lengths.{entries_next, entries_more, entries_end, length_entry}
use Rattle.catalogue.proofs.Storing.{storing_next, storing_end}
use Rattle.catalogue.proofs.parts.Parts.put_entries.Goals as goal

pub put_entry-at-requires : goal.put_entry-at-requires
put_entry-at-requires c =
    let p = c.args.self in
    let i = c.loop-i.i in
    let words = c.modes_at.result.now in
    let entry : Entry = record { svid = get_or p.svids.now i 0; modes = words } in
    let more = entries_more p.svids.now p.modes.now p.run.now i c.loop-i-test.true words c.modes_at.ensures in
    omega (arith, c.loop-i.invariant, c.requires, more, length_entry entry)

pub loop-i-preserved : goal.loop-i-preserved
loop-i-preserved c =
    let p = c.args.self in
    let i = c.loop-i.i in
    let words = c.modes_at.result.now in
    let rest = entries_bytes (entries_from (i + 1) (drop (i + 1) p.svids.now) p.modes.now p.run.now) in
    let left = entries_next p.svids.now p.modes.now p.run.now i c.loop-i-test.true words c.modes_at.ensures in
    storing_next c.loop-i.invariant (entry_bytes (record { svid = get_or p.svids.now i 0; modes = words })) rest left c.put_entry-at.ensures

pub returns : goal.returns
returns c =
    let p = c.args.self in
    storing_end c.loop-i.invariant (entries_end p.svids.now p.modes.now p.run.now c.loop-i.i c.loop-i-test.false)
