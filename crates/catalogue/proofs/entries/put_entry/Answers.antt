-- `put_entry` meets its promise: the SVID, then its modes.
use mathlib.Core.Path.{◌≡◌}
use native.Mathlib.Omega.{arith}
use Rattle.std.proofs.Common.{rules}
use Rattle.laptop.specs.Catalogue.{Entry}
use Rattle.catalogue.proofs.Records.{entry_record, entry_room, put_behind, put_same, put_kept, number_ends}
use Rattle.catalogue.proofs.entries.put_entry.Goals as goal

pub put_number-place-requires-clause-room : goal.put_number-place-requires-clause-room
put_number-place-requires-clause-room c =
    let entry : Entry = record { svid = c.args.svid; modes = c.args.words.now } in
    omega (arith, entry_room entry)

pub put_words-requires-clause-room : goal.put_words-requires-clause-room
put_words-requires-clause-room c =
    let entry : Entry = record { svid = c.args.svid; modes = c.args.words.now } in
    let first = c.put_number-place.ensures in
    omega (arith, entry_room entry, number_ends 3 _ first, put_kept first, c.requires)

pub returns : goal.returns
returns c =
    let svid : c.from.result ≡ c.args.svid = search rules in
    put_same (put_behind c.put_number-place.ensures c.put_words.ensures) _ (rw svid (entry_record (record { svid = c.args.svid; modes = c.args.words.now })))
