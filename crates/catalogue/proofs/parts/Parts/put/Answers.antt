-- `put` meets its promise: the identity, the entries and the end, one behind the other.
use native.Mathlib.Omega.{arith}
use Rattle.catalogue.specs.Parts.{catalogue_in_parts}
use Rattle.catalogue.proofs.Lengths.{length_catalogue, length_objects}
use Rattle.catalogue.proofs.Records.{put_behind, put_same, put_kept, number_ends, catalogue_records}
use Rattle.catalogue.proofs.parts.Parts.put.Goals as goal

pub put_number-first-requires-clause-room : goal.put_number-first-requires-clause-room
put_number-first-requires-clause-room c = omega (arith, length_catalogue (catalogue_in_parts c.args.self), c.requires)

pub put_words-second-requires-clause-room : goal.put_words-second-requires-clause-room
put_words-second-requires-clause-room c =
    let p = c.args.self in
    let kind = c.put_number-first.ensures in
    omega (arith, length_catalogue (catalogue_in_parts p), length_objects p.objects.now, number_ends 1 _ kind, put_kept kind, c.requires)

pub put_entries-end-requires : goal.put_entries-end-requires
put_entries-end-requires c =
    let p = c.args.self in
    let kind = c.put_number-first.ensures in
    let identity = c.put_words-second.ensures in
    omega (arith, length_catalogue (catalogue_in_parts p), length_objects p.objects.now, number_ends 1 _ kind, put_kept kind, identity.ends, put_kept identity, c.requires)

pub put_number-requires-clause-room : goal.put_number-requires-clause-room
put_number-requires-clause-room c =
    let p = c.args.self in
    let kind = c.put_number-first.ensures in
    let identity = c.put_words-second.ensures in
    let entries = c.put_entries-end.ensures in
    omega (arith, length_catalogue (catalogue_in_parts p), length_objects p.objects.now, number_ends 1 _ kind, put_kept kind, identity.ends, put_kept identity, entries.ends, put_kept entries, c.requires)

pub returns : goal.returns
returns c =
    let whole = put_behind (put_behind (put_behind c.put_number-first.ensures c.put_words-second.ensures) c.put_entries-end.ensures) c.put_number.ensures in
    (put_same whole _ (catalogue_records (catalogue_in_parts c.args.self) c.args.self.few_objects)).stored
