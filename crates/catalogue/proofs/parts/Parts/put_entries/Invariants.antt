-- The loop of `put_entries`: the entries from i on are left to store.
use lib.ListN.{drop}
use Rattle.laptop.specs.Catalogue.{entries_from}
use Rattle.catalogue.specs.Bytes.{entries_bytes}
use Rattle.catalogue.specs.Parts.{entries_of}
use Rattle.catalogue.proofs.Storing.{Storing}
use Rattle.catalogue.proofs.parts.Parts.put_entries.Given as goal

abbrev pub invariant-loop-i : goal.invariant-loop-i
invariant-loop-i l =
    Storing l.initial.out l.start (entries_bytes (entries_of l.self)) l.out l.at
    (entries_bytes (entries_from l.i (drop l.i l.self.svids.now) l.self.modes.now l.self.run.now))
