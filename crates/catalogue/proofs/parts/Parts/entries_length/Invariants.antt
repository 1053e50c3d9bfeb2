-- The loop of `entries_length`: the length so far and that of what is left make up the whole.
use mathlib.Core.Path.{◌≡◌}
use Prim.Native.Nat.{◌+◌}
use lib.ListN.{drop}
use lib.ListN.{length as length-of}
use Rattle.laptop.specs.Catalogue.{entries_from}
use Rattle.catalogue.specs.Bytes.{entries_bytes}
use Rattle.catalogue.specs.Parts.{entries_of}
use Rattle.catalogue.proofs.parts.Parts.entries_length.Given as goal

abbrev pub invariant-loop-i : goal.invariant-loop-i
invariant-loop-i l =
    l.length + length-of (entries_bytes (entries_from l.i (drop l.i l.self.svids.now) l.self.modes.now l.self.run.now)) ≡
    length-of (entries_bytes (entries_of l.self))
