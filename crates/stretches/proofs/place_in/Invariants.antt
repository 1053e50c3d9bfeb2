-- The loop of `place_in`: from where it stands the place is the one from the front.
use mathlib.Core.Path.{◌≡◌}
use mathlib.Core.List.{List}
use Prim.Native.Nat.{◌+◌, ◌*◌, ◌≤◌}
use lib.ListN.{drop}
use Rattle.laptop.specs.Catalogue.{Entry}
use Rattle.stretches.specs.Stretches.{place_in, NotedAs}
use Rattle.stretches.proofs.place_in.Given as goal

abbrev pub invariant-loop-i : goal.invariant-loop-i
invariant-loop-i l =
    (l.at ≤ 25 + l.i * 2000) × ((entries : List Entry) → NotedAs entries l.fn.walk l.svids l.numbers → place_in l.svid l.at (drop l.i entries) ≡ place_in l.svid (1 + l.fn.walk.extent * 4) entries)
