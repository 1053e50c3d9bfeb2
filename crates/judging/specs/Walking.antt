-- What a walk over the records of a catalogue has passed, and which record may follow (02, R-1: one identity first, SVIDs not zero and all different, at most
-- 72, each with 1 to 6 modes, one end).
use Rattle.std.specs.Prelude.{ℕ, ◌+◌, Bool, true, false, not, ◌&&◌, List, [], ◌∷◌, ◌++◌, ltb, eqb, length, take, drop}
use Rattle.laws.specs.Lines.{all_hold}
use Rattle.messages.specs.Layout.{objects_of}
use Rattle.pages.specs.Lists.{most_svids, is_in}
use Rattle.laptop.specs.Catalogue.{Entry, Catalogue, modes_each}
use Rattle.records.specs.declared.Record.{Record}
use Rattle.records.specs.declared.Record.TheVariants.{Identity, Svid, Mode, End}
use Rattle.judging.specs.declared.walk.Walk.{Walk}

-- the SVIDs, the number of modes of each, and of all
unfoldable pub svids_of : List Entry → List ℕ
svids_of [] = []
svids_of (entry ∷ entries) = entry.svid ∷ svids_of entries

unfoldable pub numbers_of : List Entry → List ℕ
numbers_of [] = []
numbers_of (entry ∷ entries) = length entry.modes ∷ numbers_of entries

unfoldable pub all_modes : List Entry → ℕ
all_modes [] = 0
all_modes (entry ∷ entries) = length entry.modes + all_modes entries

-- the number of modes of the last SVID, 0 where there is none
unfoldable pub last_number : List Entry → ℕ
last_number [] = 0
last_number (entry ∷ []) = length entry.modes
last_number (entry ∷ next ∷ entries) = last_number (next ∷ entries)

-- a walk that stands at an offset and has passed the records of a catalogue: it has no identity objects before its identity
unfoldable pub walk_of : ℕ → Catalogue → Walk
walk_of at c = record {
  at = at;
  extent = length c.identity;
  count = length c.entries;
  last = last_number c.entries;
  modes = all_modes c.entries;
}

-- the last SVID has no modes yet
unfoldable pub is_bare : Walk → Bool
is_bare walk = ltb 0 walk.count && eqb walk.last 0

-- which record may follow, by the walk and the SVIDs that it has passed
unfoldable pub may_follow : Walk → List ℕ → Record → Bool
may_follow walk svids (Identity objects) = eqb walk.extent 0
may_follow walk svids (Svid svid) =
    all_hold (ltb 0 walk.extent ∷ not (is_bare walk) ∷ not (eqb svid 0) ∷ ltb walk.count most_svids ∷ not (is_in svid svids) ∷ [])
may_follow walk svids (Mode mode) = all_hold (ltb 0 walk.count ∷ ltb walk.last modes_each ∷ [])
may_follow walk svids End = all_hold (ltb 0 walk.extent ∷ not (is_bare walk) ∷ [])

abbrev pub is_end : Record → Bool
is_end (Identity objects) = false
is_end (Svid svid) = false
is_end (Mode mode) = false
is_end End = true

-- one mode more under the last SVID
unfoldable pub with_mode : List Entry → ℕ → List Entry
with_mode [] mode = []
with_mode (entry ∷ []) mode = record { svid = entry.svid; modes = entry.modes ++ mode ∷ [] } ∷ []
with_mode (entry ∷ next ∷ entries) mode = entry ∷ with_mode (next ∷ entries) mode

-- the catalogue with one record more, whose bytes these begin with
unfoldable pub added : Catalogue → Record → List ℕ → Catalogue
added c (Identity objects) bytes = record { identity = take objects (objects_of (drop 1 bytes)); entries = c.entries }
added c (Svid svid) bytes = record { identity = c.identity; entries = c.entries ++ record { svid = svid; modes = [] } ∷ [] }
added c (Mode mode) bytes = record { identity = c.identity; entries = with_mode c.entries mode }
added c End bytes = c
