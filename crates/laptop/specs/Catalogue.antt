-- A catalogue, and where the laptop keeps it (01, "The laptop end").
use Rattle.std.specs.Prelude.{ℕ, suc, ◌*◌, cond, List, [], ◌∷◌, leb, get_or, take, drop, Option, Some, None}
use Rattle.laptop.specs.declared.Size.{Size}

-- identity objects, and SVIDs with their modes
pub record Entry : Type 0 where
  pub svid : ℕ
  pub modes : List ℕ

pub record Catalogue : Type 0 where
  pub identity : List ℕ
  pub entries : List Entry

-- an SVID has at most six modes; a run has 432 words, six for each of 72 SVIDs
abbrev pub modes_each : ℕ
modes_each = 6

abbrev pub run_words : ℕ
run_words = 432

-- how many modes the SVID at place i has, by the list of their numbers
unfoldable pub modes_number : List ℕ → ℕ → ℕ
modes_number modes i = cond (leb (get_or modes i 0) modes_each) (get_or modes i 0) modes_each

-- SVID i, counted from 0, has words 6i to 6i + 5 of a run
unfoldable pub modes_at : List ℕ → List ℕ → ℕ → List ℕ
modes_at modes run i = take (modes_number modes i) (drop (i * modes_each) run)

unfoldable pub entries_from : ℕ → List ℕ → List ℕ → List ℕ → List Entry
entries_from i [] modes run = []
entries_from i (s ∷ svids) modes run = record { svid = s; modes = modes_at modes run i } ∷ entries_from (suc i) svids modes run

-- the catalogue in lent arrays: identity objects, SVIDs, the number of modes of each, and a run of mode words
abbrev pub catalogue_in : Size → List ℕ → List ℕ → List ℕ → List ℕ → Catalogue
catalogue_in size identity svids modes run =
    record { identity = take size.extent identity; entries = entries_from 0 (take size.count svids) modes run }

-- the SVIDs of the held catalogue, none where nothing is held
abbrev pub held_list : Option Size → List ℕ → List ℕ
held_list None svids = []
held_list (Some size) svids = take size.count svids
