-- The catalogue rebuilt from its bytes, in what the caller lends (02, R-1).
use Rattle.std.specs.Prelude.{◌≡◌, ℕ, suc, ◌*◌, ◌≤◌, cond, List, [], ◌∷◌, ltb, eqb, length}
use Rattle.std.proofs.lemmas.List.Edits.{sets}
use Rattle.laws.specs.Padded.{padded}
use Rattle.laptop.specs.Catalogue.{Entry, Catalogue, modes_each, run_words}
use Rattle.pages.specs.Lists.{most_svids}
use Rattle.catalogue.specs.Bytes.{most_objects, most_bytes}
use Rattle.judging.specs.Judging.{Judgement, judgement_of, noted}
use Rattle.judging.specs.Walking.{svids_of, numbers_of, all_modes}

-- six words of identity, 72 SVIDs, the number of modes of each, and a run of mode words
pub record Arrays : Type 0 where
  pub identity : List ℕ
  pub svids : List ℕ
  pub numbers : List ℕ
  pub run : List ℕ

-- SVID i, counted from 0, has words 6i to 6i + 5 of the run; words beyond its modes stay
unfoldable pub modes_into : List ℕ → ℕ → List Entry → List ℕ
modes_into run i [] = run
modes_into run i (entry ∷ entries) = modes_into (sets run (i * modes_each) entry.modes) (suc i) entries

-- the arrays with a catalogue, and zeros behind its identity objects, SVIDs and numbers
unfoldable pub rebuilt : Catalogue → Arrays → Arrays
rebuilt c before = record {
  identity = padded c.identity;
  svids = noted (svids_of c.entries);
  numbers = noted (numbers_of c.entries);
  run = modes_into before.run 0 c.entries;
}

-- the refusal number, and where the fault stands, or the end of the file; on acceptance how many identity objects,
-- SVIDs and modes there are
pub record Rebuilt : Type 0 where
  pub refusal : ℕ
  pub at : ℕ
  pub extent : ℕ
  pub count : ℕ
  pub modes : ℕ

-- a run under 432 words is refused 11 first; then the first fault of the file is named, with its offset. A refusal tells of no catalogue
abbrev pub short_run : ℕ
short_run = 11

abbrev pub refused_at : ℕ → ℕ → Rebuilt
refused_at number at = record { refusal = number; at = at; extent = 0; count = 0; modes = 0 }

abbrev pub accepted_as : Judgement → Rebuilt
accepted_as j = record {
  refusal = 0;
  at = j.at;
  extent = length j.catalogue.identity;
  count = length j.catalogue.entries;
  modes = all_modes j.catalogue.entries;
}

unfoldable pub read_as : ℕ → Judgement → Rebuilt
read_as words j = cond (ltb words run_words) (refused_at short_run 0) (cond (eqb j.refusal 0) (accepted_as j) (refused_at j.refusal j.at))

-- a refusal changes no lent word
unfoldable pub read_into : Judgement → Arrays → Arrays
read_into j before = cond (ltb (length before.run) run_words) before (cond (eqb j.refusal 0) (rebuilt j.catalogue before) before)

-- what reading promises: the number with its place and sizes, and all that was lent
pub record CatalogueRead (bytes : List ℕ) (before : Arrays) (result : Rebuilt) (after : Arrays) : Type 0 where
  pub result_is : result ≡ read_as (length before.run) (judgement_of bytes)
  pub arrays_are : after ≡ read_into (judgement_of bytes) before

-- places and sizes that 01's limits allow
pub record Small (result : Rebuilt) : Type 0 where
  pub at_most : result.at ≤ most_bytes
  pub extent_most : result.extent ≤ most_objects
  pub count_most : result.count ≤ most_svids
  pub modes_most : result.modes ≤ run_words
