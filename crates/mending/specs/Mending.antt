-- A damaged catalogue file mended (02, R-6): the identity, every SVID in order up to the first fault that R-1 would name, with each whole mode record before
-- it, the last SVID left out if no mode record of it was whole, and the end.
use Rattle.std.specs.Prelude.{ℕ, cond, List, [], ◌∷◌, ltb, eqb, length}
use Rattle.laptop.specs.Catalogue.{Entry, Catalogue}
use Rattle.catalogue.specs.Bytes.{catalogue_bytes, written_into}
use Rattle.judging.specs.Judging.{Judgement, judgement_of}
use Rattle.judging.specs.Walking.{all_modes}
use Rattle.mending.specs.declared.keeping.Kept.{Kept}

-- the first fault of a file: its number, 15 to 18, and the offset of its record
pub record Fault : Type 0 where
  pub number : ℕ
  pub at : ℕ

-- what is given back. A refusal writes nothing; a sound file comes out the same; any other that has its identity is
-- mended, and what comes out is a part of what it was
pub data Mended : Type 0 where
  Refused : ℕ → Mended
  Sound : Kept → Mended
  Partial : Fault → Kept → Mended

-- 19 no whole identity at the front; then 11, for the second buffer
abbrev pub no_identity : ℕ
no_identity = 19

abbrev pub short_buffer : ℕ
short_buffer = 11

-- the last SVID is left out if no mode record of it was whole
unfoldable pub without_bare : List Entry → List Entry
without_bare [] = []
without_bare (entry ∷ []) = cond (eqb (length entry.modes) 0) [] (entry ∷ [])
without_bare (entry ∷ next ∷ entries) = entry ∷ without_bare (next ∷ entries)

-- what is kept of the records before the fault, and its bytes, the end among them
unfoldable pub kept_of : Catalogue → Catalogue
kept_of c = record { identity = c.identity; entries = without_bare c.entries }

unfoldable pub kept_bytes : Judgement → List ℕ
kept_bytes j = catalogue_bytes (kept_of j.catalogue)

-- a file without an identity is refused first, then a buffer that is shorter than what comes out
unfoldable pub mend_refusal : Judgement → ℕ → ℕ
mend_refusal j room = cond (eqb (length j.catalogue.identity) 0) no_identity (cond (ltb room (length (kept_bytes j))) short_buffer 0)

-- the report's numbers: SVIDs and modes kept, and the bytes of what comes out
unfoldable pub report_of : Judgement → Kept
report_of j = record {
  svids = length (kept_of j.catalogue).entries;
  modes = all_modes (kept_of j.catalogue).entries;
  length = length (kept_bytes j);
}

abbrev pub fault_of : Judgement → Fault
fault_of j = record { number = j.refusal; at = j.at }

-- a file without a fault is sound; any other is mended, and partial
unfoldable pub outcome_of : Judgement → Mended
outcome_of j = cond (eqb j.refusal 0) (Sound (report_of j)) (Partial (fault_of j) (report_of j))

-- 01's number for it, and the offset beside that: of a partial file those of its fault
abbrev pub mended_number : Mended → ℕ
mended_number (Refused number) = number
mended_number (Sound kept) = 0
mended_number (Partial fault kept) = fault.number

abbrev pub mended_offset : Mended → ℕ
mended_offset (Refused number) = 0
mended_offset (Sound kept) = 0
mended_offset (Partial fault kept) = fault.at

-- what mending promises, by what the file is judged and the lent buffer: what is given back, and the whole buffer afterwards
unfoldable pub mended_as : Judgement → ℕ → Mended
mended_as j room = cond (eqb (mend_refusal j room) 0) (outcome_of j) (Refused (mend_refusal j room))

unfoldable pub mended_bytes : Judgement → ℕ → List ℕ
mended_bytes j room = cond (eqb (mend_refusal j room) 0) (kept_bytes j) []

unfoldable pub mending_of : List ℕ → List ℕ → Mended × List ℕ
mending_of bytes out =
    (mended_as (judgement_of bytes) (length out), written_into out (mended_bytes (judgement_of bytes) (length out)))
