-- The run of bytes that holds one SVID's mode records, as that stretch of the caller's own buffer (02, R-1).
use Rattle.std.specs.Prelude.{◌≡◌, ℕ, ◌+◌, ◌*◌, cond, List, [], ◌∷◌, eqb, length, take, drop}
use Rattle.std.specs.Borrow.{Bor}
use Rattle.laptop.specs.Catalogue.{Entry, Catalogue}
use Rattle.catalogue.specs.Bytes.{modes_bytes, entry_bytes}
use Rattle.judging.specs.Judging.{Judgement, judgement_of, noted}
use Rattle.judging.specs.Walking.{svids_of, numbers_of}
use Rattle.judging.specs.declared.walk.Walk.{Walk}

-- 12: the file is sound, and the SVID is not in it
abbrev pub not_listed : ℕ
not_listed = 12

-- an SVID's record has 3 bytes
abbrev pub svid_size : ℕ
svid_size = 3

-- the refusal number and the fault's offset; on acceptance where the stretch begins, and how many bytes it has, which
-- are none with a refusal
pub record Place : Type 0 where
  pub refusal : ℕ
  pub at : ℕ
  pub length : ℕ

abbrev pub refused_at : ℕ → ℕ → Place
refused_at number at = record { refusal = number; at = at; length = 0 }

-- among entries of which the first stands at an offset: the mode records of an SVID lie behind its own record
unfoldable pub place_in : ℕ → ℕ → List Entry → Place
place_in svid at [] = refused_at not_listed 0
place_in svid at (entry ∷ entries) =
    cond (eqb entry.svid svid)
    (record { refusal = 0; at = at + svid_size; length = length (modes_bytes entry.modes) })
    (place_in svid (at + length (entry_bytes entry)) entries)

-- the entries stand behind the identity: its kind, and 4 bytes an object
abbrev pub entries_at : Catalogue → ℕ
entries_at c = 1 + length c.identity * 4

-- any fault, then 12
unfoldable pub stretch_in : Judgement → ℕ → Place
stretch_in j svid = cond (eqb j.refusal 0) (place_in svid (entries_at j.catalogue) j.catalogue.entries) (refused_at j.refusal j.at)

-- what a walk has noted of entries: their number, their SVIDs and the numbers of their modes
pub record NotedAs (entries : List Entry) (walk : Walk) (svids numbers : List ℕ) : Type 0 where
  pub count_is : walk.count ≡ length entries
  pub svids_are : svids ≡ noted (svids_of entries)
  pub numbers_are : numbers ≡ noted (numbers_of entries)

-- that part of the lent bytes: what it has, and where it lies
pub record PartOf (bytes : Bor (List ℕ)) (place : Place) (part : Bor (List ℕ)) : Type 0 where
  pub bytes_are : part.now ≡ take place.length (drop place.at bytes.now)
  pub block_is : part.ref_ptr.0 ≡ bytes.ref_ptr.0
  pub offset_is : part.ref_ptr.1 ≡ bytes.ref_ptr.1 + place.at

-- what is handed back: that part of the bytes, none with a refusal; the refusal number; and where the fault or the part
-- stands
pub record Stretch : Type 0 where
  pub part : Bor (List ℕ)
  pub refusal : ℕ
  pub at : ℕ

-- what the stretch promises: the refusal, where the fault or the part stands, and the part
pub record Stretched (bytes : Bor (List ℕ)) (svid : ℕ) (result : Stretch) : Type 0 where
  pub refusal_is : result.refusal ≡ (stretch_in (judgement_of bytes.now) svid).refusal
  pub at_is : result.at ≡ (stretch_in (judgement_of bytes.now) svid).at
  pub part_is : PartOf bytes (stretch_in (judgement_of bytes.now) svid) result.part
