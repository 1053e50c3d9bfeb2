-- The records of a catalogue: one byte of kind, then a body whose length the kind fixes (01, "Catalogue bytes"; 02, R-1).
use Rattle.std.specs.Prelude.{ℕ, ◌+◌, ◌*◌, ◌^◌, Bool, cond, ◌&&◌, ◌||◌, List, [], ◌∷◌, leb, ltb, eqb, length, get_or, drop}
use Rattle.messages.specs.Layout.{objects_of}
use Rattle.catalogue.specs.Bytes.{svid_kind, mode_kind, end_kind, least_objects, most_objects}
use Rattle.records.specs.declared.Record.{Record}
use Rattle.records.specs.declared.Record.TheVariants.{Identity, Svid, Mode, End}

-- 0x03..0x06: identity, that many objects
unfoldable pub is_identity : ℕ → Bool
is_identity kind = leb least_objects kind && leb kind most_objects

-- 0x10: an SVID; 0x20: one mode under it; 0x00: end
unfoldable pub is_known : ℕ → Bool
is_known kind = is_identity kind || (eqb kind svid_kind || (eqb kind mode_kind || eqb kind end_kind))

-- 4 bytes an object, 2 bytes of an SVID, 4 bytes of a mode
unfoldable pub body_length : ℕ → ℕ
body_length kind = cond (is_identity kind) (kind * 4) (cond (eqb kind svid_kind) 2 (cond (eqb kind mode_kind) 4 0))

-- low byte first
unfoldable pub svid_in : List ℕ → ℕ
svid_in body = get_or body 0 0 + get_or body 1 0 * 2 ^ 8

unfoldable pub mode_in : List ℕ → ℕ
mode_in body = get_or (objects_of body) 0 0

-- the record of a known kind; an identity's objects stay in its body
unfoldable pub record_of : ℕ → List ℕ → Record
record_of kind body =
    cond (is_identity kind) (Identity kind) (cond (eqb kind svid_kind) (Svid (svid_in body)) (cond (eqb kind mode_kind) (Mode (mode_in body)) End))

-- what stands at a place among bytes: a whole record and the number of its bytes, the kind counted; a kind that there
-- is not; a body that is cut; the end of the bytes
pub data Found : Type 0 where
  Whole : Record → ℕ → Found
  Unknown : Found
  Cut : Found
  Nothing : Found

-- what stands first among bytes: a whole record and the number of its bytes, an unknown kind, a cut body, or nothing
unfoldable pub found_in : List ℕ → Found
found_in [] = Nothing
found_in (kind ∷ rest) =
    cond (is_known kind)
    (cond (leb (body_length kind) (length rest)) (Whole (record_of kind rest) (1 + body_length kind)) Cut)
    Unknown

-- what stands at an offset; past the end of the bytes a record is cut
unfoldable pub found_at : List ℕ → ℕ → Found
found_at bytes at = cond (ltb (length bytes) at) Cut (found_in (drop at bytes))

-- 15 unknown kind, 16 cut record: no bytes, or bytes that stop before the end record, are cut; a whole record is not refused
abbrev pub unknown_kind : ℕ
unknown_kind = 15

abbrev pub cut_record : ℕ
cut_record = 16

abbrev pub found_number : Found → ℕ
found_number (Whole r n) = 0
found_number Unknown = unknown_kind
found_number Cut = cut_record
found_number Nothing = cut_record
