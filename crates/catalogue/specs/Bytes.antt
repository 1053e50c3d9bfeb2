-- A catalogue's bytes, and the writing of the held one (01, "Catalogue bytes" and "Refusal numbers").
use Rattle.std.specs.Prelude.{◌≡◌, ℕ, ◌^◌, ◌<◌, ◌≤◌, Result, Ok, Err, cond, List, [], ◌∷◌, ◌++◌, ltb, eqb, length, drop, Option, Some, None}
use Rattle.laws.specs.Bounded.{Below}
use Rattle.messages.specs.Layout.{bits, bytes_of_object, bytes_of}
use Rattle.messages.specs.Refusals.{number_of}
use Rattle.messages.specs.declared.refusal.Refusal.{Refusal}
use Rattle.laptop.specs.Catalogue.{Entry, Catalogue, modes_each, run_words, entries_from, catalogue_in}
use Rattle.laptop.specs.declared.Size.{Size}

-- the kinds; the identity's is the number of its objects
abbrev pub svid_kind : ℕ
svid_kind = 0x10

abbrev pub mode_kind : ℕ
mode_kind = 0x20

abbrev pub end_kind : ℕ
end_kind = 0x00

-- an SVID, 2 bytes, and one mode under it, 4 bytes; low byte first
unfoldable pub svid_bytes : ℕ → List ℕ
svid_bytes svid = svid_kind ∷ bits 7 0 svid ∷ bits 15 8 svid ∷ []

unfoldable pub mode_bytes : ℕ → List ℕ
mode_bytes mode = mode_kind ∷ bytes_of_object mode

unfoldable pub modes_bytes : List ℕ → List ℕ
modes_bytes [] = []
modes_bytes (mode ∷ modes) = mode_bytes mode ++ modes_bytes modes

unfoldable pub entry_bytes : Entry → List ℕ
entry_bytes entry = svid_bytes entry.svid ++ modes_bytes entry.modes

unfoldable pub entries_bytes : List Entry → List ℕ
entries_bytes [] = []
entries_bytes (entry ∷ entries) = entry_bytes entry ++ entries_bytes entries

unfoldable pub catalogue_bytes : Catalogue → List ℕ
catalogue_bytes c = length c.identity ∷ bytes_of c.identity ++ entries_bytes c.entries ++ end_kind ∷ []

-- the catalogue of identity objects, SVIDs, the number of modes of each, and a run of mode words
abbrev pub catalogue_of : List ℕ → List ℕ → List ℕ → List ℕ → Catalogue
catalogue_of objects svids modes run = record { identity = objects; entries = entries_from 0 svids modes run }

-- an identity has 3 to 6 objects
abbrev pub least_objects : ℕ
least_objects = 3

abbrev pub most_objects : ℕ
most_objects = 6

-- a catalogue takes at most so many bytes: 1 + 6 * 4 for the identity, 72 * (3 + 6 * 5) for the SVIDs with their modes, and 1 for the end
abbrev pub most_bytes : ℕ
most_bytes = 2402

-- what holds of each entry: at most six modes, and numbers as wide as the records have them
abbrev pub Each : (Entry → Type 0) → List Entry → Type 0
Each P [] = Unit {0}
Each P (entry ∷ entries) = P entry × Each P entries

abbrev pub SixModes : Entry → Type 0
SixModes entry = length entry.modes ≤ modes_each

abbrev pub EntryFits : Entry → Type 0
EntryFits entry = (entry.svid < 2 ^ 16) × Below (2 ^ 32) entry.modes

pub record Representable (c : Catalogue) : Type 0 where
  pub identity_fits : Below (2 ^ 32) c.identity
  pub entries_fit : Each EntryFits c.entries

-- what the laptop holds, by its state and what is lent beside it
pub data HeldCatalogue : Type 0 where
  nothing : HeldCatalogue
  holding : Catalogue → HeldCatalogue

abbrev pub held_catalogue : Option Size → List ℕ → List ℕ → List ℕ → List ℕ → HeldCatalogue
held_catalogue None identity svids modes run = nothing
held_catalogue (Some size) identity svids modes run = holding (catalogue_in size identity svids modes run)

-- 11 for a run of too few words comes first, then 12, and 11 for a buffer without the room comes last; fewer than three identity objects
-- are no catalogue, and their number would be no kind of an identity
unfoldable pub size_refusal : ℕ → ℕ → ℕ → ℕ
size_refusal extent bytes room = cond (ltb extent least_objects) 12 (cond (ltb room bytes) 11 0)

unfoldable pub held_refusal : HeldCatalogue → ℕ → ℕ
held_refusal nothing room = 12
held_refusal (holding c) room = size_refusal (length c.identity) (length (catalogue_bytes c)) room

unfoldable pub catalogue_refusal : HeldCatalogue → ℕ → ℕ → ℕ
catalogue_refusal held words room = cond (ltb words run_words) 11 (held_refusal held room)

-- the bytes that are written, none with a refusal
unfoldable pub held_bytes : HeldCatalogue → List ℕ
held_bytes nothing = []
held_bytes (holding c) = catalogue_bytes c

unfoldable pub written_bytes : HeldCatalogue → ℕ → ℕ → List ℕ
written_bytes held words room = cond (eqb (catalogue_refusal held words room) 0) (held_bytes held) []

-- the buffer afterwards: the bytes past the end stay
unfoldable pub written_into : List ℕ → List ℕ → List ℕ
written_into out bytes = bytes ++ drop (length bytes) out

-- what is given back: the refusal number, and how many bytes were written
pub record Bytes : Type 0 where
  pub refusal : ℕ
  pub length : ℕ

abbrev pub bytes_in : Result ℕ Refusal → Bytes
bytes_in (Ok length) = record { refusal = 0; length = length }
bytes_in (Err refusal) = record { refusal = number_of refusal; length = 0 }

-- what writing promises: the number, how many bytes were written, and the whole buffer
pub record CatalogueWritten (held : HeldCatalogue) (words : ℕ) (out : List ℕ) (result : Bytes) (after : List ℕ) : Type 0 where
  pub result_is : result ≡ record {
    refusal = catalogue_refusal held words (length out);
    length = length (written_bytes held words (length out));
  }
  pub buffer_is : after ≡ written_into out (written_bytes held words (length out))
