-- What the writing of a catalogue keeps, for whoever stands above.
use mathlib.Core.Path.{◌≡◌, refl, ap, ap₂, sym, ◌∙◌}
use mathlib.Core.Bool.{Bool, true, false, cond}
use mathlib.Core.List.{List, [], ◌∷◌}
use Prim.Native.Nat.{ℕ, ◌<◌, ◌≤◌}
use native.Mathlib.Omega.{arith}
use lib.Dec.{ltb, eqb}
use lib.ListN.{length, get_or, take, drop, length-take}
use lib.Seq.{take-append_seam}
use borrow.Author.Tests.{eq-eqb, ne_eqb, le-ltb}
use Rattle.messages.specs.Layout.{bytes_of_object, bytes_of}
use Rattle.pages.specs.Lists.{most_svids}
use Rattle.laptop.specs.Catalogue.{Entry, Catalogue, run_words, catalogue_in}
use Rattle.std.specs.Prelude.{Option, Some, None}
use Rattle.laptop.specs.declared.Size.{Size}
use Rattle.catalogue.specs.Bytes.{Bytes, svid_bytes, mode_bytes, modes_bytes, entry_bytes, entries_bytes, catalogue_bytes, least_objects, most_objects, most_bytes, Each, SixModes, Representable, HeldCatalogue, nothing, holding, held_catalogue, held_refusal, catalogue_refusal, held_bytes, written_bytes, written_into, CatalogueWritten}
use Rattle.catalogue.proofs.Distinct.{catalogues_distinct}
use Rattle.catalogue.proofs.Lengths.{entries_most, length_catalogue, length_entries, six_modes}
use Rattle.catalogue.proofs.Outcomes.{size_few, size_taken}

-- at most six identity objects, and at most 72 SVIDs with at most six modes each, take at most 2,402 bytes
pub bytes_most : (c : Catalogue) → length c.identity ≤ most_objects → length c.entries ≤ most_svids → Each SixModes c.entries →
    length (catalogue_bytes c) ≤ most_bytes
bytes_most c few most six = omega (arith, length_catalogue c, entries_most c.entries six)

-- so many bytes are written at most, whatever the state of the laptop
held_most : (held : Option Size) (identity svids modes run : List ℕ) → length identity ≡ most_objects → length svids ≡ most_svids →
    length (held_bytes (held_catalogue held identity svids modes run)) ≤ most_bytes
unfolding held_bytes
held_most None identity svids modes run ei es = omega arith
held_most (Some size) identity svids modes run ei es =
    bytes_most (catalogue_in size identity svids modes run)
    (omega (arith, length-take size.extent identity))
    (omega (arith, length_entries modes run 0 (take size.count svids), length-take size.count svids))
    (six_modes modes run 0 (take size.count svids))

pub written_most : (held : Option Size) (identity svids modes run : List ℕ) → length identity ≡ most_objects → length svids ≡ most_svids →
    (out : List ℕ) (result : Bytes) (after : List ℕ) →
    CatalogueWritten (held_catalogue held identity svids modes run) (length run) out result after → result.length ≤ most_bytes
unfolding written_bytes
written_most held identity svids modes run ei es out result after w =
    omega (arith, ap (λ (b : Bytes). b.length) w.result_is, go (eqb (catalogue_refusal (held_catalogue held identity svids modes run) (length run) (length out)) 0))
  where
    go : (t : Bool) → length (cond t (held_bytes (held_catalogue held identity svids modes run)) []) ≤ most_bytes
    go true = held_most held identity svids modes run ei es
    go false = omega arith

-- different catalogues have different bytes, however many identity objects they have
pub bytes_distinct : (c d : Catalogue) → Representable c → Representable d → catalogue_bytes c ≡ catalogue_bytes d → c ≡ d
bytes_distinct c d hc hd e = catalogues_distinct c d hc hd e

-- what is accepted is written whole
accepted_whole : (c : Catalogue) (words : ℕ) (out : List ℕ) (result : Bytes) (after : List ℕ) →
    CatalogueWritten (holding c) words out result after → result.refusal ≡ 0 → written_bytes (holding c) words (length out) ≡ catalogue_bytes c
unfolding held_bytes written_bytes
accepted_whole c words out result after w z =
    ap (λ (b : Bool). cond b (catalogue_bytes c) []) (eq-eqb _ _ (sym (ap (λ (b : Bytes). b.refusal) w.result_is) ∙ z))

-- from the front of the buffer on
pub accepted_bytes : (c : Catalogue) (words : ℕ) (out : List ℕ) (result : Bytes) (after : List ℕ) →
    CatalogueWritten (holding c) words out result after → result.refusal ≡ 0 → take result.length after ≡ catalogue_bytes c
unfolding written_into
accepted_bytes c words out result after w z =
    let whole = accepted_whole c words out result after w z in
    let size : result.length ≡ length (catalogue_bytes c) = ap (λ (b : Bytes). b.length) w.result_is ∙ ap length whole in
    ap₂ (λ (n : ℕ) (l : List ℕ). take n l) size (w.buffer_is ∙ ap (written_into out) whole) ∙
    take-append_seam (catalogue_bytes c) (drop (length (catalogue_bytes c)) out)

accepted_held : (held : HeldCatalogue) (words room : ℕ) → catalogue_refusal held words room ≡ 0 → held_refusal held room ≡ 0
unfolding catalogue_refusal
accepted_held held words room = go (ltb words run_words)
  where
    go : (t : Bool) → cond t 11 (held_refusal held room) ≡ 0 → held_refusal held room ≡ 0
    go true e = absurd (omega (arith, e))
    go false e = e

-- a refusal writes nothing and leaves the buffer alone
pub refused_leaves : (held : HeldCatalogue) (words : ℕ) (out : List ℕ) (result : Bytes) (after : List ℕ) →
    CatalogueWritten held words out result after → (result.refusal ≡ 0 → ⊥) → (result.length ≡ 0) × (after ≡ out)
unfolding written_bytes written_into
refused_leaves held words out result after w no_acceptance =
    let t : eqb (catalogue_refusal held words (length out)) 0 ≡ false = ne_eqb _ _ (λ z. no_acceptance (ap (λ (b : Bytes). b.refusal) w.result_is ∙ z)) in
    let none : written_bytes held words (length out) ≡ [] = ap (λ (b : Bool). cond b (held_bytes held) []) t in
    (ap (λ (b : Bytes). b.length) w.result_is ∙ ap length none, w.buffer_is ∙ ap (written_into out) none)

-- whatever is written begins with the kind of an identity, 0x03 to 0x06, for every state of the laptop and all that it is lent
pub written_kind : (held : Option Size) (identity svids modes run : List ℕ) → length identity ≡ most_objects → (out : List ℕ) (result : Bytes) (after : List ℕ) →
    CatalogueWritten (held_catalogue held identity svids modes run) (length run) out result after → result.refusal ≡ 0 →
    (least_objects ≤ get_or after 0 0) × (get_or after 0 0 ≤ most_objects)
unfolding catalogue_bytes held_refusal written_into
written_kind None identity svids modes run ei out result after w z =
    absurd (let none : ◌≡◌ {A = ℕ} 12 0 = accepted_held nothing (length run) (length out) (sym (ap (λ (b : Bytes). b.refusal) w.result_is) ∙ z) in omega arith)
written_kind (Some size) identity svids modes run ei out result after w z =
    let c : Catalogue = catalogue_in size identity svids modes run in
    let first : get_or after 0 0 ≡ length c.identity =
    ap (λ (l : List ℕ). get_or l 0 0) (w.buffer_is ∙ ap (written_into out) (accepted_whole c (length run) out result after w z)) in
    let number = accepted_held (holding c) (length run) (length out) (sym (ap (λ (b : Bytes). b.refusal) w.result_is) ∙ z) in
    let taken = size_taken (length c.identity) (length (catalogue_bytes c)) (length out) number in
    (omega (arith, first, taken.0), omega (arith, first, length-take size.extent identity))

-- with a run that is long enough, too few identity objects are refused 12, whatever the buffer
pub few_refused : (c : Catalogue) → length c.identity < least_objects → (words room : ℕ) → run_words ≤ words → catalogue_refusal (holding c) words room ≡ 12
unfolding held_refusal catalogue_refusal
few_refused c few words room enough =
    ap (λ (t : Bool). cond t 11 (held_refusal (holding c) room)) (le-ltb _ _ enough) ∙ sym (size_few (length c.identity) (length (catalogue_bytes c)) room few)

-- a result that the promise allows is the only one
pub write_only : (held : HeldCatalogue) (words : ℕ) (out : List ℕ) (result result' : Bytes) (after after' : List ℕ) →
    CatalogueWritten held words out result after → CatalogueWritten held words out result' after' → (result ≡ result') × (after ≡ after')
write_only held words out result result' after after' w w' =
    (w.result_is ∙ sym w'.result_is, w.buffer_is ∙ sym w'.buffer_is)

-- Case L's catalogue: three identity objects, and SVID FF01 with the mode 405
abbrev pub entry_l : Entry
entry_l = record { svid = 0xFF01; modes = 0x405 ∷ [] }

pub case_l : (p q r : ℕ) → length (catalogue_bytes (record { identity = p ∷ q ∷ r ∷ []; entries = entry_l ∷ [] })) ≡ 22
unfolding catalogue_bytes entries_bytes entry_bytes svid_bytes modes_bytes mode_bytes bytes_of bytes_of_object
case_l p q r = refl

pub case_l_entry : entry_bytes entry_l ≡ 0x10 ∷ 0x01 ∷ 0xFF ∷ 0x20 ∷ 0x05 ∷ 0x04 ∷ 0x00 ∷ 0x00 ∷ []
unfolding entry_bytes svid_bytes modes_bytes mode_bytes bytes_of_object
case_l_entry = refl
