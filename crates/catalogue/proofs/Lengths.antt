-- How many bytes a catalogue takes, entry by entry.
use mathlib.Core.Path.{◌≡◌, refl, ap, sym, ◌∙◌}
use mathlib.Core.List.{List, [], ◌∷◌, ◌++◌}
use Prim.Native.Nat.{ℕ, suc, ◌+◌, ◌*◌, ◌<◌, ◌≤◌}
use native.Mathlib.Numerals.{add-one}
use native.Mathlib.Omega.{arith}
use lib.ListN.{length, get_or, drop, drop_of_length-le, length-append}
use Rattle.messages.specs.Layout.{bytes_of_object, bytes_of}
use Rattle.messages.proofs.Objects.{length_bytes}
use Rattle.pages.proofs.Scanning.{next}
use Rattle.laptop.specs.Catalogue.{Entry, Catalogue, modes_at, entries_from}
use Rattle.catalogue.proofs.Places.{modes_most}
use Rattle.catalogue.proofs.Records.{length_low, objects_words}
use Rattle.catalogue.specs.Bytes.{end_kind, svid_bytes, mode_bytes, modes_bytes, entry_bytes, entries_bytes, catalogue_bytes, Each, SixModes}
use Rattle.catalogue.specs.Records.{low_first, object_size, word_number, words_bytes}

-- what the loops write next
module _ (size : ℕ) (words : List ℕ) (i : ℕ) where
  pub words_next : i < length words → (number : ℕ) → number ≡ word_number size (get_or words i 0) →
      words_bytes size (drop i words) ≡ low_first size number ++ words_bytes size (drop (i + 1) words)
  unfolding words_bytes
  words_next h number e =
      ap (words_bytes size) (next words i h) ∙ ap (λ (n : ℕ). low_first size n ++ words_bytes size (drop (i + 1) words)) (sym e)

  -- the next word has room where all that is left has
  pub word_fits : i < length words → size ≤ length (words_bytes size (drop i words))
  word_fits h =
      let one : List ℕ = low_first size (word_number size (get_or words i 0)) in
      let rest : List ℕ = words_bytes size (drop (i + 1) words) in
      omega (arith, ap length (words_next h _ refl), length-append one rest, length_low size (word_number size (get_or words i 0)))

  pub words_end : length words ≤ i → words_bytes size (drop i words) ≡ []
  unfolding words_bytes
  words_end h = ap (words_bytes size) (drop_of_length-le words h)

module _ (svids modes run : List ℕ) (i : ℕ) where
  pub entries_next : i < length svids → (words : List ℕ) → words ≡ modes_at modes run i →
      entries_bytes (entries_from i (drop i svids) modes run) ≡
      entry_bytes (record { svid = get_or svids i 0; modes = words }) ++ entries_bytes (entries_from (i + 1) (drop (i + 1) svids) modes run)
  unfolding entries_from entries_bytes
  entries_next h words e =
      ap (λ (l : List ℕ). entries_bytes (entries_from i l modes run)) (next svids i h) ∙
      ap (λ (l : List ℕ). entry_bytes (record { svid = get_or svids i 0; modes = l }) ++ entries_bytes (entries_from (suc i) (drop (i + 1) svids) modes run)) (sym e) ∙
      ap (λ (k : ℕ). entry_bytes (record { svid = get_or svids i 0; modes = words }) ++ entries_bytes (entries_from k (drop (i + 1) svids) modes run)) (sym (add-one i))

  pub entries_end : length svids ≤ i → entries_bytes (entries_from i (drop i svids) modes run) ≡ []
  unfolding entries_from entries_bytes
  entries_end h = ap (λ (l : List ℕ). entries_bytes (entries_from i l modes run)) (drop_of_length-le svids h)

-- lengths
pub length_modes : (modes : List ℕ) → length (modes_bytes modes) ≡ length modes * 5
unfolding modes_bytes mode_bytes bytes_of_object
length_modes [] = refl
length_modes (mode ∷ modes) = omega (arith, length_modes modes)

pub length_entry : (entry : Entry) → length (entry_bytes entry) ≡ 3 + length entry.modes * 5
unfolding entry_bytes svid_bytes
length_entry entry = omega (arith, length_modes entry.modes)

pub length_objects : (objects : List ℕ) → length (words_bytes object_size objects) ≡ length objects * 4
length_objects objects = omega (arith, ap length (objects_words objects), length_bytes objects)

pub length_catalogue : (c : Catalogue) → length (catalogue_bytes c) ≡ length c.identity * 4 + length (entries_bytes c.entries) + 2
unfolding catalogue_bytes
length_catalogue c =
    omega (arith, length-append (bytes_of c.identity ++ entries_bytes c.entries) (end_kind ∷ []), length-append (bytes_of c.identity) (entries_bytes c.entries), length_bytes c.identity)

-- one entry more
pub entries_more : (svids modes run : List ℕ) (i : ℕ) → i < length svids → (words : List ℕ) → words ≡ modes_at modes run i →
    length (entries_bytes (entries_from i (drop i svids) modes run)) ≡
    3 + length words * 5 + length (entries_bytes (entries_from (i + 1) (drop (i + 1) svids) modes run))
entries_more svids modes run i h words e =
    let entry : Entry = record { svid = get_or svids i 0; modes = words } in
    let rest : List ℕ = entries_bytes (entries_from (i + 1) (drop (i + 1) svids) modes run) in
    omega (arith, ap length (entries_next svids modes run i h words e), length-append (entry_bytes entry) rest, length_entry entry)

-- at most six modes each
pub entries_most : (entries : List Entry) → Each SixModes entries → length (entries_bytes entries) ≤ 33 * length entries
unfolding entries_bytes
entries_most [] six = omega arith
entries_most (entry ∷ entries) six =
    omega (arith, entries_most entries six.1, six.0, length-append (entry_bytes entry) (entries_bytes entries), length_entry entry)

module _ (modes run : List ℕ) where
  pub length_entries : (i : ℕ) (svids : List ℕ) → length (entries_from i svids modes run) ≡ length svids
  unfolding entries_from
  length_entries i [] = refl
  length_entries i (s ∷ svids) = ap suc (length_entries (suc i) svids)

  pub six_modes : (i : ℕ) (svids : List ℕ) → Each SixModes (entries_from i svids modes run)
  unfolding entries_from
  six_modes i [] = tt
  six_modes i (s ∷ svids) = (modes_most modes i run, six_modes (suc i) svids)

  pub from_most : (i : ℕ) (svids : List ℕ) → length (entries_bytes (entries_from i svids modes run)) ≤ 33 * length svids
  from_most i svids = omega (arith, entries_most (entries_from i svids modes run) (six_modes i svids), length_entries i svids)
