-- The walk over what is left of a catalogue's bytes, record by record from the front, comes to that catalogue.
use mathlib.Core.Path.{◌≡◌, refl, ap, ap₂, ◌∙◌}
use mathlib.Core.Bool.{Bool, true, false, not, ◌&&◌}
use mathlib.Core.List.{List, [], ◌∷◌, ◌++◌, append_assoc, append-nil}
use Prim.Native.Nat.{ℕ, zero, suc, ◌+◌, ◌*◌, ◌^◌, ◌<◌, ◌≤◌}
use native.Mathlib.Omega.{arith}
use lib.Dec.{ltb, eqb}
use lib.ListN.{length, take, drop, length-append, length-drop}
use lib.Seq.{take-append_seam, drop_at}
use borrow.Author.Tests.{lt-ltb, ltb-true, eqb-true}
use Rattle.laws.specs.Bounded.{Below}
use Rattle.messages.specs.Layout.{bits, object_of, bytes_of_object, objects_of, bytes_of}
use Rattle.messages.proofs.Objects.{objects_bytes, length_bytes}
use Rattle.pages.specs.Lists.{most_svids, is_in}
use Rattle.laptop.specs.Catalogue.{Entry, Catalogue, modes_each}
use Rattle.catalogue.specs.Bytes.{end_kind, least_objects, most_objects, svid_bytes, mode_bytes, modes_bytes}
use Rattle.records.specs.Records.{found_in}
use Rattle.records.specs.Records.{Whole}
use Rattle.records.specs.declared.Record.{Record}
use Rattle.records.specs.declared.Record.TheVariants.{Identity, Svid, Mode, End}
use Rattle.records.proofs.Laws.{whole_length}
use Rattle.judging.specs.Judging.{judgement, ended, walk_from, nothing_yet}
use Rattle.judging.specs.Walking.{svids_of, last_number, walk_of, is_bare, is_end, may_follow, added}
use Rattle.judging.proofs.Entries.{last_behind, more, mode_behind}
use Rattle.judging.proofs.Following.{list_new, add_some, end_closed}
use Rattle.catalogue_laws.specs.Words.{Bare}
use Rattle.catalogue_laws.proofs.Known.{svid_found, mode_found, identity_found, end_found}
use Rattle.catalogue_laws.proofs.Turns.{turn_on, turn_end}

-- objects, written as bytes with more behind them and read again
objects_front : (ws rest : List ℕ) → objects_of (bytes_of ws ++ rest) ≡ objects_of (bytes_of ws) ++ objects_of rest
unfolding objects_of bytes_of bytes_of_object
objects_front [] rest = refl
objects_front (w ∷ ws) rest = ap (λ (l : List ℕ). object_of (bits 7 0 w) (bits 15 8 w) (bits 23 16 w) (bits 31 24 w) ∷ l) (objects_front ws rest)

pub objects_again : (ws rest : List ℕ) → Below (2 ^ 32) ws → take (length ws) (objects_of (bytes_of ws ++ rest)) ≡ ws
objects_again ws rest fits = rw (objects_front ws rest, objects_bytes ws fits) (take-append_seam ws (objects_of rest))

-- a catalogue whose last entry is this one
abbrev pub with_last : List ℕ → List Entry → Entry → Catalogue
with_last identity before entry = record { identity = identity; entries = before ++ entry ∷ [] }

not_bare : (at : ℕ) (c : Catalogue) → (Bare c → ⊥) → is_bare (walk_of at c) ≡ false
unfolding is_bare walk_of
not_bare at c closed = go (ltb 0 (length c.entries)) (eqb (last_number c.entries) 0) refl refl
  where
    go : (some none : Bool) → ltb 0 (length c.entries) ≡ some → eqb (last_number c.entries) 0 ≡ none → (some && none) ≡ false
    go true true some none = absurd (closed (ltb-true _ _ some, eqb-true _ _ none))
    go true false some none = refl
    go false none some e = refl

module _ (end : ℕ) (whole : Catalogue) where
  -- from a catalogue on, the walk over bytes that reach to the end comes to the whole catalogue, if it may take more records than there are bytes
  abbrev pub Reads : Catalogue → List ℕ → Type 0
  Reads c bytes = (records at : ℕ) → length bytes < records → at + length bytes ≡ end → walk_from records at c bytes ≡ judgement 0 end whole

  -- past a record that may follow
  reads_on : (c : Catalogue) (bytes : List ℕ) (r : Record) (n : ℕ) → found_in bytes ≡ Whole r n →
      ((at : ℕ) → may_follow (walk_of at c) (svids_of c.entries) r ≡ true) → is_end r ≡ false → Reads (added c r bytes) (drop n bytes) → Reads c bytes
  reads_on c bytes r n found follows other further zero at more ends = absurd (omega arith)
  reads_on c bytes r n found follows other further (suc records) at more ends =
      let size = whole_length bytes r n found in
      turn_on records at c bytes r n found (follows at) other ∙
      further records (at + n) (omega (arith, size.0, size.1, length-drop n bytes)) (omega (arith, size.0, size.1, length-drop n bytes))

  -- at the end, behind an entry with modes or the identity
  pub reads_end : (c : Catalogue) → 0 < length c.identity → (Bare c → ⊥) → c ≡ whole → Reads c (end_kind ∷ [])
  unfolding ended walk_of
  reads_end c begun closed is zero at more ends = absurd (omega arith)
  reads_end c begun closed is (suc records) at more ends =
      let follows : may_follow (walk_of at c) (svids_of c.entries) End ≡ true =
      end_closed (walk_of at c) (svids_of c.entries) (λ none. omega arith) ∙ ap not (not_bare at c closed) in
      turn_end records at c (end_kind ∷ []) End 1 (end_found []) follows refl ∙ ap₂ (judgement 0) ends is

  module _ (identity : List ℕ) (before : List Entry) where
    -- a mode under the last SVID
    reads_mode : (entry : Entry) (mode : ℕ) (rest : List ℕ) → mode < 2 ^ 32 → length entry.modes < modes_each →
        Reads (with_last identity before (more entry mode)) rest → Reads (with_last identity before entry) (mode_bytes mode ++ rest)
    unfolding walk_of added mode_bytes bytes_of_object
    reads_mode entry mode rest fits room further =
        let c : Catalogue = with_last identity before entry in
        let some : length c.entries ≡ 0 → ⊥ = (λ none. omega (arith, length-append before (entry ∷ []))) in
        let under : last_number c.entries < modes_each = omega (arith, last_behind before entry) in
        reads_on c (mode_bytes mode ++ rest) (Mode mode) 5 (mode_found rest mode fits)
        (λ at. add_some (walk_of at c) (svids_of c.entries) mode some ∙ lt-ltb _ _ under) refl
        (rw (mode_behind before entry mode) further)

    -- the modes of an SVID, of which some have passed
    pub reads_modes : (svid : ℕ) (modes passed rest : List ℕ) → Below (2 ^ 32) modes → length passed + length modes ≤ modes_each →
        Reads (with_last identity before (record { svid = svid; modes = passed ++ modes })) rest →
        Reads (with_last identity before (record { svid = svid; modes = passed })) (modes_bytes modes ++ rest)
    unfolding modes_bytes
    reads_modes svid [] passed rest fits room further = rw (append-nil passed) at further
    reads_modes svid (mode ∷ modes) passed rest fits room further =
        let behind = reads_modes svid modes (passed ++ mode ∷ []) rest (λ k. fits (suc k)) (omega (arith, length-append passed (mode ∷ [])))
        (rw (append_assoc passed (mode ∷ []) modes) further) in
        rw (append_assoc (mode_bytes mode) (modes_bytes modes) rest)
        (reads_mode (record { svid = svid; modes = passed }) mode (modes_bytes modes ++ rest) (fits 0) (omega arith) behind)

    -- an SVID that is not 0 and none of those before
    pub reads_svid : (svid : ℕ) (rest : List ℕ) → svid < 2 ^ 16 → 0 < length identity → (Bare (record { identity = identity; entries = before }) → ⊥) →
        (svid ≡ 0 → ⊥) → length before < most_svids → is_in svid (svids_of before) ≡ false →
        Reads (with_last identity before (record { svid = svid; modes = [] })) rest →
        Reads (record { identity = identity; entries = before }) (svid_bytes svid ++ rest)
    unfolding walk_of added svid_bytes
    reads_svid svid rest fits begun closed some room new further =
        let c : Catalogue = record { identity = identity; entries = before } in
        reads_on c (svid_bytes svid ++ rest) (Svid svid) 3 (svid_found rest svid fits)
        (λ at. list_new (walk_of at c) (svids_of before) svid (λ none. omega arith) (not_bare at c closed) some room ∙ ap not new) refl further

  -- the identity, before all entries
  pub reads_identity : (objects rest : List ℕ) → Below (2 ^ 32) objects → least_objects ≤ length objects → length objects ≤ most_objects →
      Reads (record { identity = objects; entries = [] }) rest → Reads nothing_yet (length objects ∷ bytes_of objects ++ rest)
  unfolding may_follow walk_of added
  reads_identity objects rest fits least most further =
      let size : ℕ = 1 + length objects * 4 in
      let left : drop size (length objects ∷ bytes_of objects ++ rest) ≡ rest =
      drop_at (length objects ∷ bytes_of objects) rest size (omega (arith, length_bytes objects)) in
      reads_on nothing_yet (length objects ∷ bytes_of objects ++ rest) (Identity (length objects)) size (identity_found rest objects least most) (λ at. refl) refl
      (rw (objects_again objects rest fits, left) further)
