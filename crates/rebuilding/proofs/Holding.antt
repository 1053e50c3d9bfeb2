-- What was rebuilt stands for the catalogue, as the laptop's definitions read such arrays.
use mathlib.Core.Path.{◌≡◌, refl, ap, ap₂, sym, ◌∙◌}
use mathlib.Core.Bool.{Bool, true, false}
use mathlib.Core.List.{List, [], ◌∷◌}
use Prim.Native.Nat.{ℕ, suc, ◌+◌, ◌<◌, ◌≤◌}
use native.Mathlib.Nat.{add-zero, zero-add}
use native.Mathlib.Omega.{arith}
use lib.Dec.{ltb, eqb}
use lib.ListN.{length, take, drop, replicate, length-replicate}
use lib.Seq.{take_at}
use borrow.Author.Tests.{ltb-false, le-ltb, le-leb, eqb-true, eqb-false}
use Rattle.laws.specs.Bounded.{Below}
use Rattle.laws.proofs.Padded.{take_padded}
use Rattle.laws.proofs.Stores.{sets_front}
use Rattle.pages.specs.Lists.{most_svids}
use Rattle.laptop.specs.Catalogue.{Entry, Catalogue, modes_each, run_words, modes_number, modes_at, entries_from, catalogue_in}
use Rattle.catalogue.specs.Bytes.{catalogue_bytes, Each, SixModes}
use Rattle.judging.specs.Judging.{Judgement, judgement_of, noted}
use Rattle.judging.specs.Walking.{svids_of, numbers_of}
use Rattle.judging.proofs.Entries.{length_svids}
use Rattle.judging.proofs.Places.{entry_at, number_noted}
use Rattle.catalogue_laws.specs.Within.{OneToSix, Within}
use Rattle.catalogue_laws.proofs.Limits.{accepted_within}
use Rattle.catalogue_laws.proofs.ReadWrite.{read_write}
use Rattle.rebuilding.specs.Rebuilding.{Arrays, modes_into, rebuilt, accepted_as, read_as, read_into, CatalogueRead}
use Rattle.rebuilding.specs.Rebuilding.{Rebuilt}
use Rattle.rebuilding.proofs.Filling.{modes_there}
use Rattle.rebuilding.proofs.Putting.{each_at}

-- the catalogue in arrays, of so many identity objects and so many SVIDs
abbrev pub held_in : ℕ → ℕ → Arrays → Catalogue
held_in extent count a = catalogue_in (record { extent = extent; count = count }) a.identity a.svids a.numbers a.run

-- what was noted stands in front
take_noted : (list : List ℕ) → length list ≤ most_svids → (n : ℕ) → length list ≡ n → take n (noted list) ≡ list
take_noted list few n size =
    let zeros : List ℕ = replicate most_svids 0 in
    ap (take n) (sets_front zeros list (omega (arith, few, length-replicate {A = ℕ} most_svids 0))) ∙ take_at list (drop (length list) zeros) n size

six_modes : (entries : List Entry) → Each OneToSix entries → Each SixModes entries
six_modes [] each = tt
six_modes (entry ∷ entries) each = (each.0.1, six_modes entries each.1)

-- arrays that have the modes of entries hold the entries
entries_held : (numbers run : List ℕ) (i : ℕ) (entries : List Entry) → ((n : ℕ) → n < length entries → modes_at numbers run (i + n) ≡ (entry_at entries n).modes) →
    entries_from i (svids_of entries) numbers run ≡ entries
unfolding svids_of entries_from
entries_held numbers run i [] there = refl
entries_held numbers run i (entry ∷ entries) there =
    ap₂ (λ (modes : List ℕ) (l : List Entry). record { svid = entry.svid; modes = modes } ∷ l)
    (ap (modes_at numbers run) (sym (add-zero i)) ∙ there 0 (omega arith))
    (entries_held numbers run (suc i) entries (λ n h.
    let e : suc i + n ≡ i + suc n = omega arith in
    ap (modes_at numbers run) e ∙ there (suc n) (omega arith)))

module _ (c : Catalogue) (within : Within c) (before : Arrays) (enough : run_words ≤ length before.run) where
  modes_held : (i : ℕ) → i < length c.entries →
      modes_at (noted (numbers_of c.entries)) (modes_into before.run 0 c.entries) i ≡ (entry_at c.entries i).modes
  unfolding modes_at modes_number
  modes_held i h =
      let number = number_noted c.entries within.svids_most i h in
      let few : length (entry_at c.entries i).modes ≤ modes_each = (each_at OneToSix c.entries i within.modes_each_lem h).1 in
      simp (number, le-leb _ _ few)
      (modes_there before.run c.entries (six_modes c.entries within.modes_each_lem) (omega (arith, within.svids_most)) i h)

  pub rebuilt_is : held_in (length c.identity) (length c.entries) (rebuilt c before) ≡ c
  unfolding rebuilt
  rebuilt_is =
      let size = length_svids c.entries in
      ap₂ (λ (objects : List ℕ) (entries : List Entry). record { identity = objects; entries = entries }) (take_padded c.identity within.objects_most)
      (ap (λ (l : List ℕ). entries_from 0 l (noted (numbers_of c.entries)) (modes_into before.run 0 c.entries))
      (take_noted (svids_of c.entries) (omega (arith, size, within.svids_most)) (length c.entries) size) ∙
      entries_held (noted (numbers_of c.entries)) (modes_into before.run 0 c.entries) 0 c.entries
      (λ n h. rw zero-add (modes_held n h)))

-- a reading that was not refused: the run has the words, the file is sound, and both are told
record Accepted (bytes : List ℕ) (before : Arrays) (result : Rebuilt) (after : Arrays) : Type 0 where
  enough : run_words ≤ length before.run
  sound : (judgement_of bytes).refusal ≡ 0
  result_is : result ≡ accepted_as (judgement_of bytes)
  arrays_are : after ≡ rebuilt (judgement_of bytes).catalogue before

accepted_as_lem : (bytes : List ℕ) (before : Arrays) (result : Rebuilt) (after : Arrays) → CatalogueRead bytes before result after → result.refusal ≡ 0 →
    Accepted bytes before result after
unfolding read_as read_into
accepted_as_lem bytes before result after r none = go (ltb (length before.run) run_words) (eqb j.refusal 0) refl refl
  where
    j : Judgement
    j = judgement_of bytes

    told : (read_as (length before.run) j).refusal ≡ 0
    told = sym (ap (λ (x : Rebuilt). x.refusal) r.result_is) ∙ none

    go : (few right : Bool) → ltb (length before.run) run_words ≡ few → eqb j.refusal 0 ≡ right → Accepted bytes before result after
    go true right f e = absurd (omega (arith, simp f at told))
    go false true f e = record {
      enough = ltb-false _ _ f;
      sound = eqb-true _ _ e;
      result_is = simp (f, e) at r.result_is;
      arrays_are = simp (f, e) at r.arrays_are;
    }
    go false false f e = absurd (eqb-false _ _ e (simp (f, e) at told))

within_holds : (bytes : List ℕ) → Within (judgement_of bytes).catalogue → (before : Arrays) (result : Rebuilt) (after : Arrays) →
    Accepted bytes before result after → held_in result.extent result.count after ≡ (judgement_of bytes).catalogue
within_holds bytes within before result after a =
    ap₂ (λ (x : Rebuilt) (y : Arrays). held_in x.extent x.count y) a.result_is a.arrays_are ∙ rebuilt_is (judgement_of bytes).catalogue within before a.enough

-- a sound file's catalogue
pub read_holds : (bytes : List ℕ) → Below 256 bytes → (before : Arrays) (result : Rebuilt) (after : Arrays) → CatalogueRead bytes before result after →
    result.refusal ≡ 0 → held_in result.extent result.count after ≡ (judgement_of bytes).catalogue
read_holds bytes b before result after r none =
    let a = accepted_as_lem bytes before result after r none in
    within_holds bytes (accepted_within bytes b a.sound) before result after a

-- and what was written for a catalogue within the limits is rebuilt as that catalogue
pub written_rebuilt : (c : Catalogue) → Within c → (before : Arrays) (result : Rebuilt) (after : Arrays) → CatalogueRead (catalogue_bytes c) before result after →
    run_words ≤ length before.run → (result.refusal ≡ 0) × (held_in result.extent result.count after ≡ c)
unfolding read_as
written_rebuilt c within before result after r enough =
    let e = read_write c within in
    let same : (judgement_of (catalogue_bytes c)).catalogue ≡ c = ap (λ (j : Judgement). j.catalogue) e in
    let few = le-ltb _ _ enough in
    let none : result.refusal ≡ 0 = simp (r.result_is, e, few) in
    let a = accepted_as_lem (catalogue_bytes c) before result after r none in
    (none, within_holds (catalogue_bytes c) (rw same within) before result after a ∙ same)
