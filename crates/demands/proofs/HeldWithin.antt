-- What a well-formed laptop holds is within 01's limits, so what is written of it reads as the same catalogue.
use mathlib.Core.Path.{◌≡◌, refl, ap, ◌∙◌}
use mathlib.Core.List.{List, [], ◌∷◌}
use Prim.Native.Nat.{ℕ, suc, ◌+◌, ◌*◌, ◌^◌, ◌<◌, ◌≤◌}
use native.Mathlib.Omega.{arith}
use lib.ListN.{length, get_or, take, drop, replicate, length-append, length-take, length-drop}
use Rattle.laws.specs.Bounded.{Below}
use Rattle.pages.specs.Lists.{sound_list}
use Rattle.laptop.specs.Catalogue.{Catalogue, modes_each, run_words, modes_number, modes_at, entries_from, catalogue_in}
use Rattle.laptop.specs.State.{Memory, fresh_laptop}
use Rattle.std.specs.Prelude.{Option, Some, None}
use Rattle.laptop.specs.declared.Laptop.{Laptop}
use Rattle.laptop.specs.declared.Size.{Size}
use Rattle.laptop.proofs.Numbers.{number_few}
use Rattle.laptop_laws.specs.Effects.{Call, Kept, kept_after}
use Rattle.laptop_laws.specs.WellFormed.{Lent, Listed, HeldFits, WellFormed}
use Rattle.laptop_laws.proofs.Laws.{fresh, keeps_all}
use Rattle.catalogue.specs.Bytes.{catalogue_bytes, most_objects, Each, EntryFits, holding, held_catalogue, written_bytes, written_into, CatalogueWritten}
use Rattle.catalogue.specs.Bytes.{Bytes}
use Rattle.catalogue.proofs.Laws.{accepted_bytes}
use Rattle.catalogue.proofs.Lengths.{length_entries}
use Rattle.catalogue.proofs.Places.{modes_most}
use Rattle.judging.specs.Judging.{judgement, judgement_of}
use Rattle.judging.specs.Walking.{svids_of}
use Rattle.catalogue_laws.specs.Within.{OneToSix, Within}
use Rattle.catalogue_laws.proofs.Below.{take_below, drop_below}
use Rattle.catalogue_laws.proofs.ReadWrite.{read_write}

-- the held catalogue's numbers are as wide as the arrays that it is lent in
pub record Wide (m : Memory) : Type 0 where
  pub identity_wide : Below (2 ^ 32) m.held_identity
  pub svids_wide : Below (2 ^ 16) m.held_svids
  pub run_wide : Below (2 ^ 32) m.held_run

-- the entries of SVIDs from a place on
module _ (modes run : List ℕ) where
  svids_from : (i : ℕ) (svids : List ℕ) → svids_of (entries_from i svids modes run) ≡ svids
  unfolding svids_of entries_from
  svids_from i [] = refl
  svids_from i (svid ∷ svids) = ap (λ (l : List ℕ). svid ∷ l) (svids_from (suc i) svids)

  from_fit : (i : ℕ) (svids : List ℕ) → Below (2 ^ 16) svids → Below (2 ^ 32) run → Each EntryFits (entries_from i svids modes run)
  unfolding entries_from modes_at
  from_fit i [] s r = tt
  from_fit i (svid ∷ svids) s r =
      let words = drop_below (2 ^ 32) (i * modes_each) run r in
      ((s 0, take_below (2 ^ 32) (modes_number modes i) (drop (i * modes_each) run) words), from_fit (suc i) svids (λ k. s (suc k)) r)

  -- with 1 to 6 modes each, and a run that reaches so far
  module _ (n : ℕ) (some : (i : ℕ) → i < n → 1 ≤ get_or modes i 0) (few : (i : ℕ) → i < n → get_or modes i 0 ≤ modes_each) (there : n * modes_each ≤ length run) where
    some_at : (i : ℕ) → i < n → 1 ≤ length (modes_at modes run i)
    unfolding modes_at
    some_at i less =
        let words : List ℕ = drop (i * modes_each) run in
        omega (arith, length-take (modes_number modes i) words, length-drop (i * modes_each) run, number_few modes i _ refl (few i less), some i less)

    from_each : (i : ℕ) (svids : List ℕ) → i + length svids ≤ n → Each OneToSix (entries_from i svids modes run)
    unfolding entries_from
    from_each i [] h = tt
    from_each i (svid ∷ svids) h = ((some_at i (omega arith), modes_most modes i run), from_each (suc i) svids (omega arith))

listed_within : (size : Size) (identity svids modes run : List ℕ) → length identity ≡ most_objects → run_words ≤ length run →
    Below (2 ^ 32) identity → Below (2 ^ 16) svids → Below (2 ^ 32) run → Listed size size.count svids modes → Within (catalogue_in size identity svids modes run)
listed_within size identity svids modes run six enough identity_wide svids_wide run_wide listed =
    let list : List ℕ = take size.count svids in
    let objects = length-take size.extent identity in
    let count = length-take size.count svids in
    record {
      objects_least = omega (arith, objects, listed.extent_least);
      objects_most = omega (arith, objects);
      svids_sound = ap sound_list (svids_from modes run 0 list) ∙ listed.list_sound;
      svids_most = omega (arith, length_entries modes run 0 list, count, listed.count_fits);
      modes_each_lem = from_each modes run size.count listed.some_modes listed.few_modes (omega (arith, listed.count_fits)) 0 list (omega (arith, count));
      fits = record {
        identity_fits = take_below (2 ^ 32) size.extent identity identity_wide;
        entries_fit = from_fit modes run 0 list (take_below (2 ^ 16) size.count svids svids_wide) run_wide;
      };
    }

-- what is held is within them
pub held_within : (l : Laptop) (m : Memory) → WellFormed l m → length m.held_identity ≡ most_objects → Wide m → (c : Catalogue) →
    held_catalogue l.held m.held_identity m.held_svids m.held_modes m.held_run ≡ holding c → Within c
held_within l m formed six wide c = go l.held formed.held_fits
  where
    go : (held : Option Size) → HeldFits held m.held_svids m.held_modes →
        held_catalogue held m.held_identity m.held_svids m.held_modes m.held_run ≡ holding c → Within c
    go None fits e = absurd (let z : ◌≡◌ {A = ℕ} 0 1 = cc in omega arith)
    go (Some size) fits e =
        let is : catalogue_in size m.held_identity m.held_svids m.held_modes m.held_run ≡ c = cc in
        rw is at (listed_within size m.held_identity m.held_svids m.held_modes m.held_run six formed.lent.held_run_size
        wide.identity_wide wide.svids_wide wide.run_wide fits)

-- and so is every catalogue that is ever held, after any calls of a laptop that was fresh once
module _ (history : List (Call × List ℕ)) (m : Memory) where
  abbrev after : Kept
  after = kept_after history (record { laptop = fresh_laptop; memory = m })

  pub ever_held_within : Lent m → m.entered ≡ replicate 72 0 → length after.memory.held_identity ≡ most_objects → Wide after.memory → (c : Catalogue) →
      held_catalogue after.laptop.held after.memory.held_identity after.memory.held_svids after.memory.held_modes after.memory.held_run ≡ holding c →
      Within c
  ever_held_within lent none = held_within after.laptop after.memory (keeps_all history (record { laptop = fresh_laptop; memory = m }) (fresh m lent none))

-- what is written for a catalogue within them reads as that catalogue
pub written_reads : (c : Catalogue) (words : ℕ) (out : List ℕ) (result : Bytes) (buffer : List ℕ) →
    CatalogueWritten (holding c) words out result buffer → result.refusal ≡ 0 → Within c →
    judgement_of (take result.length buffer) ≡ judgement 0 result.length c
unfolding written_into
written_reads c words out result buffer w accepted within =
    let bytes : List ℕ = written_bytes (holding c) words (length out) in
    let whole : take result.length buffer ≡ catalogue_bytes c = accepted_bytes c words out result buffer w accepted in
    let number : result.length ≡ length bytes = ap (λ (b : Bytes). b.length) w.result_is in
    let room = length-append bytes (drop (length bytes) out) in
    let size : length (catalogue_bytes c) ≡ result.length =
    omega (arith, ap length whole, length-take result.length buffer, ap length w.buffer_is, room) in
    ap judgement_of whole ∙ read_write c within ∙ ap (λ (n : ℕ). judgement 0 n c) size

-- and so does what is written of a well-formed laptop
pub held_reads : (l : Laptop) (m : Memory) → WellFormed l m → length m.held_identity ≡ most_objects → Wide m → (c : Catalogue) →
    held_catalogue l.held m.held_identity m.held_svids m.held_modes m.held_run ≡ holding c →
    (out : List ℕ) (result : Bytes) (buffer : List ℕ) →
    CatalogueWritten (held_catalogue l.held m.held_identity m.held_svids m.held_modes m.held_run) (length m.held_run) out result buffer →
    result.refusal ≡ 0 → judgement_of (take result.length buffer) ≡ judgement 0 result.length c
held_reads l m formed six wide c e out result buffer w accepted =
    written_reads c (length m.held_run) out result buffer (rw e at w) accepted (held_within l m formed six wide c e)
