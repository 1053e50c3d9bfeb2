-- What is written for a catalogue within 01's limits reads as the same catalogue.
use mathlib.Core.Path.{◌≡◌, refl, ap, sym, ◌∙◌}
use mathlib.Core.Bool.{Bool, true, false}
use mathlib.Core.List.{List, [], ◌∷◌, ◌++◌, append_assoc, append-nil}
use Prim.Native.Nat.{ℕ, suc, ◌<◌, ◌≤◌}
use native.Mathlib.Omega.{arith}
use lib.ListN.{length, length-append, get_or-append}
use lib.Seq.{get_or-append_seam}
use Rattle.messages.specs.Layout.{bytes_of}
use Rattle.pages.specs.Lists.{most_svids, is_in, sound_list}
use Rattle.pages.proofs.Scanning.{sound_no_zero}
use Rattle.pages.proofs.Words.{in_stands, places_differ}
use Rattle.laptop.specs.Catalogue.{Entry, Catalogue}
use Rattle.catalogue.specs.Bytes.{end_kind, modes_bytes, entry_bytes, entries_bytes, catalogue_bytes, Each, EntryFits}
use Rattle.judging.specs.Judging.{judgement, nothing_yet, judgement_of}
use Rattle.judging.specs.Walking.{svids_of}
use Rattle.judging.proofs.Entries.{svids_append, last_behind}
use Rattle.catalogue_laws.specs.Within.{OneToSix, Within}
use Rattle.catalogue_laws.specs.Words.{Bare}
use Rattle.catalogue_laws.proofs.Reading.{Reads, reads_end, reads_modes, reads_svid, reads_identity}

-- in a sound list an SVID is not 0, and none of those before it
module _ (before behind : List ℕ) (svid : ℕ) (sound : sound_list (before ++ svid ∷ behind) ≡ true) where
  sound_some : svid ≡ 0 → ⊥
  sound_some none =
      sound_no_zero (before ++ svid ∷ behind) sound (length before) (omega (arith, length-append before (svid ∷ behind)))
      (get_or-append_seam before svid behind 0 ∙ none)

  pub sound_new : is_in svid before ≡ false
  sound_new = go (is_in svid before) refl
    where
      go : (t : Bool) → is_in svid before ≡ t → t ≡ false
      go false e = refl
      go true e =
          let s = in_stands svid before e in
          absurd (places_differ (before ++ svid ∷ behind) sound s.place (length before) s.within
          (omega (arith, s.within, length-append before (svid ∷ behind)))
          (get_or-append before (svid ∷ behind) 0 s.place s.within ∙ s.is_there ∙ sym (get_or-append_seam before svid behind 0)))

-- entries that are still to come, behind those that were passed
module _ (end : ℕ) (whole : Catalogue) (begun : 0 < length whole.identity) (sound : sound_list (svids_of whole.entries) ≡ true)
    (most : length whole.entries ≤ most_svids) where
  abbrev after : List Entry → Catalogue
  after passed = record { identity = whole.identity; entries = passed }

  reads_entries : (entries passed : List Entry) → passed ++ entries ≡ whole.entries → Each EntryFits entries → Each OneToSix entries →
      (Bare (after passed) → ⊥) → Reads end whole (after passed) (entries_bytes entries ++ end_kind ∷ [])
  unfolding svids_of entries_bytes entry_bytes
  reads_entries [] passed are fits six closed = reads_end end whole (after passed) begun closed (ap after (sym (append-nil passed) ∙ are))
  reads_entries (entry ∷ entries) passed are fits six closed =
      let svid : ℕ = entry.svid in
      let left : List ℕ = entries_bytes entries ++ end_kind ∷ [] in
      let parts : sound_list (svids_of passed ++ svid ∷ svids_of entries) ≡ true =
      ap sound_list (sym (svids_append passed (entry ∷ entries)) ∙ ap svids_of are) ∙ sound in
      let some = sound_some (svids_of passed) (svids_of entries) svid parts in
      let new = sound_new (svids_of passed) (svids_of entries) svid parts in
      let room : length passed < most_svids = omega (arith, ap length are, length-append passed (entry ∷ entries)) in
      let behind = reads_entries entries (passed ++ entry ∷ []) (append_assoc passed (entry ∷ []) entries ∙ are) fits.1 six.1
      (λ bare. omega (arith, bare.1, last_behind passed entry, six.0.0)) in
      let modes = reads_modes end whole whole.identity passed svid entry.modes [] left fits.0.1 (omega (arith, six.0.1)) behind in
      simp append_assoc
      (reads_svid end whole whole.identity passed svid (modes_bytes entry.modes ++ left) fits.0.0 begun closed some room new modes)

reads_catalogue : (end : ℕ) (c : Catalogue) → Within c → Reads end c nothing_yet (catalogue_bytes c)
unfolding catalogue_bytes
reads_catalogue end c w =
    let entries = reads_entries end c (omega (arith, w.objects_least)) w.svids_sound w.svids_most c.entries [] refl
    w.fits.entries_fit w.modes_each_lem (λ bare. omega (arith, bare.0)) in
    rw (append_assoc (bytes_of c.identity) (entries_bytes c.entries) (end_kind ∷ []))
    (reads_identity end c c.identity (entries_bytes c.entries ++ end_kind ∷ []) w.fits.identity_fits w.objects_least w.objects_most entries)

pub read_write : (c : Catalogue) → Within c → judgement_of (catalogue_bytes c) ≡ judgement 0 (length (catalogue_bytes c)) c
unfolding judgement_of
read_write c w = let end : ℕ = length (catalogue_bytes c) in reads_catalogue end c w (suc end) 0 (omega arith) (omega arith)
