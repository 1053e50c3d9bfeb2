-- What is kept keeps all limits of 01, so it is read back as it is.
use mathlib.Core.Logic.{◌⊎◌, inl, inr}
use mathlib.Core.Path.{◌≡◌, refl, ap, sym, ◌∙◌, subst}
use mathlib.Core.List.{List, [], ◌∷◌, ◌++◌, append-nil}
use Prim.Native.Nat.{ℕ, ◌<◌, ◌≤◌}
use native.Mathlib.Omega.{arith}
use lib.ListN.{length, length-append}
use Rattle.laws.specs.Bounded.{Below}
use Rattle.pages.specs.Lists.{sound_list}
use Rattle.taking.proofs.Gathering.{sound_first}
use Rattle.laptop.specs.Catalogue.{Entry, Catalogue}
use Rattle.catalogue.specs.Bytes.{least_objects, most_objects, Each, EntryFits}
use Rattle.judging.specs.Judging.{judgement, judgement_of}
use Rattle.judging.specs.Walking.{svids_of}
use Rattle.judging.proofs.Entries.{svids_append}
use Rattle.catalogue_laws.specs.Within.{OneToSix, Within}
use Rattle.catalogue_laws.proofs.Behind.{each_before}
use Rattle.catalogue_laws.proofs.Limits.{Modes, closed, bare, Keeping, passed_keeps}
use Rattle.catalogue_laws.proofs.ReadWrite.{read_write}
use Rattle.mending.specs.Mending.{without_bare, kept_of, kept_bytes}
use Rattle.mending.proofs.Front.{stood}
use Rattle.mending.proofs.Leaving.{Left, all, before, left, without_bare_lem}

-- nothing is left out where each SVID has its modes
pub nothing_left_out : (entries : List Entry) → Each OneToSix entries → without_bare entries ≡ entries
nothing_left_out entries each = go (left entries)
  where
    go : Left entries → without_bare entries ≡ entries
    go (all e some) = e
    go (before a last is none e) = absurd (omega (arith, (each_before OneToSix a last (rw is at each)).1.0, none))

-- the entries that are left, and those left out behind them
record Parts (entries : List Entry) : Type 0 where
  out : List Entry
  parts : entries ≡ without_bare entries ++ out
  each : Each OneToSix (without_bare entries)

parts_of : (entries : List Entry) → Modes entries → Parts entries
parts_of entries (closed each) =
    let same = nothing_left_out entries each in
    record { out = []; parts = sym same ∙ sym (append-nil (without_bare entries)); each = rw same each }
parts_of entries (bare a number is each) =
    let last : Entry = record { svid = number; modes = [] } in
    let left_are : without_bare entries ≡ a = ap without_bare is ∙ without_bare_lem a last refl in
    record { out = last ∷ []; parts = is ∙ ap (λ (l : List Entry). l ++ last ∷ []) (sym left_are); each = rw left_are each }

module _ (bytes : List ℕ) (b : Below 256 bytes) (begun : 0 < length (judgement_of bytes).catalogue.identity) where
  abbrev c : Catalogue
  c = (judgement_of bytes).catalogue

  kept_keeping : Keeping c
  kept_keeping = passed_keeps b (stood bytes).passed

  pub mended_within : Within (kept_of c)
  unfolding kept_of
  mended_within = record {
    objects_least = (objects kept_keeping.objects begun).0;
    objects_most = (objects kept_keeping.objects begun).1;
    svids_sound =
        sound_first (svids_of (without_bare c.entries)) (svids_of p.out)
        (ap sound_list (sym (svids_append (without_bare c.entries) p.out) ∙ sym (ap svids_of p.parts)) ∙ kept_keeping.sound);
    svids_most = omega (arith, kept_keeping.most, ap length p.parts, length-append (without_bare c.entries) p.out);
    modes_each_lem = p.each;
    fits = record {
      identity_fits = kept_keeping.fits.identity_fits;
      entries_fit = each_first EntryFits (without_bare c.entries) p.out (subst (Each EntryFits) p.parts kept_keeping.fits.entries_fit);
    };
  }
    where
      p : Parts c.entries
      p = parts_of c.entries kept_keeping.modes

      objects : {n : ℕ} → (n ≡ 0) ⊎ ((least_objects ≤ n) × (n ≤ most_objects)) → 0 < n → (least_objects ≤ n) × (n ≤ most_objects)
      objects (inl none) some = absurd (omega arith)
      objects (inr both) some = both

      each_first : (P : Entry → Type 0) (x y : List Entry) → Each P (x ++ y) → Each P x
      each_first P [] y each = tt
      each_first P (entry ∷ x) y each = (each.0, each_first P x y each.1)

  -- what comes out is accepted, and reads as what was kept
  pub mended_accepted : judgement_of (kept_bytes (judgement_of bytes)) ≡ judgement 0 (length (kept_bytes (judgement_of bytes))) (kept_of c)
  unfolding kept_bytes
  mended_accepted = read_write (kept_of c) mended_within
