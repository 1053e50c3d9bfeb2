-- How far the walk comes: at most 72 SVIDs with six modes each, so at most 2,402 bytes.
use mathlib.Core.Path.{refl}
use mathlib.Core.List.{List, [], ◌∷◌}
use Prim.Native.Nat.{ℕ, zero, suc, ◌+◌, ◌<◌, ◌≤◌}
use native.Mathlib.Omega.{arith}
use lib.ListN.{length, drop, length-drop}
use Rattle.pages.specs.Lists.{most_svids}
use Rattle.laptop.specs.Catalogue.{Catalogue, run_words}
use Rattle.catalogue.specs.Bytes.{most_objects, most_bytes}
use Rattle.records.specs.Records.{unknown_kind, cut_record}
use Rattle.records.specs.declared.Record.TheVariants.{End}
use Rattle.records.proofs.Laws.{whole_length}
use Rattle.judging.specs.Judging.{Judgement, judgement, out_of_order, bytes_after_end, ended, walk_from, nothing_yet, judgement_of}
use Rattle.judging.specs.Walking.{all_modes, walk_of, added}
use Rattle.catalogue_laws.proofs.Sized.{Sized, sized_on, sized_front}
use Rattle.catalogue_laws.proofs.Sizes.{end_length}
use Rattle.catalogue_laws.proofs.Steps.{turn_short, Step, step}
use Rattle.catalogue_laws.proofs.Steps.Step.{unknown, short, wrong, end as at_end, on}
use Rattle.catalogue_laws.proofs.Turns.{turn_unknown, turn_wrong, turn_end, turn_on}

pub record Bounds (j : Judgement) : Type 0 where
  pub place_most : j.at ≤ most_bytes
  pub objects_most : length j.catalogue.identity ≤ most_objects
  pub svids_most : length j.catalogue.entries ≤ most_svids
  pub modes_most : all_modes j.catalogue.entries ≤ run_words

bounds_here : (number at place : ℕ) (c : Catalogue) → Sized (walk_of at c) → place ≤ at + 1 → Bounds (judgement number place c)
unfolding walk_of
bounds_here number at place c s near = omega arith

bounds_ended : (at place : ℕ) (c : Catalogue) (rest : List ℕ) → Sized (walk_of at c) → place ≤ at + 1 → Bounds (ended place c rest)
unfolding ended
bounds_ended at place c [] s near = bounds_here 0 at place c s near
bounds_ended at place c (byte ∷ rest) s near = bounds_here bytes_after_end at place c s near

abbrev BoundsFrom : ℕ → Type 0
BoundsFrom records = (at : ℕ) (c : Catalogue) (bytes : List ℕ) → length bytes < records → Sized (walk_of at c) → Bounds (walk_from records at c bytes)

bounds_from : (records : ℕ) → BoundsFrom records
bounds_from zero at c bytes enough s = absurd (omega arith)
bounds_from (suc records) at c bytes enough s = go (step at c bytes) (bounds_from records)
  where
    go : Step at c bytes → BoundsFrom records → Bounds (walk_from (suc records) at c bytes)
    go (unknown e) further = rw (turn_unknown records at c bytes e) (bounds_here unknown_kind at at c s (omega arith))
    go (short e) further = rw (turn_short records at c bytes e) (bounds_here cut_record at at c s (omega arith))
    go (wrong r n e f) further = rw (turn_wrong records at c bytes r n e f) (bounds_here out_of_order at at c s (omega arith))
    go (at_end n e f) further =
        rw (turn_end records at c bytes End n e f refl)
        (bounds_ended at (at + n) c (drop n bytes) s (omega (arith, end_length bytes n e)))
    go (on r n e f is) further =
        rw (turn_on records at c bytes r n e f is)
        (further (at + n) (added c r bytes) (drop n bytes) (omega (arith, length-drop n bytes, whole_length bytes r n e)) (sized_on at c bytes s r n e f is))

pub bounds : (bytes : List ℕ) → Bounds (judgement_of bytes)
unfolding judgement_of
bounds bytes = bounds_from (suc (length bytes)) 0 nothing_yet bytes (omega arith) sized_front

pub place_most : (bytes : List ℕ) → (judgement_of bytes).at ≤ most_bytes
place_most bytes = (bounds bytes).place_most
