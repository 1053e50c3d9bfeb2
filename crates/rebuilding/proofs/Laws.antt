-- What reading a catalogue keeps, for whoever stands above.
use mathlib.Core.Logic.{◌⊎◌, inl, inr}
use mathlib.Core.Path.{◌≡◌, refl, ap, sym, ◌∙◌}
use mathlib.Core.Bool.{Bool, true, false, cond}
use mathlib.Core.List.{List}
use Prim.Native.Nat.{ℕ, ◌≤◌}
use native.Mathlib.Omega.{arith}
use lib.Dec.{ltb, eqb}
use lib.ListN.{length}
use Rattle.laptop.specs.Catalogue.{run_words}
use Rattle.judging.specs.Judging.{Judgement, judgement_of}
use Rattle.catalogue_laws.proofs.Bounds.{bounds}
use Rattle.catalogue_laws.proofs.Given.{only_these as file_only_these}
use Rattle.rebuilding.specs.Rebuilding.{Arrays, rebuilt, short_run, refused_at, accepted_as, read_as, read_into, CatalogueRead, Small}
use Rattle.rebuilding.specs.Rebuilding.{Rebuilt}

-- a result that the promise allows is the only one
pub read_only : (bytes : List ℕ) (before : Arrays) (result result' : Rebuilt) (after after' : Arrays) →
    CatalogueRead bytes before result after → CatalogueRead bytes before result' after' → (result ≡ result') × (after ≡ after')
read_only bytes before result result' after after' r r' = (r.result_is ∙ sym r'.result_is, r.arrays_are ∙ sym r'.arrays_are)

-- a refusal changes no lent word
pub refused_leaves : (bytes : List ℕ) (before : Arrays) (result : Rebuilt) (after : Arrays) → CatalogueRead bytes before result after →
    (result.refusal ≡ 0 → ⊥) → after ≡ before
unfolding read_as read_into
refused_leaves bytes before result after r refused =
    r.arrays_are ∙ go (ltb (length before.run) run_words) (eqb (judgement_of bytes).refusal 0) (λ z. refused (ap (λ (x : Rebuilt). x.refusal) r.result_is ∙ z))
  where
    j : Judgement
    j = judgement_of bytes

    go : (few sound : Bool) → ((cond few (refused_at short_run 0) (cond sound (accepted_as j) (refused_at j.refusal j.at))).refusal ≡ 0 → ⊥) →
        cond few before (cond sound (rebuilt j.catalogue before) before) ≡ before
    go true sound other = refl
    go false true other = absurd (other refl)
    go false false other = refl

-- places and sizes are small
pub read_small : (bytes : List ℕ) (words : ℕ) → Small (read_as words (judgement_of bytes))
unfolding read_as
read_small bytes words = go (ltb words run_words) (eqb (judgement_of bytes).refusal 0)
  where
    j : Judgement
    j = judgement_of bytes

    go : (few sound : Bool) → Small (cond few (refused_at short_run 0) (cond sound (accepted_as j) (refused_at j.refusal j.at)))
    go true sound = record { at_most = omega arith; extent_most = omega arith; count_most = omega arith; modes_most = omega arith }
    go false true =
        let most = bounds bytes in
        record { at_most = most.place_most; extent_most = most.objects_most; count_most = most.svids_most; modes_most = most.modes_most }
    go false false = record { at_most = (bounds bytes).place_most; extent_most = omega arith; count_most = omega arith; modes_most = omega arith }

-- there are no other numbers than 11 and 15 to 18
pub only_these : (bytes : List ℕ) (words : ℕ) → let number : ℕ = (read_as words (judgement_of bytes)).refusal in
    (number ≡ 0) ⊎ (number ≡ short_run) ⊎ ((15 ≤ number) × (number ≤ 18))
unfolding read_as
only_these bytes words = go (ltb words run_words) (eqb (judgement_of bytes).refusal 0) (file_only_these bytes)
  where
    j : Judgement
    j = judgement_of bytes

    go : (few sound : Bool) → (j.refusal ≡ 0) ⊎ ((15 ≤ j.refusal) × (j.refusal ≤ 18)) →
        let number : ℕ = (cond few (refused_at short_run 0) (cond sound (accepted_as j) (refused_at j.refusal j.at))).refusal in
        (number ≡ 0) ⊎ (number ≡ short_run) ⊎ ((15 ≤ number) × (number ≤ 18))
    go true sound fault = inr (inl refl)
    go false true fault = inl refl
    go false false (inl none) = inl none
    go false false (inr fault) = inr (inr fault)
