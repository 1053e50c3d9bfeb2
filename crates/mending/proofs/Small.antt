-- What is given back is small: what is kept has at most 72 SVIDs, 432 modes and 2,402 bytes, and a fault stands within as many.
use mathlib.Core.Path.{sym}
use mathlib.Core.Bool.{Bool, true, false, cond}
use mathlib.Core.List.{List}
use Prim.Native.Nat.{ℕ, ◌≤◌}
use native.Mathlib.Omega.{arith}
use lib.Dec.{eqb}
use lib.ListN.{length}
use Rattle.pages.specs.Lists.{most_svids}
use Rattle.laptop.specs.Catalogue.{run_words}
use Rattle.catalogue.specs.Bytes.{most_bytes}
use Rattle.judging.specs.Judging.{Judgement, judgement_of}
use Rattle.judging.specs.Walking.{walk_of}
use Rattle.catalogue_laws.proofs.Bounds.{bounds, place_most}
use Rattle.mending.specs.Keeping.{kept_by_of}
use Rattle.mending.specs.Mending.{mend_refusal, report_of, fault_of, outcome_of, mended_as, mending_of}
use Rattle.mending.specs.Mending.{Mended}
use Rattle.mending.specs.Mending.{Refused, Sound, Partial}
use Rattle.mending.specs.declared.keeping.Kept.{Kept}
use Rattle.mending.proofs.Counting.{kept_most, kept_is}

pub record KeptSmall (kept : Kept) : Type 0 where
  pub svids_most : kept.svids ≤ most_svids
  pub modes_most : kept.modes ≤ run_words
  pub length_most : kept.length ≤ most_bytes

-- by what is given back
abbrev pub Small : Mended → Type 0
Small (Refused number) = Unit {0}
Small (Sound kept) = KeptSmall kept
Small (Partial fault kept) = (fault.at ≤ most_bytes) × KeptSmall kept

module _ (bytes : List ℕ) where
  abbrev j : Judgement
  j = judgement_of bytes

  kept_small : KeptSmall (kept_by_of (walk_of j.at j.catalogue))
  unfolding kept_by_of walk_of
  kept_small =
      let most = bounds bytes in
      let svids = kept_most (walk_of j.at j.catalogue) in
      record {
        svids_most = omega (arith, svids, most.svids_most);
        modes_most = most.modes_most;
        length_most = omega (arith, svids, most.objects_most, most.svids_most, most.modes_most);
      }

  report_small : KeptSmall (report_of j)
  report_small = rw (sym (kept_is j.at j)) kept_small

  outcome_small : Small (outcome_of j)
  unfolding outcome_of
  outcome_small = go (eqb j.refusal 0)
    where
      go : (b : Bool) → Small (cond b (Sound (report_of j)) (Partial (fault_of j) (report_of j)))
      go true = report_small
      go false = (place_most bytes, report_small)

  pub mending_small : (out : List ℕ) → Small (mending_of bytes out).0
  unfolding mending_of mended_as
  mending_small out = go (eqb (mend_refusal j (length out)) 0)
    where
      go : (b : Bool) → Small (cond b (outcome_of j) (Refused (mend_refusal j (length out))))
      go true = outcome_small
      go false = tt
