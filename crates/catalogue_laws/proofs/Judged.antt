-- What judging hands over, told from what the file is judged.
use mathlib.Core.Path.{◌≡◌, ap}
use mathlib.Core.List.{List}
use Prim.Native.Nat.{ℕ, ◌≤◌}
use native.Mathlib.Omega.{arith}
use Rattle.judging.specs.Judging.{judgement_of, FileJudged}
use Rattle.judging.specs.Walking.{walk_of}
use Rattle.judging.specs.Judging.{Judged}
use Rattle.judging.specs.declared.walk.Walk.{Walk}
use Rattle.catalogue_laws.proofs.Bounds.{bounds}

module _ {bytes : List ℕ} {result : Judged} {svids numbers : List ℕ} (judged : FileJudged bytes result svids numbers) where
  pub number_is : result.refusal ≡ (judgement_of bytes).refusal
  number_is = ap (λ (r : Judged). r.refusal) judged.result_is

  pub walk_is : result.walk ≡ walk_of (judgement_of bytes).at (judgement_of bytes).catalogue
  walk_is = ap (λ (r : Judged). r.walk) judged.result_is

  pub walk_bounds : (result.walk.extent ≤ 6) × (result.walk.count ≤ 72)
  unfolding walk_of
  walk_bounds =
      let most = bounds bytes in
      (omega (arith, ap (λ (w : Walk). w.extent) walk_is, most.objects_most), omega (arith, ap (λ (w : Walk). w.count) walk_is, most.svids_most))
