-- Where the stretch lies, by what judging gives.
use mathlib.Core.Path.{◌≡◌, ap, ap₂, sym, ◌∙◌}
use mathlib.Core.List.{List}
use Prim.Native.Nat.{ℕ, ◌+◌, ◌*◌}
use Rattle.judging.specs.Judging.{Judgement, judgement_of, FileJudged}
use Rattle.judging.specs.Walking.{walk_of}
use Rattle.judging.specs.Judging.{Judged}
use Rattle.judging.specs.declared.walk.Walk.{Walk}
use Rattle.catalogue_laws.proofs.Judged.{number_is, walk_is}
use Rattle.stretches.proofs.Laws.{fault_first, sound_place}
use Rattle.stretches.specs.Stretches.{refused_at, place_in, stretch_in, NotedAs}

module _ {bytes : List ℕ} {result : Judged} {svids numbers : List ℕ} (judged : FileJudged bytes result svids numbers) where
  abbrev j : Judgement
  j = judgement_of bytes

  -- a fault,
  pub stretch_fault : (svid : ℕ) → (result.refusal ≡ 0 → ⊥) → refused_at result.refusal result.walk.at ≡ stretch_in j svid
  unfolding walk_of
  stretch_fault svid fault =
      ap₂ refused_at (number_is judged) (ap (λ (w : Walk). w.at) (walk_is judged)) ∙ sym (fault_first bytes svid (λ z. fault (number_is judged ∙ z)))

  -- or what the walk has noted
  pub noted_as : NotedAs j.catalogue.entries result.walk svids numbers
  unfolding walk_of
  noted_as = record { count_is = ap (λ (w : Walk). w.count) (walk_is judged); svids_are = judged.svids_are; numbers_are = judged.numbers_are }

  pub stretch_sound : (svid : ℕ) → result.refusal ≡ 0 → place_in svid (1 + result.walk.extent * 4) j.catalogue.entries ≡ stretch_in j svid
  unfolding walk_of
  stretch_sound svid sound =
      ap (λ (n : ℕ). place_in svid (1 + n * 4) j.catalogue.entries) (ap (λ (w : Walk). w.extent) (walk_is judged)) ∙
      sym (sound_place bytes svid (sym (number_is judged) ∙ sound))
