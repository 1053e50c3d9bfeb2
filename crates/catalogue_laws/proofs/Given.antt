-- A number is given at a place, with the catalogue of the records before it, exactly when 02's words say so; so it is given once.
use mathlib.Core.Logic.{◌↔◌, ◌⊎◌, inl, inr}
use mathlib.Core.Path.{◌≡◌, refl, ap, ap₂, sym, ◌∙◌, subst}
use mathlib.Core.Bool.{false}
use mathlib.Core.List.{List, [], ◌∷◌}
use Prim.Native.Nat.{ℕ, zero, suc, ◌+◌, ◌-◌, ◌<◌, ◌≤◌}
use native.Mathlib.Omega.{arith}
use lib.ListN.{length, drop, length-drop}
use lib.Seq.{drop-drop}
use Rattle.laptop.specs.Catalogue.{Catalogue}
use Rattle.records.specs.Records.{found_in}
use Rattle.records.specs.Records.{Whole}
use Rattle.records.specs.declared.Record.{Record}
use Rattle.records.specs.declared.Record.TheVariants.{End}
use Rattle.records.proofs.Laws.{whole_length}
use Rattle.judging.specs.Judging.{Judgement, judgement, bytes_after_end, ended, walk_from, nothing_yet, judgement_of}
use Rattle.judging.specs.Walking.{is_end, added}
use Rattle.catalogue_laws.specs.Given.{Passed, Given}
use Rattle.catalogue_laws.specs.Given.Passed.{front, behind}
use Rattle.catalogue_laws.specs.Given.Given.{unknown, cut, wrong, behind_end, sound}
use Rattle.catalogue_laws.specs.Words.{Wrong}
use Rattle.catalogue_laws.proofs.Steps.{turn_short, Step, step}
use Rattle.catalogue_laws.proofs.Turns.{turn_unknown, turn_wrong, turn_end, turn_on}
use Rattle.catalogue_laws.proofs.Words.{wrong_exactly, right_exactly}

-- nothing may stand behind the end
ended_none : (at : ℕ) (c : Catalogue) (rest : List ℕ) → length rest ≡ 0 → ended at c rest ≡ judgement 0 at c
unfolding ended
ended_none at c [] none = refl
ended_none at c (byte ∷ rest) none = absurd (omega arith)

ended_some : (at : ℕ) (c : Catalogue) (rest : List ℕ) → 0 < length rest → ended at c rest ≡ judgement bytes_after_end at c
unfolding ended
ended_some at c [] some = absurd (omega arith)
ended_some at c (byte ∷ rest) some = refl

module _ (bytes : List ℕ) where
  -- a record behind an offset lies within the bytes
  reach : (at : ℕ) (r : Record) (n : ℕ) → found_in (drop at bytes) ≡ Whole r n → (1 ≤ n) × (at + n ≤ length bytes)
  reach at r n e =
      let size = whole_length (drop at bytes) r n e in
      (size.0, omega (arith, size, length-drop at bytes))

  -- what is judged is given: the walk stands behind records that it has passed
  abbrev GivenAs : Judgement → Type 0
  GivenAs j = Given bytes j.refusal j.at j.catalogue

  abbrev GivenFrom : ℕ → Type 0
  GivenFrom records = (at : ℕ) (c : Catalogue) → Passed bytes at c → length (drop at bytes) < records → GivenAs (walk_from records at c (drop at bytes))

  given_end : (at : ℕ) (c : Catalogue) (n : ℕ) → Passed bytes at c → found_in (drop at bytes) ≡ Whole End n → (Wrong c End → ⊥) →
      (rest : List ℕ) → length rest ≡ length bytes - (at + n) → at + n ≤ length bytes → GivenAs (ended (at + n) c rest)
  unfolding ended
  given_end at c n p e right [] size within = sound p n e right (omega (arith, size))
  given_end at c n p e right (byte ∷ rest) size within = behind_end p n e right (omega (arith, size))

  given_from : (records : ℕ) → GivenFrom records
  given_from zero at c p enough = absurd (omega arith)
  given_from (suc records) at c p enough = go (step at c (drop at bytes)) (given_from records)
    where
      go : Step at c (drop at bytes) → GivenFrom records → GivenAs (walk_from (suc records) at c (drop at bytes))
      go (Step.unknown e) further = rw (turn_unknown records at c (drop at bytes) e) (unknown p e)
      go (Step.short e) further = rw (turn_short records at c (drop at bytes) e) (cut p e)
      go (Step.wrong r n e f) further = rw (turn_wrong records at c (drop at bytes) r n e f) (wrong p r n e ((wrong_exactly at c r).0 f))
      go (Step.end n e f) further =
          rw (turn_end records at c (drop at bytes) End n e f refl, drop-drop n at bytes)
          (given_end at c n p e ((right_exactly at c End).0 f) (drop (at + n) bytes) (length-drop (at + n) bytes) (reach at End n e).1)
      go (Step.on r n e f is) further =
          rw (turn_on records at c (drop at bytes) r n e f is, drop-drop n at bytes)
          (further (at + n) (added c r (drop at bytes)) (behind p r n e ((right_exactly at c r).0 f) is)
          (omega (arith, reach at r n e, length-drop at bytes, length-drop (at + n) bytes)))

  -- what is given is judged: behind records that it has passed the walk comes to what it comes to from the front
  pub record Underway (at : ℕ) (c : Catalogue) : Type 0 where
    pub left : ℕ
    pub enough : length bytes ≤ at + left
    pub same : judgement_of bytes ≡ walk_from (suc left) at c (drop at bytes)

  underway_on : (at : ℕ) (c : Catalogue) → Underway at c → (r : Record) (n : ℕ) → found_in (drop at bytes) ≡ Whole r n → (Wrong c r → ⊥) → is_end r ≡ false →
      Underway (at + n) (added c r (drop at bytes))
  underway_on at c u r n e right is = go u.left refl
    where
      go : (left : ℕ) → u.left ≡ left → Underway (at + n) (added c r (drop at bytes))
      go zero none = absurd (omega (arith, reach at r n e, u.enough))
      go (suc left) more = record {
        left = left;
        enough = omega (arith, reach at r n e, u.enough);
        same =
            u.same ∙ turn_on u.left at c (drop at bytes) r n e ((right_exactly at c r).1 right) is ∙
            ap₂ (λ (k : ℕ) (l : List ℕ). walk_from k (at + n) (added c r (drop at bytes)) l) more (drop-drop n at bytes);
      }

  pub underway : {at : ℕ} {c : Catalogue} → Passed bytes at c → Underway at c
  unfolding judgement_of
  underway front = record { left = length bytes; enough = omega arith; same = refl }
  underway (behind {at} {c} p r n e right is) = underway_on at c (underway p) r n e right is

  judged_end : (at : ℕ) (c : Catalogue) (n : ℕ) → Passed bytes at c → found_in (drop at bytes) ≡ Whole End n → (Wrong c End → ⊥) →
      judgement_of bytes ≡ ended (at + n) c (drop (at + n) bytes)
  judged_end at c n p e right =
      let u = underway p in
      u.same ∙ turn_end u.left at c (drop at bytes) End n e ((right_exactly at c End).1 right) refl ∙ ap (ended (at + n) c) (drop-drop n at bytes)

  judged_as : {number at : ℕ} {c : Catalogue} → Given bytes number at c → judgement_of bytes ≡ judgement number at c
  judged_as (unknown {at} {c} p e) = let u = underway p in u.same ∙ turn_unknown u.left at c (drop at bytes) e
  judged_as (cut {at} {c} p e) = let u = underway p in u.same ∙ turn_short u.left at c (drop at bytes) e
  judged_as (wrong {at} {c} p r n e w) = let u = underway p in u.same ∙ turn_wrong u.left at c (drop at bytes) r n e ((wrong_exactly at c r).1 w)
  judged_as (behind_end {at} {c} p n e right some) =
      judged_end at c n p e right ∙ ended_some (at + n) c (drop (at + n) bytes) (omega (arith, length-drop (at + n) bytes))
  judged_as (sound {at} {c} p n e right all) =
      judged_end at c n p e right ∙ ended_none (at + n) c (drop (at + n) bytes) (omega (arith, length-drop (at + n) bytes))

  pub given_exactly : (number at : ℕ) (c : Catalogue) → (judgement_of bytes ≡ judgement number at c) ↔ Given bytes number at c
  unfolding judgement_of
  given_exactly number at c =
      (λ e. subst (λ (j : Judgement). GivenAs j) e (given_from (suc (length bytes)) 0 nothing_yet front (omega arith)), judged_as)

  pub given_once : {n n' at at' : ℕ} {c c' : Catalogue} → Given bytes n at c → Given bytes n' at' c' → (n ≡ n') × (at ≡ at') × (c ≡ c')
  given_once {n} {n'} {at} {at'} {c} {c'} g g' =
      let e : judgement n at c ≡ judgement n' at' c' = sym (judged_as g) ∙ judged_as g' in
      (ap (λ (j : Judgement). j.refusal) e, ap (λ (j : Judgement). j.at) e, ap (λ (j : Judgement). j.catalogue) e)

  -- there are no other numbers than 15 to 18
  pub only_these : ((judgement_of bytes).refusal ≡ 0) ⊎ ((15 ≤ (judgement_of bytes).refusal) × ((judgement_of bytes).refusal ≤ 18))
  only_these = go ((given_exactly (judgement_of bytes).refusal (judgement_of bytes).at (judgement_of bytes).catalogue).0 refl)
    where
      go : {number at : ℕ} {c : Catalogue} → Given bytes number at c → (number ≡ 0) ⊎ ((15 ≤ number) × (number ≤ 18))
      go (unknown p e) = inr (omega arith, omega arith)
      go (cut p e) = inr (omega arith, omega arith)
      go (wrong p r n e w) = inr (omega arith, omega arith)
      go (behind_end p n e right more) = inr (omega arith, omega arith)
      go (sound p n e right all) = inl refl
