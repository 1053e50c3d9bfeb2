-- Every proper beginning of a sound file is cut.
use mathlib.Core.Path.{◌≡◌, refl, ap, ap₂, sym, ◌∙◌}
use mathlib.Core.Bool.{Bool, true, false}
use mathlib.Core.List.{List, [], ◌∷◌}
use Prim.Native.Nat.{ℕ, zero, suc, ◌+◌, ◌-◌, ◌<◌, ◌≤◌}
use native.Mathlib.Omega.{arith}
use lib.Dec.{leb}
use lib.ListN.{length, take, drop, length-take, length-drop}
use borrow.Author.Tests.{leb-true, leb-false}
use Rattle.laptop.specs.Catalogue.{Catalogue}
use Rattle.records.specs.Records.{cut_record, found_in}
use Rattle.records.specs.Records.{Whole}
use Rattle.records.specs.declared.Record.{Record}
use Rattle.records.specs.declared.Record.TheVariants.{End}
use Rattle.records.proofs.Laws.{whole_length}
use Rattle.judging.specs.Judging.{Judgement, ended, walk_from, nothing_yet, judgement_of}
use Rattle.judging.specs.Walking.{is_end, added}
use Rattle.catalogue_laws.proofs.Parts.{part_whole, part_drop}
use Rattle.catalogue_laws.proofs.Steps.{turn_short, Short, follows, Step, step}
use Rattle.catalogue_laws.proofs.Steps.Step.{unknown, short, wrong, end, on}
use Rattle.catalogue_laws.proofs.Turns.{turn_unknown, turn_wrong, turn_end, turn_on}

-- a sound file ends with its end record
ended_sound : (at : ℕ) (c : Catalogue) (rest : List ℕ) → (ended at c rest).refusal ≡ 0 → length rest ≡ 0
unfolding ended
ended_sound at c [] none = refl
ended_sound at c (byte ∷ rest) none = absurd (omega arith)

-- with turns enough on both sides the walks pass the same records until the beginning stops
abbrev CutFrom : ℕ → Type 0
CutFrom records = (turns at m : ℕ) (c : Catalogue) (bytes : List ℕ) → length (take m bytes) < records → length bytes < turns → m < length bytes →
    (walk_from turns at c bytes).refusal ≡ 0 → (walk_from records at c (take m bytes)).refusal ≡ cut_record

cut_from : (records : ℕ) → CutFrom records
cut_from zero turns at m c bytes enough all proper sound = absurd (omega arith)
cut_from (suc records) zero at m c bytes enough all proper sound = absurd (omega arith)
cut_from (suc records) (suc turns) at m c bytes enough all proper sound = go (step at c bytes) (cut_from records)
  where
    judged : (j : Judgement) → walk_from (suc turns) at c bytes ≡ j → j.refusal ≡ 0
    judged j e = sym (ap (λ (x : Judgement). x.refusal) e) ∙ sound

    stops : Short (take m bytes) → (walk_from (suc records) at c (take m bytes)).refusal ≡ cut_record
    stops e = ap (λ (x : Judgement). x.refusal) (turn_short records at c (take m bytes) e)

    passes : (r : Record) (n : ℕ) → found_in bytes ≡ Whole r n → follows at c r ≡ true → is_end r ≡ false → CutFrom records → (b : Bool) → leb n m ≡ b →
        (walk_from (suc records) at c (take m bytes)).refusal ≡ cut_record
    passes r n e f is further true t =
        let within : n ≤ m = leb-true n m t in
        let size = whole_length bytes r n e in
        let part = part_whole m bytes r n e in
        ap (λ (x : Judgement). x.refusal)
        (turn_on records at c (take m bytes) r n (part.same within) f is ∙ ap₂ (walk_from records (at + n)) (part.added_same within c) (part_drop n m bytes)) ∙
        further turns (at + n) (m - n) (added c r bytes) (drop n bytes)
        (omega (arith, length-take (m - n) (drop n bytes), length-take m bytes, length-drop n bytes)) (omega (arith, length-drop n bytes))
        (omega (arith, length-drop n bytes)) (judged _ (turn_on turns at c bytes r n e f is))
    passes r n e f is further false t = stops ((part_whole m bytes r n e).cut (leb-false n m t))

    go : Step at c bytes → CutFrom records → (walk_from (suc records) at c (take m bytes)).refusal ≡ cut_record
    go (unknown e) further = absurd (omega (arith, judged _ (turn_unknown turns at c bytes e)))
    go (short e) further = absurd (omega (arith, judged _ (turn_short turns at c bytes e)))
    go (wrong r n e f) further = absurd (omega (arith, judged _ (turn_wrong turns at c bytes r n e f)))
    go (end n e f) further =
        let none = ended_sound (at + n) c (drop n bytes) (judged _ (turn_end turns at c bytes End n e f refl)) in
        stops ((part_whole m bytes End n e).cut (omega (arith, length-drop n bytes)))
    go (on r n e f is) further = passes r n e f is further (leb n m) refl

pub beginning_cut : (bytes : List ℕ) → (judgement_of bytes).refusal ≡ 0 → (k : ℕ) → k < length bytes → (judgement_of (take k bytes)).refusal ≡ cut_record
unfolding judgement_of
beginning_cut bytes sound k proper = cut_from (suc (length (take k bytes))) (suc (length bytes)) 0 k nothing_yet bytes (omega arith) (omega arith) proper sound
