-- What lies past byte 2,426 never matters.
use mathlib.Core.Path.{◌≡◌, refl, ap, ap₂, sym, ◌∙◌}
use mathlib.Core.List.{List, [], ◌∷◌}
use Prim.Native.Nat.{ℕ, zero, suc, ◌+◌, ◌-◌, ◌<◌, ◌≤◌}
use native.Mathlib.Omega.{arith}
use lib.ListN.{length, take, drop, length-take, length-drop}
use Rattle.laptop.specs.Catalogue.{Catalogue}
use Rattle.records.specs.declared.Record.TheVariants.{End}
use Rattle.records.proofs.Laws.{whole_length}
use Rattle.judging.specs.Judging.{ended, walk_from, nothing_yet, judgement_of}
use Rattle.judging.specs.Walking.{walk_of, added}
use Rattle.catalogue_laws.specs.Within.{longest_record, enough_bytes}
use Rattle.catalogue_laws.proofs.Parts.{part_unknown, part_short, part_whole, part_drop}
use Rattle.catalogue_laws.proofs.Sized.{Sized, sized_on, sized_front, sized_place}
use Rattle.catalogue_laws.proofs.Sizes.{end_length, record_most}
use Rattle.catalogue_laws.proofs.Steps.{turn_short, Step, step}
use Rattle.catalogue_laws.proofs.Steps.Step.{unknown, short, wrong, end, on}
use Rattle.catalogue_laws.proofs.Turns.{turn_unknown, turn_wrong, turn_end, turn_on}

ended_part : (at : ℕ) (c : Catalogue) (k : ℕ) (rest : List ℕ) → 0 < k → ended at c (take k rest) ≡ ended at c rest
unfolding ended
ended_part at c zero rest some = absurd (omega arith)
ended_part at c (suc k) [] some = refl
ended_part at c (suc k) (byte ∷ rest) some = refl

-- a walk that has room behind it for a record comes to the same, with turns enough on both sides
abbrev SameFrom : ℕ → Type 0
SameFrom records = (turns at m : ℕ) (c : Catalogue) (bytes : List ℕ) → length (take m bytes) < records → length bytes < turns → enough_bytes ≤ at + m →
    Sized (walk_of at c) → walk_from records at c (take m bytes) ≡ walk_from turns at c bytes

same_from : (records : ℕ) → SameFrom records
same_from zero turns at m c bytes enough all room s = absurd (omega arith)
same_from (suc records) zero at m c bytes enough all room s = absurd (omega arith)
same_from (suc records) (suc turns) at m c bytes enough all room s = go (step at c bytes) (same_from records)
  where
    here : longest_record ≤ m
    here = omega (arith, sized_place at c s)

    go : Step at c bytes → SameFrom records → walk_from (suc records) at c (take m bytes) ≡ walk_from (suc turns) at c bytes
    go (unknown e) further = turn_unknown records at c (take m bytes) (part_unknown m bytes e (omega (arith, here))) ∙ sym (turn_unknown turns at c bytes e)
    go (short e) further = turn_short records at c (take m bytes) (part_short m bytes e) ∙ sym (turn_short turns at c bytes e)
    go (wrong r n e f) further =
        let found = (part_whole m bytes r n e).same (omega (arith, here, record_most bytes r n e)) in
        turn_wrong records at c (take m bytes) r n found f ∙ sym (turn_wrong turns at c bytes r n e f)
    go (end n e f) further =
        let one = end_length bytes n e in
        let found = (part_whole m bytes End n e).same (omega (arith, here)) in
        turn_end records at c (take m bytes) End n found f refl ∙ ap (ended (at + n) c) (part_drop n m bytes) ∙
        ended_part (at + n) c (m - n) (drop n bytes) (omega (arith, here)) ∙ sym (turn_end turns at c bytes End n e f refl)
    go (on r n e f is) further =
        let within : n ≤ m = omega (arith, here, record_most bytes r n e) in
        let size = whole_length bytes r n e in
        let part = part_whole m bytes r n e in
        turn_on records at c (take m bytes) r n (part.same within) f is ∙
        ap₂ (walk_from records (at + n)) (part.added_same within c) (part_drop n m bytes) ∙
        further turns (at + n) (m - n) (added c r bytes) (drop n bytes)
        (omega (arith, length-take (m - n) (drop n bytes), length-take m bytes, length-drop n bytes)) (omega (arith, length-drop n bytes)) (omega arith)
        (sized_on at c bytes s r n e f is) ∙
        sym (turn_on turns at c bytes r n e f is)

pub front_decides : (bytes : List ℕ) → judgement_of (take enough_bytes bytes) ≡ judgement_of bytes
unfolding judgement_of
front_decides bytes =
    same_from (suc (length (take enough_bytes bytes))) (suc (length bytes)) 0 enough_bytes nothing_yet bytes (omega arith) (omega arith) (omega arith) sized_front
