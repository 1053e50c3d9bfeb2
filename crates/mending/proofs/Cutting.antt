-- A file and its beginnings: a walk passes the same records in both, as far as the beginning goes.
use mathlib.Core.Logic.{inl, inr}
use mathlib.Core.Path.{◌≡◌, refl, ap, sym, ◌∙◌, subst}
use mathlib.Core.Bool.{Bool, true, false}
use mathlib.Core.List.{List, []}
use Prim.Native.Nat.{ℕ, zero, suc, ◌+◌, ◌-◌, ◌<◌, ◌≤◌}
use native.Mathlib.Omega.{arith}
use lib.Dec.{leb}
use lib.ListN.{length, take, drop, length-take, length-drop, drop_of_length-le}
use borrow.Author.Tests.{leb-true, leb-false}
use Rattle.laptop.specs.Catalogue.{Catalogue}
use Rattle.catalogue.specs.Bytes.{catalogue_bytes}
use Rattle.records.specs.Records.{cut_record, found_in}
use Rattle.records.specs.Records.{Found}
use Rattle.records.specs.Records.{Whole, Unknown, Cut, Nothing}
use Rattle.records.specs.declared.Record.{Record}
use Rattle.records.specs.declared.Record.TheVariants.{End}
use Rattle.records.proofs.Laws.{whole_length}
use Rattle.judging.specs.Judging.{Judgement, judgement_of}
use Rattle.judging.specs.Walking.{added}
use Rattle.catalogue_laws.specs.Given.{Passed, Given}
use Rattle.catalogue_laws.specs.Given.Passed.{front, behind}
use Rattle.catalogue_laws.specs.Given.Given.{unknown, cut, wrong, behind_end, sound}
use Rattle.catalogue_laws.specs.Words.{Wrong}
use Rattle.catalogue_laws.proofs.Given.{given_exactly}
use Rattle.catalogue_laws.proofs.Parts.{part_unknown, part_short, part_whole, part_drop}
use Rattle.catalogue_laws.proofs.Steps.{Short}
use Rattle.mending.specs.Beginning.{BeginningOf}
use Rattle.mending.specs.Mending.{without_bare, kept_of, kept_bytes}
use Rattle.mending.proofs.Front.{stood}
use Rattle.mending.proofs.Growing.{begins_without, begins_further, passed_grows}

-- a record of the file that lies within the beginning is the same there
module _ (bytes : List ℕ) (m : ℕ) where
  same_in_part : (at : ℕ) (r : Record) (n : ℕ) → found_in (drop at bytes) ≡ Whole r n → at + n ≤ m → found_in (drop at (take m bytes)) ≡ Whole r n
  same_in_part at r n e room = ap found_in (part_drop at m bytes) ∙ (part_whole (m - at) (drop at bytes) r n e).same (omega (arith, room))

  added_in_part : (at : ℕ) (r : Record) (n : ℕ) → found_in (drop at bytes) ≡ Whole r n → at + n ≤ m → (c : Catalogue) →
      added c r (drop at (take m bytes)) ≡ added c r (drop at bytes)
  added_in_part at r n e room c =
      ap (added c r) (part_drop at m bytes) ∙ (part_whole (m - at) (drop at bytes) r n e).added_same (omega (arith, room)) c

  pub passed_in_part : {at : ℕ} {c : Catalogue} → Passed bytes at c → at ≤ m → Passed (take m bytes) at c
  passed_in_part front room = front
  passed_in_part (behind {at} {c} p r n e right more) room =
      let size = whole_length (drop at bytes) r n e in
      subst (Passed (take m bytes) (at + n)) (added_in_part at r n e room c)
      (behind (passed_in_part p (omega (arith, size))) r n (same_in_part at r n e room) right more)

-- and what stands whole in the beginning stands so in the file
unshort : (bytes : List ℕ) (r : Record) (n : ℕ) → found_in bytes ≡ Whole r n → Short bytes → ⊥
unshort bytes r n e (inl s) = let h : Whole r n ≡ Cut = sym e ∙ s in absurd (let z : ◌≡◌ {A = ℕ} 0 1 = cc in omega arith)
unshort bytes r n e (inr s) = let h : Whole r n ≡ Nothing = sym e ∙ s in absurd (let z : ◌≡◌ {A = ℕ} 0 1 = cc in omega arith)

whole_in_all : (m : ℕ) (bytes : List ℕ) (r : Record) (n : ℕ) → found_in (take m bytes) ≡ Whole r n → found_in bytes ≡ Whole r n
unfolding found_in
whole_in_all zero bytes r n e = absurd (let z : ◌≡◌ {A = ℕ} 0 1 = cc in omega arith)
whole_in_all (suc m) bytes r n e = by (found_in bytes) refl
  where
    by : (found : Found) → found_in bytes ≡ found → found_in bytes ≡ Whole r n
    by (Whole s k) f = fits (leb k (suc m)) refl
      where
        fits : (b : Bool) → leb k (suc m) ≡ b → found_in bytes ≡ Whole r n
        fits true t = f ∙ sym ((part_whole (suc m) bytes s k f).same (leb-true k (suc m) t)) ∙ e
        fits false t = absurd (unshort (take (suc m) bytes) r n e ((part_whole (suc m) bytes s k f).cut (leb-false k (suc m) t)))
    by Unknown f =
        let h : Unknown ≡ Whole r n = sym (part_unknown (suc m) bytes f (omega arith)) ∙ e in
        absurd (let z : ◌≡◌ {A = ℕ} 0 1 = cc in omega arith)
    by Cut f = absurd (unshort (take (suc m) bytes) r n e (part_short (suc m) bytes (inl f)))
    by Nothing f = absurd (unshort (take (suc m) bytes) r n e (part_short (suc m) bytes (inr f)))

pub passed_in_all : (bytes : List ℕ) (m : ℕ) {at : ℕ} {c : Catalogue} → Passed (take m bytes) at c → Passed bytes at c
passed_in_all bytes m front = front
passed_in_all bytes m (behind {at} {c} p r n e right more) =
    let size = whole_length (drop at (take m bytes)) r n e in
    let room : at + n ≤ m = omega (arith, size, length-drop at (take m bytes), length-take m bytes) in
    let found = whole_in_all (m - at) (drop at bytes) r n (ap found_in (sym (part_drop at m bytes)) ∙ e) in
    subst (Passed bytes (at + n)) (sym (added_in_part bytes m at r n found room c)) (behind (passed_in_all bytes m p) r n found right more)

-- what is kept depends on nothing behind the fault: the file that is cut there has the same records
given_before : (bytes : List ℕ) {number at : ℕ} {c : Catalogue} → Given bytes number at c → (judgement_of (take at bytes)).catalogue ≡ c
unfolding found_in
given_before bytes g = by g
  where
    stops : {at : ℕ} {c : Catalogue} → Passed bytes at c → (judgement_of (take at bytes)).catalogue ≡ c
    stops {at} {c} p =
        let few : length (take at bytes) ≤ at = omega (arith, length-take at bytes) in
        let empty : drop at (take at bytes) ≡ [] = drop_of_length-le (take at bytes) few in
        ap (λ (j : Judgement). j.catalogue)
        ((given_exactly (take at bytes) cut_record at c).1 (cut (passed_in_part bytes at p (omega arith)) (inr (ap found_in empty))))

    ends : {at : ℕ} {c : Catalogue} (n : ℕ) → Passed bytes at c → found_in (drop at bytes) ≡ Whole End n → (Wrong c End → ⊥) → at + n ≤ length bytes →
        (judgement_of (take (at + n) bytes)).catalogue ≡ c
    ends {at} {c} n p e right within =
        ap (λ (j : Judgement). j.catalogue)
        ((given_exactly (take (at + n) bytes) 0 (at + n) c).1
        (sound (passed_in_part bytes (at + n) p (omega arith)) n (same_in_part bytes (at + n) at End n e (omega arith)) right (omega (arith, length-take (at + n) bytes))))

    by : {number at : ℕ} {c : Catalogue} → Given bytes number at c → (judgement_of (take at bytes)).catalogue ≡ c
    by (unknown p e) = stops p
    by (cut p e) = stops p
    by (wrong p r n e w) = stops p
    by (behind_end p n e right more) = ends n p e right (omega arith)
    by (sound p n e right all) = ends n p e right (omega arith)

pub before_fault : (bytes : List ℕ) → (judgement_of (take (judgement_of bytes).at bytes)).catalogue ≡ (judgement_of bytes).catalogue
before_fault bytes = let j : Judgement = judgement_of bytes in given_before bytes ((given_exactly bytes j.refusal j.at j.catalogue).0 refl)

-- so files that are the same up to their faults, whatever follows, are mended to the same
module _ (bytes other : List ℕ) (place : (judgement_of bytes).at ≡ (judgement_of other).at)
    (same : take (judgement_of bytes).at bytes ≡ take (judgement_of bytes).at other) where
  catalogue_same : (judgement_of bytes).catalogue ≡ (judgement_of other).catalogue
  catalogue_same =
      sym (before_fault bytes) ∙ ap (λ (l : List ℕ). (judgement_of l).catalogue) (same ∙ ap (λ (k : ℕ). take k other) place) ∙ before_fault other

  pub nothing_behind : kept_bytes (judgement_of bytes) ≡ kept_bytes (judgement_of other)
  unfolding kept_bytes
  nothing_behind = ap (λ (c : Catalogue). catalogue_bytes (kept_of c)) catalogue_same

-- a file that was cut is mended to a beginning of what it was
pub cut_begins : (bytes : List ℕ) (k : ℕ) → 0 < length (judgement_of (take k bytes)).catalogue.identity →
    BeginningOf (judgement_of bytes).catalogue (kept_of (judgement_of (take k bytes)).catalogue)
unfolding kept_of
cut_begins bytes k begun =
    let c : Catalogue = (judgement_of (take k bytes)).catalogue in
    let g = passed_grows bytes (passed_in_all bytes k (stood (take k bytes)).passed) in
    record {
      identity_same = g.identity_stays begun;
      entries_begin = begins_further (without_bare c.entries) c.entries _ (begins_without c.entries) g.entries_begin;
    }
