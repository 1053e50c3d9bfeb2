-- What stands first in a beginning of bytes: the same record where it reaches behind that record's body, else a cut one.
use mathlib.Core.Logic.{◌⊎◌, inl, inr}
use mathlib.Core.Path.{◌≡◌, refl, ap, sym, ◌∙◌}
use mathlib.Core.Bool.{Bool, true, false, cond}
use mathlib.Core.List.{List, [], ◌∷◌}
use Prim.Native.Nat.{ℕ, zero, suc, ◌+◌, ◌*◌, ◌-◌, ◌<◌, ◌≤◌}
use native.Mathlib.Nat.{zero-sub, suc-sub-suc}
use native.Mathlib.Omega.{arith}
use lib.Dec.{leb}
use lib.ListN.{length, get_or, take, drop, length-take}
use lib.Seq.{take-nil, get_or-take}
use borrow.Author.Tests.{leb-false}
use Rattle.laws.proofs.Parts.{first_part}
use Rattle.messages.specs.Layout.{object_of, objects_of}
use Rattle.laptop.specs.Catalogue.{Catalogue}
use Rattle.records.specs.Records.{is_identity, is_known, body_length, svid_in, mode_in, record_of, found_in}
use Rattle.records.specs.Records.{Found}
use Rattle.records.specs.Records.{Whole, Unknown, Cut, Nothing}
use Rattle.records.specs.declared.Record.{Record}
use Rattle.records.specs.declared.Record.TheVariants.{Svid, Mode}
use Rattle.records.proofs.Bodies.{of_identity}
use Rattle.records.proofs.Finding.{in_unknown, in_cut, in_whole}
use Rattle.records.proofs.Laws.{whole, Told, told}
use Rattle.records.proofs.Laws.Told.{identity, svid, mode, end}
use Rattle.judging.specs.Walking.{added}
use Rattle.catalogue_laws.proofs.Steps.{Short}

-- so many objects lie in their bytes
objects_in_part : (k m : ℕ) (bytes : List ℕ) → k * 4 ≤ m → take k (objects_of (take m bytes)) ≡ take k (objects_of bytes)
unfolding objects_of
objects_in_part zero m bytes room = refl
objects_in_part (suc k) zero bytes room = absurd (omega arith)
objects_in_part (suc k) (suc zero) bytes room = absurd (omega arith)
objects_in_part (suc k) (suc (suc zero)) bytes room = absurd (omega arith)
objects_in_part (suc k) (suc (suc (suc zero))) bytes room = absurd (omega arith)
objects_in_part (suc k) (suc (suc (suc (suc m)))) [] room = refl
objects_in_part (suc k) (suc (suc (suc (suc m)))) (p ∷ []) room = refl
objects_in_part (suc k) (suc (suc (suc (suc m)))) (p ∷ q ∷ []) room = refl
objects_in_part (suc k) (suc (suc (suc (suc m)))) (p ∷ q ∷ r ∷ []) room = refl
objects_in_part (suc k) (suc (suc (suc (suc m)))) (p ∷ q ∷ r ∷ s ∷ bytes) room =
    ap (λ (l : List ℕ). object_of p q r s ∷ l) (objects_in_part k m bytes (omega arith))

-- the body
svid_in_part : (m : ℕ) (body : List ℕ) → 2 ≤ m → svid_in (take m body) ≡ svid_in body
unfolding svid_in
svid_in_part m body room = rw (get_or-take m body 0 0 (omega arith), get_or-take m body 1 0 (omega arith))

mode_in_part : (m : ℕ) (body : List ℕ) → 4 ≤ m → mode_in (take m body) ≡ mode_in body
unfolding mode_in
mode_in_part m body room =
    sym (get_or-take 1 (objects_of (take m body)) 0 0 (omega arith)) ∙ ap (λ (l : List ℕ). get_or l 0 0) (objects_in_part 1 m body room) ∙
    get_or-take 1 (objects_of body) 0 0 (omega arith)

record_in_part : (kind m : ℕ) (body : List ℕ) → Told kind body → body_length kind ≤ m → record_of kind (take m body) ≡ record_of kind body
unfolding is_identity record_of
record_in_part kind m body (identity i e l) room = of_identity kind (take m body) i ∙ sym e
record_in_part kind m body (svid k e l) room = rw k (ap Svid (svid_in_part m body (omega arith)))
record_in_part kind m body (mode k e l) room = rw k (ap Mode (mode_in_part m body (omega arith)))
record_in_part kind m body (end k e l) room = rw k

added_in_part : (c : Catalogue) (kind m : ℕ) (body : List ℕ) → Told kind body → body_length kind ≤ m →
    added c (record_of kind body) (kind ∷ take m body) ≡ added c (record_of kind body) (kind ∷ body)
unfolding added
added_in_part c kind m body (identity i e l) room =
    rw e (ap (λ (l : List ℕ). record { identity = l; entries = c.entries }) (objects_in_part kind m body (omega arith)))
added_in_part c kind m body (svid k e l) room = rw e
added_in_part c kind m body (mode k e l) room = rw e
added_in_part c kind m body (end k e l) room = rw e

-- a record that is known and not whole
short_part : (kind m : ℕ) (body : List ℕ) → is_known kind ≡ true → length (take m (kind ∷ body)) ≤ body_length kind → Short (take m (kind ∷ body))
unfolding found_in
short_part kind zero body known few = inr refl
short_part kind (suc m) body known few = inl (in_cut (kind ∷ take m body) (λ none. omega arith) known (omega arith))

-- what is not whole
module _ (kind : ℕ) (body : List ℕ) where
  abbrev found_by : Bool → Bool → Found
  found_by known there = cond known (cond there (Whole (record_of kind body) (1 + body_length kind)) Cut) Unknown

  unknown_kind : found_in (kind ∷ body) ≡ Unknown → is_known kind ≡ false
  unfolding found_in
  unknown_kind e = go (is_known kind) (leb (body_length kind) (length body)) refl e
    where
      go : (known there : Bool) → is_known kind ≡ known → found_by known there ≡ Unknown → is_known kind ≡ false
      go true true k h = absurd (let z : ◌≡◌ {A = ℕ} 0 1 = cc in omega arith)
      go true false k h = absurd (let z : ◌≡◌ {A = ℕ} 0 1 = cc in omega arith)
      go false there k h = k

  short_kind : Short (kind ∷ body) → (is_known kind ≡ true) × (length body < body_length kind)
  unfolding found_in
  short_kind e = go (is_known kind) (leb (body_length kind) (length body)) refl refl e
    where
      go : (known there : Bool) → is_known kind ≡ known → leb (body_length kind) (length body) ≡ there →
          (found_by known there ≡ Cut) ⊎ (found_by known there ≡ Nothing) → (is_known kind ≡ true) × (length body < body_length kind)
      go true true k l (inl h) = absurd (let z : ◌≡◌ {A = ℕ} 0 1 = cc in omega arith)
      go true true k l (inr h) = absurd (let z : ◌≡◌ {A = ℕ} 0 1 = cc in omega arith)
      go true false k l h = (k, leb-false (body_length kind) (length body) l)
      go false there k l (inl h) = absurd (let z : ◌≡◌ {A = ℕ} 0 1 = cc in omega arith)
      go false there k l (inr h) = absurd (let z : ◌≡◌ {A = ℕ} 0 1 = cc in omega arith)

-- a beginning,
pub part_unknown : (m : ℕ) (bytes : List ℕ) → found_in bytes ≡ Unknown → 0 < m → found_in (take m bytes) ≡ Unknown
unfolding found_in
part_unknown zero bytes e some = absurd (omega arith)
part_unknown (suc m) [] e some = e
part_unknown (suc m) (kind ∷ body) e some = in_unknown (kind ∷ take m body) (λ none. omega arith) (unknown_kind kind body e)

pub part_short : (m : ℕ) (bytes : List ℕ) → Short bytes → Short (take m bytes)
unfolding found_in
part_short zero bytes e = inr refl
part_short (suc m) [] e = inr refl
part_short (suc m) (kind ∷ body) e =
    let k = short_kind kind body e in
    short_part kind (suc m) body k.0 (omega (arith, length-take m body, k.1))

-- and where a whole record stands first
pub record InPart (m : ℕ) (bytes : List ℕ) (r : Record) (n : ℕ) : Type 0 where
  pub cut : m < n → Short (take m bytes)
  pub same : n ≤ m → found_in (take m bytes) ≡ Whole r n
  pub added_same : n ≤ m → (c : Catalogue) → added c r (take m bytes) ≡ added c r bytes

part_known : (m kind : ℕ) (body : List ℕ) → is_known kind ≡ true → body_length kind ≤ length body →
    InPart m (kind ∷ body) (record_of kind body) (1 + body_length kind)
part_known zero kind body known there = record {
  cut = λ less. short_part kind zero body known (omega arith);
  same = λ room. absurd (omega arith);
  added_same = λ room c. absurd (omega arith);
}
part_known (suc m) kind body known there = record {
  cut = λ less. short_part kind (suc m) body known (omega (arith, length-take m body));
  same = λ room.
      in_whole (kind ∷ take m body) (λ none. omega arith) known (omega (arith, length-take m body)) ∙
      ap (λ (r : Record). Whole r (1 + body_length kind)) (record_in_part kind m body (told kind body known) (omega arith));
  added_same = λ room c. added_in_part c kind m body (told kind body known) (omega arith);
}

part_as : (m : ℕ) (bytes bytes' : List ℕ) → bytes ≡ bytes' → (r r' : Record) → r ≡ r' → (n n' : ℕ) → n ≡ n' → InPart m bytes' r' n' → InPart m bytes r n
part_as m bytes bytes' e r r' h n n' k p = rw (e, h, k) p

pub part_whole : (m : ℕ) (bytes : List ℕ) (r : Record) (n : ℕ) → found_in bytes ≡ Whole r n → InPart m bytes r n
part_whole m bytes r n found =
    let w = whole bytes r n found in
    part_as m bytes (w.kind ∷ w.rest) w.bytes_are r (record_of w.kind w.rest) w.record_is n (1 + body_length w.kind) w.length_is
    (part_known m w.kind w.rest w.known w.there)

pub part_drop : (n m : ℕ) (bytes : List ℕ) → drop n (take m bytes) ≡ take (m - n) (drop n bytes)
part_drop zero m bytes = sym (first_part m bytes)
part_drop (suc n) zero bytes = ap (λ (k : ℕ). take k (drop (suc n) bytes)) (sym (zero-sub (suc n)))
part_drop (suc n) (suc m) [] = sym (take-nil (suc m - suc n))
part_drop (suc n) (suc m) (byte ∷ bytes) = part_drop n m bytes ∙ ap (λ (k : ℕ). take k (drop n bytes)) (sym (suc-sub-suc m n))
