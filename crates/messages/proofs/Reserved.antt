-- Bit 5 means nothing when it is read, and refusal 4 is never given (02, R-2).
use mathlib.Core.Path.{◌≡◌, refl, ap, sym, ◌∙◌}
use mathlib.Core.Bool.{Bool, true, false, cond, not, false≢true}
use mathlib.Core.List.{List, [], ◌∷◌}
use Prim.Native.Nat.{ℕ, ◌/◌, ◌≤◌}
use native.Mathlib.Omega.{arith}
use lib.Dec.{ltb}
use lib.ListN.{length, drop, length-set}
use Rattle.laws.specs.Lines.{first_at}
use Rattle.messages.specs.Layout.{object_of, objects_of, structured, major, reserved, edition_said, head_of, Message, message_length, without_reserved, with_reserved_clear, with_reserved_set}
use Rattle.messages.specs.Reading.{wrong_length, unstructured, wrong_major, wrong_shape, header_in, read_lines, read_refusal, message_in, edition_in, refused, outcome, read_outcome}
use Rattle.messages.specs.Writing.{well_shaped, write_refusal}
use Rattle.messages.proofs.Header.{clear_structured, clear_major, clear_edition, clear_head}
use Rattle.messages.proofs.Laws.{read_refused_by}

-- what a header says whatever its bit 5, the header among bytes says
module _ {A : Type 0} (says : ℕ → A) (same : (p q r s : ℕ) → says (object_of (without_reserved p) q r s) ≡ says (object_of p q r s)) where
  same_said : (b : List ℕ) → says (header_in (with_reserved_clear b)) ≡ says (header_in b)
  unfolding with_reserved_clear objects_of
  same_said [] = refl
  same_said (p ∷ []) = refl
  same_said (p ∷ q ∷ []) = refl
  same_said (p ∷ q ∷ r ∷ []) = refl
  same_said (p ∷ q ∷ r ∷ s ∷ rest) = same p q r s

same_objects : (b : List ℕ) → drop 1 (objects_of (with_reserved_clear b)) ≡ drop 1 (objects_of b)
unfolding with_reserved_clear objects_of
same_objects [] = refl
same_objects (p ∷ []) = refl
same_objects (p ∷ q ∷ []) = refl
same_objects (p ∷ q ∷ r ∷ []) = refl
same_objects (p ∷ q ∷ r ∷ s ∷ rest) = refl

same_message_lem : (b : List ℕ) → message_in (with_reserved_clear b) ≡ message_in b
unfolding message_in
same_message_lem b = λ i. record { head = same_said head_of clear_head b i; objects = same_objects b i }

same_edition : (b : List ℕ) → edition_in (with_reserved_clear b) ≡ edition_in b
unfolding edition_in
same_edition b = same_said edition_said clear_edition b

same_length : (b : List ℕ) → length (with_reserved_clear b) ≡ length b
unfolding with_reserved_clear
same_length b = length-set b 0 _

same_refusal : (b : List ℕ) → read_refusal (with_reserved_clear b) ≡ read_refusal b
unfolding read_refusal
same_refusal b =
    rw (same_length b, same_said structured clear_structured b, same_said major clear_major b, same_said head_of clear_head b)

-- a message is read as the one with bit 5 clear: the same number, or the same message
pub reserved_ignored : (b : List ℕ) → read_outcome (with_reserved_clear b) ≡ read_outcome b
unfolding read_outcome
reserved_ignored b = λ i. outcome (same_refusal b i) (same_edition b i) (same_message_lem b i)

-- what was cleared or set before is cleared to the same
pub clear_again : (b : List ℕ) → with_reserved_clear (with_reserved_clear b) ≡ with_reserved_clear b
unfolding with_reserved_clear
clear_again [] = refl
clear_again (p ∷ rest) = ap (λ (byte : ℕ). byte ∷ rest) (omega arith)

pub clear_set : (b : List ℕ) → with_reserved_clear (with_reserved_set b) ≡ with_reserved_clear b
unfolding with_reserved_clear with_reserved_set
clear_set [] = refl
clear_set (p ∷ rest) = ap (λ (byte : ℕ). byte ∷ rest) (omega arith)

-- and bit 5 is what they differ in
pub clear_and_set : (b : List ℕ) → 4 ≤ length b → (reserved (header_in (with_reserved_clear b)) ≡ 0) × (reserved (header_in (with_reserved_set b)) ≡ 1)
unfolding with_reserved_clear with_reserved_set objects_of
clear_and_set [] l = absurd (omega arith)
clear_and_set (p ∷ []) l = absurd (omega arith)
clear_and_set (p ∷ q ∷ []) l = absurd (omega arith)
clear_and_set (p ∷ q ∷ r ∷ []) l = absurd (omega arith)
clear_and_set (p ∷ q ∷ r ∷ s ∷ rest) l = (omega arith, omega arith)

-- so a message with bit 5 set gets what it would get with bit 5 clear
pub set_as_clear : (b : List ℕ) → read_outcome (with_reserved_set b) ≡ read_outcome (with_reserved_clear b)
set_as_clear b = sym (reserved_ignored (with_reserved_set b)) ∙ ap read_outcome (clear_set b)

-- line 4 is never the first, and so no bytes are refused 4
pub never_line_4 : (b : List ℕ) → first_at (read_lines b) 3 ≡ true → ⊥
never_line_4 b e = false≢true (sym (go (wrong_length (length b)) (unstructured (header_in b)) (wrong_major (header_in b))) ∙ e)
  where
    go : (l u m : Bool) → first_at (l ∷ u ∷ m ∷ false ∷ wrong_shape (header_in b) (length b / 4) ∷ []) 3 ≡ false
    go true u m = refl
    go false true m = refl
    go false false true = refl
    go false false false = refl

pub read_never_4 : (b : List ℕ) → read_outcome b ≡ refused 4 → ⊥
read_never_4 b e = never_line_4 b ((read_refused_by b 3).0 e)

-- nor is writing
pub write_never_4 : (m : Message) (room : ℕ) → write_refusal m room ≡ 4 → ⊥
unfolding write_refusal
write_never_4 m room = go (well_shaped m) (ltb room (message_length m))
  where
    go : (s t : Bool) → ◌≡◌ {A = ℕ} (cond (not s) 5 (cond t 11 0)) 4 → ⊥
    go true true e = omega arith
    go true false e = omega arith
    go false t e = omega arith
