-- The ways out of reading a message, over plain variables.
use mathlib.Core.Path.{◌≡◌, refl, ap, sym, ◌∙◌}
use mathlib.Core.Bool.{Bool, true, false, cond}
use mathlib.Core.List.{List, [], ◌∷◌}
use Prim.Native.Nat.{ℕ, ◌-◌, ◌/◌, ◌%◌, ◌<◌, ◌≤◌}
use native.Mathlib.Omega.{arith}
use lib.Dec.{eqb}
use lib.ListN.{length, get_or, drop, length-drop}
use borrow.Author.Tests.{eq-eqb, ne_eqb, le-leb, lt-leb}
use Rattle.laws.specs.Lines.{first_line}
use Rattle.laws.specs.Padded.{padded}
use Rattle.laws.proofs.Padded.{padded_at}
use Rattle.messages.specs.Layout.{bits, objects_of, structured, major, edition_said, head_of}
use Rattle.messages.specs.Table.{shape}
use Rattle.messages.specs.Reading.{wrong_length, header_lines, header_in, objects_in, read_refusal, message_in, edition_in, accepted, refused, outcome, read_outcome, shown}
use Rattle.messages.specs.Reading.{as_shown}
use Rattle.messages.specs.Refusals.{number_of}
use Rattle.messages.specs.declared.Head.{Head}
use Rattle.messages.specs.declared.edition.Edition.{Edition}
use Rattle.messages.specs.declared.refusal.Refusal.{Refusal}
use Rattle.messages.specs.declared.refusal.Refusal.TheVariants.{WrongLength}
use Rattle.messages.proofs.Numbers.{numbered}
use Rattle.std.specs.Prelude.{Ok, Err}
use Rattle.messages.proofs.Objects.{length_objects}

pub head_of_lem : (w s c k p : ℕ) → s ≡ bits 31 16 w → c ≡ bits 4 0 w → k ≡ bits 7 6 w → p ≡ bits 10 8 w →
    ◌≡◌ {A = Head} (record { svid = s; command = c; kind = k; position = p }) (head_of w)
unfolding head_of
head_of_lem w s c k p es ec ek ep = λ i. record { svid = es i; command = ec i; kind = ek i; position = ep i }

module _ (header count : ℕ) where
  pub lines_2 : structured header ≡ 0 → 2 ≡ first_line 2 (header_lines header count)
  lines_2 e = simp (eq-eqb _ _ e)

  pub lines_3 : (structured header ≡ 0 → ⊥) → 2 ≤ major header → 3 ≡ first_line 2 (header_lines header count)
  lines_3 s e = simp (ne_eqb _ _ s, le-leb _ _ e)

  pub lines_5 :
      (structured header ≡ 0 → ⊥) → major header < 2 → false ≡ shape (head_of header) count →
      5 ≡ first_line 2 (header_lines header count)
  lines_5 s m e = simp (ne_eqb _ _ s, lt-leb _ _ m, ← e)

  pub lines_none :
      (structured header ≡ 0 → ⊥) → major header < 2 → true ≡ shape (head_of header) count →
      0 ≡ first_line 2 (header_lines header count)
  lines_none s m e = simp (ne_eqb _ _ s, lt-leb _ _ m, ← e)

pub objects_in_lem : (b : List ℕ) (p q r s t u : ℕ) →
    p ≡ get_or (objects_of b) 1 0 → q ≡ get_or (objects_of b) 2 0 → r ≡ get_or (objects_of b) 3 0 →
    s ≡ get_or (objects_of b) 4 0 → t ≡ get_or (objects_of b) 5 0 → u ≡ get_or (objects_of b) 6 0 →
    p ∷ q ∷ r ∷ s ∷ t ∷ u ∷ [] ≡ objects_in b
objects_in_lem b p q r s t u ep eq er es et eu = rw (ep, eq, er, es, et, eu) (go (objects_of b))
  where
    go : (l : List ℕ) →
        get_or l 1 0 ∷ get_or l 2 0 ∷ get_or l 3 0 ∷ get_or l 4 0 ∷ get_or l 5 0 ∷ get_or l 6 0 ∷ [] ≡ padded (drop 1 l)
    go [] = refl
    go (x ∷ l) = padded_at l

pub right_length : (n : ℕ) → 4 ≤ n → n ≤ 28 → n % 4 ≡ 0 → wrong_length n ≡ false
right_length n l m e = simp (le-leb _ _ l, le-leb _ _ m, eq-eqb _ _ e)

pub short : (n : ℕ) → n < 4 → wrong_length n ≡ true
short n h = simp (lt-leb _ _ h)

pub long : (n : ℕ) → 4 ≤ n → 28 < n → wrong_length n ≡ true
long n l h = simp (le-leb _ _ l, lt-leb _ _ h)

pub ragged : (n : ℕ) → 4 ≤ n → n ≤ 28 → (n % 4 ≡ 0 → ⊥) → wrong_length n ≡ true
ragged n l m h = simp (le-leb _ _ l, le-leb _ _ m, ne_eqb _ _ h)

pub read_refused : (b : List ℕ) (number : ℕ) → (number ≡ 0 → ⊥) → read_refusal b ≡ number → read_outcome b ≡ refused number
unfolding read_outcome outcome
read_refused b number h e = rw (e, ne_eqb _ _ h)

pub read_accepted : (b : List ℕ) → read_refusal b ≡ 0 → read_outcome b ≡ accepted (edition_in b) (message_in b)
unfolding read_outcome outcome
read_accepted b e = rw e

pub outcome_refused : (b : List ℕ) (number : ℕ) → read_outcome b ≡ refused number → read_refusal b ≡ number
unfolding read_outcome outcome
outcome_refused b number = go (eqb (read_refusal b) 0)
  where
    go : (t : Bool) → cond t (accepted (edition_in b) (message_in b)) (refused (read_refusal b)) ≡ refused number → read_refusal b ≡ number
    go true e = absurd (let o : ◌≡◌ {A = ℕ} 0 1 = cc in omega arith)
    go false e = cc

pub refusal_1 : (b : List ℕ) → wrong_length (length b) ≡ true → read_refusal b ≡ 1
unfolding read_refusal
refusal_1 b e = simp e

pub refusal_header : (b : List ℕ) → wrong_length (length b) ≡ false → read_refusal b ≡ first_line 2 (header_lines (header_in b) (length b / 4))
unfolding read_refusal
refusal_header b e = simp e

-- what the code returns on each way out
module _ (b : List ℕ) where
  shown_as : (refusal : Refusal) → read_refusal b ≡ number_of refusal → as_shown (Err refusal) ≡ shown (read_outcome b)
  unfolding shown
  shown_as refusal e = rw (read_refused b (number_of refusal) (numbered refusal) e)

  pub shown_length : wrong_length (length b) ≡ true → as_shown (Err WrongLength) ≡ shown (read_outcome b)
  shown_length e = shown_as WrongLength (refusal_1 b e)

  module _ (right : wrong_length (length b) ≡ false) (header : ℕ) (is : header ≡ header_in b) where
    line_of : read_refusal b ≡ first_line 2 (header_lines header (length b / 4))
    line_of = refusal_header b right ∙ ap (λ (w : ℕ). first_line 2 (header_lines w (length b / 4))) (sym is)

    pub shown_refusal : (refusal : Refusal) → number_of refusal ≡ first_line 2 (header_lines header (length b / 4)) →
        as_shown (Err refusal) ≡ shown (read_outcome b)
    shown_refusal refusal e = shown_as refusal (line_of ∙ sym e)

    pub shown_message : 0 ≡ first_line 2 (header_lines header (length b / 4)) → (e : Edition) (h : Head) (o : List ℕ) →
        e ≡ edition_said header → h ≡ head_of header → o ≡ objects_in b →
        as_shown (Ok (record { edition = e; head = h; count = length b / 4 - 1; objects = o })) ≡ shown (read_outcome b)
    unfolding shown message_in edition_in
    shown_message none e h o ee eh eo =
        let count : length (drop 1 (objects_of b)) ≡ length b / 4 - 1 = length-drop 1 (objects_of b) ∙ ap (λ (n : ℕ). n - 1) (length_objects b) in
        let good : read_outcome b ≡ accepted (edition_in b) (message_in b) = read_accepted b (line_of ∙ sym none) in
        rw (good, count, ee, eh, is, eo)
