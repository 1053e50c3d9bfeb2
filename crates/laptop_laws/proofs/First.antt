-- The first line that holds: one number, found by tests that tell whether a line holds.
use mathlib.Core.Logic.{inl, inr}
use mathlib.Core.Path.{◌≡◌, refl, sym, ◌∙◌}
use mathlib.Core.Bool.{Bool, true, false, cond, not, ◌&&◌, false≢true}
use mathlib.Core.List.{List, [], ◌∷◌, ◌++◌}
use Prim.Native.Nat.{ℕ, ◌<◌, ◌≤◌}
use native.Mathlib.Omega.{arith}
use lib.Dec.{leb, ltb, eqb}
use borrow.Author.Tests.{eq-eqb, ne_eqb, eqb-true, eqb-false, leb-true, leb-false, ltb-true, ltb-false}
use Rattle.laptop_laws.specs.Given.{Line, ◌when◌, First}

-- there is one number
pub first_only : (lines : List Line) (a b : ℕ) → First lines a → First lines b → a ≡ b
first_only [] a b ea eb = ea ∙ sym eb
first_only (line ∷ lines) a b (inl x) (inl y) = x.1 ∙ sym y.1
first_only (line ∷ lines) a b (inl x) (inr y) = absurd (y.0 x.0)
first_only (line ∷ lines) a b (inr x) (inl y) = absurd (x.0 y.0)
first_only (line ∷ lines) a b (inr x) (inr y) = first_only lines a b x.1 y.1

-- a test tells whether something holds
abbrev pub Tells : Bool → Type 0 → Type 0
Tells true holds = holds
Tells false holds = holds → ⊥

pub tells : (t : Bool) (holds : Type 0) → (t ≡ true → holds) → (t ≡ false → holds → ⊥) → Tells t holds
tells true holds some none = some refl
tells false holds some none = none refl

pub tells_true : (t : Bool) (holds : Type 0) → Tells t holds → t ≡ true → holds
tells_true true holds h e = h
tells_true false holds h e = absurd (false≢true e)

pub tells_false : (t : Bool) (holds : Type 0) → Tells t holds → t ≡ false → holds → ⊥
tells_false true holds h e = absurd (false≢true (sym e))
tells_false false holds h e = h

pub tells_and : (a b : Bool) (left right : Type 0) → Tells a left → Tells b right → Tells (a && b) (left × right)
tells_and true true left right ha hb = (ha, hb)
tells_and true false left right ha hb = λ x. hb x.1
tells_and false b left right ha hb = λ x. ha x.0

pub tells_as : (t : Bool) (holds other : Type 0) → (holds → other) → (other → holds) → Tells t holds → Tells t other
tells_as true holds other to from h = to h
tells_as false holds other to from h = λ x. h (from x)

pub tells_not : (t : Bool) → Tells (not t) (t ≡ false)
tells_not true = λ e. false≢true (sym e)
tells_not false = refl

pub tells_eqb : (a b : ℕ) → Tells (eqb a b) (a ≡ b)
tells_eqb a b = tells (eqb a b) (a ≡ b) (eqb-true a b) (eqb-false a b)

pub tells_ltb : (a b : ℕ) → Tells (ltb a b) (a < b)
tells_ltb a b = tells (ltb a b) (a < b) (ltb-true a b) (λ e h. omega (arith, ltb-false a b e))

pub tells_leb : (a b : ℕ) → Tells (leb a b) (a ≤ b)
tells_leb a b = tells (leb a b) (a ≤ b) (leb-true a b) (λ e h. omega (arith, leb-false a b e))

-- a line whose test stands before the others
pub first_test : (t : Bool) (k : ℕ) (holds : Type 0) (lines : List Line) (n : ℕ) → Tells t holds → (t ≡ false → First lines n) →
    First (k when holds ∷ lines) (cond t k n)
first_test true k holds lines n h rest = inl (h, refl)
first_test false k holds lines n h rest = inr (h, rest refl)

-- a number that no line has is that of none
abbrev pub Without : ℕ → List Line → Type 0
Without number [] = Unit
Without number (line ∷ list) = (line.number ≡ number → ⊥) × Without number list

pub none_first : (number : ℕ) (list : List Line) → (number ≡ 0 → ⊥) → Without number list → First list number → ⊥
none_first number [] some none e = some e
none_first number (line ∷ list) some none (inl x) = none.0 (sym x.1)
none_first number (line ∷ list) some none (inr x) = none_first number list some none.1 x.1

-- lines behind others, none of which has the number 0
abbrev pub Numbered : List Line → Type 0
Numbered lines = Without 0 lines

pub first_behind : (before behind : List Line) (n k : ℕ) → Numbered before → First before n → (n ≡ 0 → First behind k) →
    First (before ++ behind) (cond (eqb n 0) k n)
first_behind [] behind n k numbered f rest = rw (eq-eqb n 0 f) (rest f)
first_behind (line ∷ lines) behind n k numbered (inl x) rest =
    inl (x.0, rw (ne_eqb n 0 (λ z. numbered.0 (sym x.1 ∙ z))) x.1)
first_behind (line ∷ lines) behind n k numbered (inr x) rest =
    inr (x.0, first_behind lines behind n k numbered.1 x.1 rest)
