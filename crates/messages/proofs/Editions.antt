-- The choice between two editions, its rule over all nine pairs, and editions by their numbers and version bits (02, R-5).
use mathlib.Core.Logic.{◌⊎◌, inl, inr}
use Rattle.std.specs.Prelude.{Some, None}
use mathlib.Core.Path.{◌≡◌, refl, ap, sym, ◌∙◌}
use mathlib.Core.Bool.{Bool, true, false, cond}
use Prim.Native.Nat.{ℕ, ◌<◌, ◌≤◌}
use native.Mathlib.Omega.{arith}
use lib.Dec.{eqb}
use borrow.Author.Tests.{eq-eqb, ne_eqb, eqb-true, le-leb, lt-leb}
use Rattle.messages.specs.Editions.{ours, major_of, minor_of, edition_of, edition_number, edition_named, lower}
use Rattle.messages.specs.declared.edition.Edition.{Edition}
use Rattle.messages.specs.declared.edition.Edition.TheVariants.{OneZero, TwoZero, TwoOne}

-- what the lower of two is: one of them, and above neither
pub record LowerOf (a b chosen : Edition) : Type 0 where
  pub one_of_them : (chosen ≡ a) ⊎ (chosen ≡ b)
  pub above_neither : (edition_number chosen ≤ edition_number a) × (edition_number chosen ≤ edition_number b)

pub lower_of : (a b : Edition) → LowerOf a b (lower a b)
unfolding lower
lower_of OneZero OneZero = record { one_of_them = inl refl; above_neither = (omega arith, omega arith) }
lower_of OneZero TwoZero = record { one_of_them = inl refl; above_neither = (omega arith, omega arith) }
lower_of OneZero TwoOne = record { one_of_them = inl refl; above_neither = (omega arith, omega arith) }
lower_of TwoZero OneZero = record { one_of_them = inr refl; above_neither = (omega arith, omega arith) }
lower_of TwoZero TwoZero = record { one_of_them = inl refl; above_neither = (omega arith, omega arith) }
lower_of TwoZero TwoOne = record { one_of_them = inl refl; above_neither = (omega arith, omega arith) }
lower_of TwoOne OneZero = record { one_of_them = inr refl; above_neither = (omega arith, omega arith) }
lower_of TwoOne TwoZero = record { one_of_them = inr refl; above_neither = (omega arith, omega arith) }
lower_of TwoOne TwoOne = record { one_of_them = inl refl; above_neither = (omega arith, omega arith) }

-- no two editions have the same number
pub same_edition : (a b : Edition) → edition_number a ≡ edition_number b → a ≡ b
same_edition OneZero OneZero e = refl
same_edition OneZero TwoZero e = absurd (omega arith)
same_edition OneZero TwoOne e = absurd (omega arith)
same_edition TwoZero OneZero e = absurd (omega arith)
same_edition TwoZero TwoZero e = refl
same_edition TwoZero TwoOne e = absurd (omega arith)
same_edition TwoOne OneZero e = absurd (omega arith)
same_edition TwoOne TwoZero e = absurd (omega arith)
same_edition TwoOne TwoOne e = refl

-- so there is one lower of two
pub lower_only : (a b c c' : Edition) → LowerOf a b c → LowerOf a b c' → c ≡ c'
lower_only a b c c' l l' = same_edition c c' (go l.one_of_them l'.one_of_them)
  where
    go : (c ≡ a) ⊎ (c ≡ b) → (c' ≡ a) ⊎ (c' ≡ b) → edition_number c ≡ edition_number c'
    go (inl e) (inl f) = ap edition_number (e ∙ sym f)
    go (inl e) (inr f) = omega (arith, l.above_neither.1, l'.above_neither.0, ap edition_number e, ap edition_number f)
    go (inr e) (inl f) = omega (arith, l.above_neither.0, l'.above_neither.1, ap edition_number e, ap edition_number f)
    go (inr e) (inr f) = ap edition_number (e ∙ sym f)

-- ours is the highest: the lower of an edition and ours is that edition
pub lower_ours : (a : Edition) → lower a ours ≡ a
unfolding lower
lower_ours OneZero = refl
lower_ours TwoZero = refl
lower_ours TwoOne = refl

-- the version bits of an edition are read as it
pub edition_of_lem : (e : Edition) → edition_of (major_of e) (minor_of e) ≡ e
unfolding edition_of
edition_of_lem OneZero = refl
edition_of_lem TwoZero = refl
edition_of_lem TwoOne = refl

pub version_below : (e : Edition) → (major_of e < 2) × (minor_of e < 2)
version_below OneZero = (omega arith, omega arith)
version_below TwoZero = (omega arith, omega arith)
version_below TwoOne = (omega arith, omega arith)

-- the ways out of reading the version bits
pub major_zero : (major minor : ℕ) → major ≡ 0 → OneZero ≡ edition_of major minor
unfolding edition_of
major_zero major minor e = simp (eq-eqb _ _ e)

pub minor_zero : (major minor : ℕ) → (major ≡ 0 → ⊥) → minor ≡ 0 → TwoZero ≡ edition_of major minor
unfolding edition_of
minor_zero major minor n e = simp (ne_eqb _ _ n, eq-eqb _ _ e)

pub minor_above : (major minor : ℕ) → (major ≡ 0 → ⊥) → (minor ≡ 0 → ⊥) → TwoOne ≡ edition_of major minor
unfolding edition_of
minor_above major minor n e = simp (ne_eqb _ _ n, ne_eqb _ _ e)

-- the ways out of the choice, by the numbers of both
module _ (a b : Edition) {x y : ℕ} (ex : x ≡ edition_number a) (ey : y ≡ edition_number b) where
  pub lower_first : x ≤ y → a ≡ lower a b
  unfolding lower
  lower_first h = simp (le-leb (edition_number a) (edition_number b) (omega (arith, ex, ey, h)))

  pub lower_second : y < x → b ≡ lower a b
  unfolding lower
  lower_second h = simp (lt-leb (edition_number a) (edition_number b) (omega (arith, ex, ey, h)))

-- a number that is no edition's
pub named_none : (n : ℕ) → (n ≡ 10 → ⊥) → (n ≡ 20 → ⊥) → (n ≡ 21 → ⊥) → None ≡ edition_named n
unfolding edition_named
named_none n a b c = simp (ne_eqb _ _ a, ne_eqb _ _ b, ne_eqb _ _ c)

-- a number names an edition exactly when it is the edition's
pub named_number : (e : Edition) → edition_named (edition_number e) ≡ Some e
unfolding edition_named
named_number OneZero = refl
named_number TwoZero = refl
named_number TwoOne = refl

pub number_named : (n : ℕ) (e : Edition) → edition_named n ≡ Some e → n ≡ edition_number e
unfolding edition_named
number_named n e = go (eqb n 10) (eqb n 20) (eqb n 21) refl refl refl
  where
    go : (x y z : Bool) → eqb n 10 ≡ x → eqb n 20 ≡ y → eqb n 21 ≡ z →
        cond x (Some OneZero) (cond y (Some TwoZero) (cond z (Some TwoOne) None)) ≡ Some e → n ≡ edition_number e
    go true y z ex ey ez f = eqb-true n 10 ex ∙ ap edition_number (let same : OneZero ≡ e = cc in same)
    go false true z ex ey ez f = eqb-true n 20 ey ∙ ap edition_number (let same : TwoZero ≡ e = cc in same)
    go false false true ex ey ez f = eqb-true n 21 ez ∙ ap edition_number (let same : TwoOne ≡ e = cc in same)
    go false false false ex ey ez f = absurd (let o : ◌≡◌ {A = ℕ} 0 1 = cc in omega arith)
