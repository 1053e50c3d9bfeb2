-- The table: which row is whose, and the rule that each row keeps.
use mathlib.Core.Path.{◌≡◌, refl, ap, sym, ◌∙◌}
use mathlib.Core.Bool.{Bool, true, false, cond, and-true}
use Prim.Native.Nat.{ℕ, zero, suc, ◌/◌, ◌%◌, ◌^◌, ◌<◌, ◌≤◌}
use native.Mathlib.Nat.{div-one, div-div-eq-div-mul, mod-eq_of_lt}
use native.Mathlib.Omega.{arith}
use lib.Dec.{leb, ltb, eqb}
use lib.ListN.{get_or}
use borrow.Author.Tests.{ltb-true, lt-ltb, le-ltb, le-leb, lt-leb}
use Rattle.messages.specs.Table.{rows, no_row, row_of, counts_of, fits, shape}
use Rattle.messages.specs.declared.Head.{Head}
use Rattle.messages.specs.declared.table.Row.{Row}

-- command 0, and each that has no row of its own
pub row_shared : (command : ℕ) → (command < 7 → command ≡ 0) → get_or rows 0 no_row ≡ row_of command
unfolding row_of
row_shared command h = go (ltb command 7) refl
  where
    go : (t : Bool) → ltb command 7 ≡ t → get_or rows 0 no_row ≡ get_or rows (cond t command 0) no_row
    go true e = ap (λ (k : ℕ). get_or rows k no_row) (sym (h (ltb-true command 7 e)))
    go false e = refl

-- the digits of a type, by halves
abbrev byte_of : ℕ → ℕ → ℕ
byte_of half kind = cond (eqb (kind % 2) 0) (half % 256) (half / 256)

pub counts_low : (r : Row) (kind : ℕ) → kind < 2 → byte_of (r.counts % 65536) kind ≡ counts_of r kind
unfolding counts_of
counts_low r zero h = omega (arith, div-one r.counts)
counts_low r (suc zero) h = omega (arith, div-div-eq-div-mul r.counts 256 256)
counts_low r (suc (suc kind)) h = absurd (omega arith)

pub counts_high : (r : Row) (kind : ℕ) → r.counts < 2 ^ 32 → 2 ≤ kind → kind < 4 → byte_of (r.counts / 65536) kind ≡ counts_of r kind
unfolding counts_of
counts_high r zero f l h = absurd (omega arith)
counts_high r (suc zero) f l h = absurd (omega arith)
counts_high r (suc (suc zero)) f l h = refl
counts_high r (suc (suc (suc zero))) f l h =
    div-div-eq-div-mul r.counts 65536 256 ∙ sym (mod-eq_of_lt (omega arith))
counts_high r (suc (suc (suc (suc kind)))) f l h = absurd (omega arith)

-- the ways out of the shape rule, n objects being from l to m
module _ (r : Row) (h : Head) (n : ℕ) where
  pub fits_few : n < counts_of r h.kind / 16 → false ≡ fits r h n
  unfolding fits
  fits_few few = simp (lt-leb _ _ few)

  pub fits_many : counts_of r h.kind / 16 ≤ n → counts_of r h.kind % 16 < n → false ≡ fits r h n
  unfolding fits
  fits_many l many = simp (le-leb _ _ l, lt-leb _ _ many)

  module _ (l : counts_of r h.kind / 16 ≤ n) (m : n ≤ counts_of r h.kind % 16) where
    pub fits_before : h.position < r.first → false ≡ fits r h n
    unfolding fits
    fits_before before = simp (le-leb _ _ l, le-leb _ _ m, lt-leb _ _ before)

    pub fits_past : r.first ≤ h.position → r.last < h.position → false ≡ fits r h n
    unfolding fits
    fits_past f past = simp (le-leb _ _ l, le-leb _ _ m, le-leb _ _ f, lt-leb _ _ past)

    pub fits_below : r.first ≤ h.position → h.position ≤ r.last → h.svid < r.lowest → false ≡ fits r h n
    unfolding fits
    fits_below f t below = simp (le-leb _ _ l, le-leb _ _ m, le-leb _ _ f, le-leb _ _ t, lt-leb _ _ below)

    pub fits_svid : r.first ≤ h.position → h.position ≤ r.last → r.lowest ≤ h.svid → leb h.svid r.highest ≡ fits r h n
    unfolding fits
    fits_svid f t low = simp (le-leb _ _ l, le-leb _ _ m, le-leb _ _ f, le-leb _ _ t, le-leb _ _ low, and-true)

pub shape_past : (h : Head) (n : ℕ) → 32 ≤ h.command → false ≡ shape h n
unfolding shape
shape_past h n past = simp (le-ltb _ _ past)

pub shape_typeless : (h : Head) (n : ℕ) → h.command < 32 → 4 ≤ h.kind → false ≡ shape h n
unfolding shape
shape_typeless h n below past = simp (lt-ltb _ _ below, le-ltb _ _ past)

pub shape_fits : (h : Head) (n : ℕ) → h.command < 32 → h.kind < 4 → fits (row_of h.command) h n ≡ shape h n
unfolding shape
shape_fits h n below kind = simp (lt-ltb _ _ below, lt-ltb _ _ kind)
