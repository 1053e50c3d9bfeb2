-- Entries with one more behind them, and with one mode more under the last.
use mathlib.Core.Path.{◌≡◌, refl, ap}
use mathlib.Core.List.{List, [], ◌∷◌, ◌++◌}
use Prim.Native.Nat.{ℕ, suc, ◌+◌, ◌<◌}
use native.Mathlib.Omega.{arith}
use lib.ListN.{length}
use Rattle.laptop.specs.Catalogue.{Entry}
use Rattle.judging.specs.Walking.{svids_of, numbers_of, all_modes, last_number, with_mode}

pub svids_append : (a b : List Entry) → svids_of (a ++ b) ≡ svids_of a ++ svids_of b
unfolding svids_of
svids_append [] b = refl
svids_append (entry ∷ a) b = ap (λ (l : List ℕ). entry.svid ∷ l) (svids_append a b)

pub numbers_append : (a b : List Entry) → numbers_of (a ++ b) ≡ numbers_of a ++ numbers_of b
unfolding numbers_of
numbers_append [] b = refl
numbers_append (entry ∷ a) b = ap (λ (l : List ℕ). length entry.modes ∷ l) (numbers_append a b)

pub modes_append : (a b : List Entry) → all_modes (a ++ b) ≡ all_modes a + all_modes b
unfolding all_modes
modes_append [] b = omega arith
modes_append (entry ∷ a) b = omega (arith, modes_append a b)

pub length_svids : (entries : List Entry) → length (svids_of entries) ≡ length entries
unfolding svids_of
length_svids [] = refl
length_svids (entry ∷ entries) = ap suc (length_svids entries)

pub length_numbers : (entries : List Entry) → length (numbers_of entries) ≡ length entries
unfolding numbers_of
length_numbers [] = refl
length_numbers (entry ∷ entries) = ap suc (length_numbers entries)

-- the last entry
pub last_behind : (a : List Entry) (entry : Entry) → last_number (a ++ entry ∷ []) ≡ length entry.modes
unfolding last_number
last_behind [] entry = refl
last_behind (x ∷ []) entry = refl
last_behind (x ∷ y ∷ a) entry = last_behind (y ∷ a) entry

abbrev pub more : Entry → ℕ → Entry
more entry mode = record { svid = entry.svid; modes = entry.modes ++ mode ∷ [] }

pub mode_behind : (a : List Entry) (entry : Entry) (mode : ℕ) → with_mode (a ++ entry ∷ []) mode ≡ a ++ more entry mode ∷ []
unfolding with_mode
mode_behind [] entry mode = refl
mode_behind (x ∷ []) entry mode = refl
mode_behind (x ∷ y ∷ a) entry mode = ap (λ (l : List Entry). x ∷ l) (mode_behind (y ∷ a) entry mode)

-- some entries are those before the last, and the last
pub record Split (entries : List Entry) : Type 0 where
  pub before : List Entry
  pub last : Entry
  pub is : entries ≡ before ++ last ∷ []

pub split : (entries : List Entry) → 0 < length entries → Split entries
split [] some = absurd (omega arith)
split (entry ∷ []) some = record { before = []; last = entry; is = refl }
split (entry ∷ next ∷ entries) some =
    let rest = split (next ∷ entries) (omega arith) in
    record { before = entry ∷ rest.before; last = rest.last; is = ap (λ (l : List Entry). entry ∷ l) rest.is }
