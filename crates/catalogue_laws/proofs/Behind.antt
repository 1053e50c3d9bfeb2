-- Lists with one more behind them: what holds of each entry, and SVIDs that are none 0 and all different.
use mathlib.Core.Path.{◌≡◌, refl, sym}
use mathlib.Core.Bool.{Bool, true, false, not, ◌&&◌, ◌||◌}
use mathlib.Core.List.{List, [], ◌∷◌, ◌++◌}
use Prim.Native.Nat.{ℕ}
use native.Mathlib.Omega.{arith}
use lib.Dec.{eqb}
use borrow.Author.Tests.{ne_eqb, eqb-false, not-true}
use Rattle.laws.proofs.Lines.{and_left, and_right}
use Rattle.pages.specs.Lists.{is_in, sound_list}
use Rattle.laptop.specs.Catalogue.{Entry}
use Rattle.catalogue.specs.Bytes.{Each}

module _ (P : Entry → Type 0) where
  pub each_behind : (a : List Entry) (entry : Entry) → Each P a → P entry → Each P (a ++ entry ∷ [])
  each_behind [] entry each one = (one, tt)
  each_behind (x ∷ a) entry each one = (each.0, each_behind a entry each.1 one)

  pub each_before : (a : List Entry) (entry : Entry) → Each P (a ++ entry ∷ []) → Each P a × P entry
  each_before [] entry each = (tt, each.0)
  each_before (x ∷ a) entry each = let rest = each_before a entry each.1 in ((each.0, rest.0), rest.1)

or_first : (p q : Bool) → (p || q) ≡ false → p ≡ false
or_first true q e = e
or_first false q e = refl

or_second : (p q : Bool) → (p || q) ≡ false → q ≡ false
or_second true q e = absurd (let z : ◌≡◌ {A = ℕ} 0 1 = cc in omega arith)
or_second false q e = e

in_behind : (x : ℕ) (list : List ℕ) (svid : ℕ) → is_in x list ≡ false → (svid ≡ x → ⊥) → is_in x (list ++ svid ∷ []) ≡ false
unfolding is_in
in_behind x [] svid none other = simp (ne_eqb svid x other)
in_behind x (y ∷ list) svid none other =
    simp (or_first (eqb y x) (is_in x list) none, in_behind x list svid (or_second (eqb y x) (is_in x list) none) other)

-- a list with a new SVID behind it
pub sound_behind : (list : List ℕ) (svid : ℕ) → sound_list list ≡ true → (svid ≡ 0 → ⊥) → is_in svid list ≡ false → sound_list (list ++ svid ∷ []) ≡ true
unfolding sound_list is_in
sound_behind [] svid sound some new = simp (ne_eqb svid 0 some)
sound_behind (x ∷ list) svid sound some new =
    let a = and_left (not (eqb x 0)) (not (is_in x list) && sound_list list) sound in
    let rest = and_right (not (eqb x 0)) (not (is_in x list) && sound_list list) sound in
    let other = eqb-false x svid (or_first (eqb x svid) (is_in svid list) new) in
    let none = in_behind x list svid (not-true (is_in x list) (and_left (not (is_in x list)) (sound_list list) rest)) (λ same. other (sym same)) in
    simp (a, none) (sound_behind list svid (and_right (not (is_in x list)) (sound_list list) rest) some (or_second (eqb x svid) (is_in svid list) new))
