-- Values stored behind what is gathered, and places below a bound.
use mathlib.Core.Path.{◌≡◌, refl, ap, ◌∙◌}
use mathlib.Core.Bool.{Bool, true, false}
use mathlib.Core.List.{List, [], ◌∷◌, ◌++◌}
use Prim.Native.Nat.{ℕ, zero, suc, ◌+◌, ◌<◌, ◌≤◌}
use native.Mathlib.Omega.{arith}
use lib.Dec.{ltb}
use lib.ListN.{length, take, drop, length-append}
use lib.Seq.{sets, sets-eq, take_at}
use borrow.Author.Tests.{ltb-true, ltb-false}

-- values stored behind the first of a list
pub sets_behind : (l : List ℕ) (n : ℕ) (vs : List ℕ) → length (take n l) + length vs ≤ length l →
    take (length (take n l) + length vs) (sets l (length (take n l)) vs) ≡ take n l ++ vs
sets_behind l n vs h =
    let g : List ℕ = take n l in
    let first : take (length g) l ≡ g = part n l in
    ap (take (length g + length vs)) (sets-eq vs l (length g) h ∙ ap (λ (x : List ℕ). x ++ vs ++ drop (length g + length vs) l) first) ∙
    take_at (g ++ vs) (drop (length g + length vs) l) (length g + length vs) (length-append g vs)
  where
    part : (k : ℕ) (x : List ℕ) → take (length (take k x)) x ≡ take k x
    part zero x = refl
    part (suc k) [] = refl
    part (suc k) (y ∷ x) = ap (λ (r : List ℕ). y ∷ r) (part k x)

pub below : (i n : ℕ) → i < n + 1 → (i ≡ n → ⊥) → i < n
below i n h e = go (ltb i n) refl
  where
    go : (t : Bool) → ltb i n ≡ t → i < n
    go true x = ltb-true i n x
    go false x = absurd (e (let y = ltb-false i n x in omega arith))
