-- The set of what a position names, and an SVID's place.
use mathlib.Core.Path.{◌≡◌, refl, ap, sym, ◌∙◌}
use mathlib.Core.Bool.{Bool, true, false, cond, not, ◌&&◌}
use mathlib.Core.List.{List, [], ◌∷◌}
use Prim.Native.Nat.{ℕ, ◌+◌, ◌-◌, ◌^◌, ◌≤◌}
use native.Mathlib.Omega.{arith}
use lib.Dec.{leb, eqb}
use lib.ListN.{length}
use lib.Pow.{pow_mono}
use borrow.Author.Tests.{leb-true}
use Rattle.laws.proofs.Lines.{and_right}
use Rattle.std.specs.List.{position}
use Rattle.std.proofs.Common.{unwrap_or, ◌==◌, nat_lt, Some, None}
use Rattle.std.proofs.lemmas.Grind.{common_steps}
use Rattle.std.proofs.lemmas.List.Sums.{prefix_len-le-length}
use Rattle.std.proofs.lemmas.List.Recursion.{is_position_or_len}
use Rattle.laptop.specs.Marks.{place_of, named}

pub named_most : (p : ℕ) → named p ≤ 63
unfolding named
named_most p = go (leb 1 p && leb p 6) (eqb p 7) refl
  where
    go : (t u : Bool) → (leb 1 p && leb p 6) ≡ t → cond t (2 ^ (p - 1)) (cond u 63 0) ≤ 63
    go true u e =
        let most : 2 ^ (p - 1) ≤ 2 ^ 5 = pow_mono {i = p - 1} {j = 5} (omega (arith, leb-true p 6 (and_right (leb 1 p) _ e))) in
        omega arith
    go false true e = omega arith
    go false false e = omega arith

-- an SVID's place is the library's first position that it has
pub place_is : (svid : ℕ) (l : List ℕ) → unwrap_or (position (λ (s : ℕ). s == svid) l) (length l) ≡ place_of svid l
unfolding place_of
place_is svid l =
    within _ (prefix_len-le-length (λ (s : ℕ). not (test s)) l) ∙ sym (is_position_or_len (place_of svid) test none step l)
  where
    test : ℕ → Bool
    test s = s == svid

    within : (n : ℕ) → n ≤ length l → unwrap_or (cond (nat_lt n (length l)) (Some n) None) (length l) ≡ n
    within n h = grind (arith, common_steps)

    none : place_of svid [] ≡ 0
    none = refl

    step : (s : ℕ) (list : List ℕ) → place_of svid (s ∷ list) ≡ cond (s == svid) 0 (1 + place_of svid list)
    step s list = ap (cond (s == svid) 0) (omega arith)
