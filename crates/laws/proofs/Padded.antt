-- Six words, by place, and what they hold.
use mathlib.Core.Path.{◌≡◌, refl}
use mathlib.Core.List.{List, [], ◌∷◌}
use Prim.Native.Nat.{ℕ, ◌≤◌}
use native.Mathlib.Omega.{arith}
use lib.ListN.{length, get_or, take}
use Rattle.laws.specs.Padded.{padded}

pub padded_at : (l : List ℕ) →
    get_or l 0 0 ∷ get_or l 1 0 ∷ get_or l 2 0 ∷ get_or l 3 0 ∷ get_or l 4 0 ∷ get_or l 5 0 ∷ [] ≡ padded l
padded_at [] = refl
padded_at (a ∷ []) = refl
padded_at (a ∷ b ∷ []) = refl
padded_at (a ∷ b ∷ c ∷ []) = refl
padded_at (a ∷ b ∷ c ∷ d ∷ []) = refl
padded_at (a ∷ b ∷ c ∷ d ∷ e ∷ []) = refl
padded_at (a ∷ b ∷ c ∷ d ∷ e ∷ f ∷ l) = refl

pub take_padded : (l : List ℕ) → length l ≤ 6 → take (length l) (padded l) ≡ l
take_padded [] h = refl
take_padded (a ∷ []) h = refl
take_padded (a ∷ b ∷ []) h = refl
take_padded (a ∷ b ∷ c ∷ []) h = refl
take_padded (a ∷ b ∷ c ∷ d ∷ []) h = refl
take_padded (a ∷ b ∷ c ∷ d ∷ e ∷ []) h = refl
take_padded (a ∷ b ∷ c ∷ d ∷ e ∷ f ∷ []) h = refl
take_padded (a ∷ b ∷ c ∷ d ∷ e ∷ f ∷ g ∷ l) h = absurd (omega arith)
