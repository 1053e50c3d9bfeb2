-- Lists of SVIDs.
use Rattle.std.specs.Prelude.{ℕ, Bool, true, false, not, ◌&&◌, ◌||◌, List, [], ◌∷◌, eqb}

-- a list has at most so many
abbrev pub most_svids : ℕ
most_svids = 72

unfoldable pub is_in : ℕ → List ℕ → Bool
is_in svid [] = false
is_in svid (s ∷ list) = eqb s svid || is_in svid list

-- none 0, all different
unfoldable pub sound_list : List ℕ → Bool
sound_list [] = true
sound_list (s ∷ list) = not (eqb s 0) && (not (is_in s list) && sound_list list)
