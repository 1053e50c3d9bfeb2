-- Lines that hold or do not: the first of a table of refusals that holds gives the number; a rule asks that each of its lines holds.
use Rattle.std.specs.Prelude.{ℕ, zero, suc, ◌+◌, Bool, true, false, cond, not, ◌&&◌, List, [], ◌∷◌}

-- the number of the first line that holds, the lines being numbered from n on; 0 where none holds
abbrev pub first_line : ℕ → List Bool → ℕ
first_line n [] = 0
first_line n (line ∷ lines) = cond line n (first_line (n + 1) lines)

-- line k, counted from 0, holds, and none before it does
abbrev pub first_at : List Bool → ℕ → Bool
first_at [] k = false
first_at (line ∷ lines) zero = line
first_at (line ∷ lines) (suc k) = not line && first_at lines k

abbrev pub all_hold : List Bool → Bool
all_hold [] = true
all_hold (line ∷ lines) = line && all_hold lines
