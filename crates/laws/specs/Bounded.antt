-- Lists of numbers that fit a width.
use Rattle.std.specs.Prelude.{ℕ, ◌<◌, List, get_or}

-- each number of the list is below n
abbrev pub Below : ℕ → List ℕ → Type 0
Below n l = (k : ℕ) → get_or l k 0 < n
