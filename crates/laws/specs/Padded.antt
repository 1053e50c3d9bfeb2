-- At most six numbers in six words.
use Rattle.std.specs.Prelude.{ℕ, List, ◌++◌, take, replicate}

-- the numbers, with zeros behind them
abbrev pub padded : List ℕ → List ℕ
padded numbers = take 6 (numbers ++ replicate 6 0)
