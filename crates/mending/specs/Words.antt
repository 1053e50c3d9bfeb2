-- 19 in 02's words: a whole identity at the front of a file, or none.
use Rattle.std.specs.Prelude.{◌≡◌, ℕ, List}
use Rattle.records.specs.Records.{found_in}
use Rattle.records.specs.Records.{Whole}
use Rattle.records.specs.declared.Record.TheVariants.{Identity}

pub record AtFront (bytes : List ℕ) : Type 0 where
  pub objects : ℕ
  pub size : ℕ
  pub is : found_in bytes ≡ Whole (Identity objects) size
