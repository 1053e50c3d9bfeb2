-- What the code finds at a place: a whole record, or why there is none.
use Rattle.std.specs.Prelude.{Result, Ok, Err}
use Rattle.records.specs.Records.{Found, Whole, Unknown, Cut, Nothing}
use Rattle.records.specs.declared.Whole.{Whole as WholeRecord}
use Rattle.records.specs.declared.missing.Missing.{Missing}
use Rattle.records.specs.declared.missing.Missing.TheVariants.{Unknown as MissingUnknown}
use Rattle.records.specs.declared.missing.Missing.TheVariants.{Cut as MissingCut}
use Rattle.records.specs.declared.missing.Missing.TheVariants.{Nothing as MissingNothing}

abbrev pub as_found : Result WholeRecord Missing → Found
as_found (Ok whole) = Whole whole.record whole.length
as_found (Err MissingUnknown) = Unknown
as_found (Err MissingCut) = Cut
as_found (Err MissingNothing) = Nothing
