-- The refusal for a record that does not stand whole.
use Rattle.messages.specs.declared.refusal.Refusal.{Refusal}
use Rattle.messages.specs.declared.refusal.Refusal.TheVariants.{UnknownKind, CutRecord}
use Rattle.records.specs.declared.missing.Missing.{Missing}
use Rattle.records.specs.declared.missing.Missing.TheVariants.{Unknown, Cut, Nothing}

abbrev pub refusal_for : Missing → Refusal
refusal_for Unknown = UnknownKind
refusal_for Cut = CutRecord
refusal_for Nothing = CutRecord
