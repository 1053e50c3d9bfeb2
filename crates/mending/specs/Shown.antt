-- How the code shows what mending gives back.
use Rattle.std.specs.Prelude.{Result, Ok, Err, cond, eqb}
use Rattle.messages.specs.Refusals.{number_of}
use Rattle.messages.specs.declared.refusal.Refusal.{Refusal}
use Rattle.judging.specs.Judging.{Judged}
use Rattle.judging.specs.declared.fault.Fault.{Fault as FaultFound}
use Rattle.mending.specs.Mending.{Fault, Mended, Refused, Sound, Partial}
use Rattle.mending.specs.declared.Mended.{Mended as MendedFound}
use Rattle.mending.specs.declared.Mended.TheVariants.{Sound as FoundSound}
use Rattle.mending.specs.declared.Mended.TheVariants.{Partial as FoundPartial}
use Rattle.mending.specs.declared.keeping.Kept.{Kept}

-- by what judging hands over
abbrev pub told_by : Judged → Kept → Mended
told_by judged kept = cond (eqb judged.refusal 0) (Sound kept) (Partial (record { number = judged.refusal; at = judged.walk.at }) kept)

abbrev pub fault_in : FaultFound → Fault
fault_in fault = record { number = number_of fault.refusal; at = fault.at }

abbrev pub outcome_in : MendedFound → Mended
outcome_in (FoundSound kept) = Sound kept
outcome_in (FoundPartial fault kept) = Partial (fault_in fault) kept

abbrev pub mended_in : Result MendedFound Refusal → Mended
mended_in (Ok found) = outcome_in found
mended_in (Err refusal) = Refused (number_of refusal)
