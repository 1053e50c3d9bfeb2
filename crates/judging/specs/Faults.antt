-- How the code shows what it judged: the walk behind the end, or where it stopped.
use Rattle.std.specs.Prelude.{Result, Ok, Err}
use Rattle.messages.specs.Refusals.{number_of}
use Rattle.judging.specs.Judging.{Judged}
use Rattle.judging.specs.declared.fault.Fault.{Fault}
use Rattle.judging.specs.declared.fault.Stopped.{Stopped}
use Rattle.judging.specs.declared.walk.Walk.{Walk}

abbrev pub judged_as : Result Walk Stopped → Judged
judged_as (Ok walk) = record { refusal = 0; walk = walk }
judged_as (Err stopped) = record { refusal = number_of stopped.refusal; walk = stopped.walk }

-- the offset of a fault is that of the walk
abbrev pub fault_of : Stopped → Fault
fault_of stopped = record { refusal = stopped.refusal; at = stopped.walk.at }
