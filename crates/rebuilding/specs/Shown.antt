-- How the code shows what it rebuilt, or the fault.
use Rattle.std.specs.Prelude.{Result, Ok, Err}
use Rattle.messages.specs.Refusals.{number_of}
use Rattle.judging.specs.declared.fault.Fault.{Fault}
use Rattle.judging.specs.declared.walk.Walk.{Walk}
use Rattle.rebuilding.specs.Rebuilding.{Rebuilt, refused_at}
use Rattle.rebuilding.specs.declared.Rebuilt.{Rebuilt as RebuiltFound}

abbrev pub rebuilt_of : Walk → RebuiltFound
rebuilt_of walk = record { at = walk.at; extent = walk.extent; count = walk.count; modes = walk.modes }

abbrev pub rebuilt_as : Result RebuiltFound Fault → Rebuilt
rebuilt_as (Ok found) = record { refusal = 0; at = found.at; extent = found.extent; count = found.count; modes = found.modes }
rebuilt_as (Err fault) = refused_at (number_of fault.refusal) fault.at
