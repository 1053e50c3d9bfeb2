-- How the code shows a stretch: its place or its part, or the fault.
use Rattle.std.specs.Prelude.{ℕ, Result, Ok, Err, ◌+◌, List, []}
use Rattle.std.specs.Borrow.{Bor}
use Rattle.messages.specs.Refusals.{number_of}
use Rattle.judging.specs.declared.fault.Fault.{Fault}
use Rattle.stretches.specs.Stretches.{Place, Stretch, refused_at}
use Rattle.stretches.specs.declared.Place.{Place as PlaceFound}
use Rattle.stretches.specs.declared.Stretch.{Stretch as StretchFound}

abbrev pub place_as : Result PlaceFound Fault → Place
place_as (Ok place) = record { refusal = 0; at = place.at; length = place.length }
place_as (Err fault) = refused_at (number_of fault.refusal) fault.at

-- with a refusal it is the empty part at the fault
abbrev pub none_of : Bor (List ℕ) → ℕ → Bor (List ℕ)
none_of bytes at = record { ref_ptr = (bytes.ref_ptr.0, bytes.ref_ptr.1 + at); now = [] }

abbrev pub stretch_as : Bor (List ℕ) → Result StretchFound Fault → Stretch
stretch_as bytes (Ok found) = record { part = found.part; refusal = 0; at = found.at }
stretch_as bytes (Err fault) = record { part = none_of bytes fault.at; refusal = number_of fault.refusal; at = fault.at }
