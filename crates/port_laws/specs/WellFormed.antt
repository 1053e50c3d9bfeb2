-- A well-formed port (01, "The laptop end", and 02, R-4).
use Rattle.laptop_laws.specs.WellFormed.{WellFormed}
use Rattle.port.specs.Sides.{seen}
use Rattle.port.specs.declared.Side.{Side}
use Rattle.port_laws.specs.Effects.{Kept, memory_of}

-- of each side, the laptop that it sees is well-formed with what the side is lent
abbrev pub WellFormedOn : Kept → Type 0
WellFormedOn k = (side : Side) → WellFormed (seen side k.port) (memory_of side k)
