-- What the calls of the port say of a side's edition (02, R-5).
use Rattle.std.specs.Prelude.{cond, List, [], ◌∷◌, ℕ}
use Rattle.laptop_laws.specs.Editions.{Said, nothing, said_by}
use Rattle.port.specs.Sides.{seen}
use Rattle.port.specs.declared.Side.{Side}
use Rattle.port_laws.specs.Effects.{Call, one_sided, Kept, memory_of, kept_by_of}
use Rattle.port_laws.specs.Leaving.{is_left_out}

-- an event of the other side says nothing of it, nor does a call that is refused because the other waits; any other says what 01's says
abbrev pub said_on : Side → Call → List ℕ → Kept → Said
said_on side c out k = cond (is_left_out side c k) nothing (said_by (one_sided c) (seen side k.port) (memory_of side k) out)

-- what the calls of a history say, each in the state that those before it left
abbrev pub said_over_on : Side → List (Call × List ℕ) → Kept → List Said
said_over_on side [] k = []
said_over_on side (c ∷ rest) k = said_on side c.0 c.1 k ∷ said_over_on side rest (kept_by_of c.0 c.1 k)
