-- When each refusal number is given (01, "Refusal numbers", and 02, R-4): for each call its lines, in the documents' order.
use Rattle.std.specs.Prelude.{◌≡◌, List, [], ◌∷◌, ◌++◌, ℕ, None}
use Rattle.laptop.specs.State.{Memory}
use Rattle.laptop_laws.specs.Effects.{message as laptop_message}
use Rattle.laptop_laws.specs.Effects.{next as laptop_next}
use Rattle.laptop_laws.specs.Effects.{start_over as laptop_start_over}
use Rattle.laptop_laws.specs.Effects.{drop as laptop_drop}
use Rattle.laptop_laws.specs.Effects.{enter as laptop_enter}
use Rattle.laptop_laws.specs.Effects.{exit as laptop_exit}
use Rattle.laptop_laws.specs.Effects.{timer as laptop_timer}
use Rattle.laptop_laws.specs.Effects.{protocol_error as laptop_protocol_error}
use Rattle.laptop_laws.specs.Given.{Line, ◌when◌, First, ShortRun}
use Rattle.laptop_laws.specs.Given.{lines as laptop_lines}
use Rattle.port.specs.Calls.{waiting_side}
use Rattle.port.specs.Sides.{seen}
use Rattle.port.specs.declared.Port.{Port}
use Rattle.port_laws.specs.Effects.{Call, message, next, start_over, drop, enter, exit, timer, protocol_error}

-- 7: an answer is awaited, from either side
abbrev pub Awaits : Port → Type 0
Awaits p = p.wait ≡ None → ⊥

-- 11 for a short run of the own side, then 7 while either side waits
abbrev pub owners_lines : Port → Memory → List Line
owners_lines p m = 11 when ShortRun m ∷ 7 when Awaits p ∷ []

-- lines behind the first two: what an owner's call of 01 has behind its 11 and 7
abbrev pub behind_two : List Line → List Line
behind_two [] = []
behind_two (eleven ∷ []) = []
behind_two (eleven ∷ (seven ∷ list)) = list

-- an owner's call, by the lines that 01's has on the laptop that its side sees
abbrev pub owners_before : Port → Memory → List Line → List Line
owners_before p m list = owners_lines p m ++ behind_two list

-- the lines of each call, where m is the memory of the side that it concerns; a timer and the protocol error are 9 if none waits
abbrev pub lines : Call → Port → Memory → List ℕ → List Line
lines (message side bytes) p m out = laptop_lines (laptop_message bytes) (seen side p) m out
lines (next side) p m out = owners_before p m (laptop_lines laptop_next (seen side p) m out)
lines (start_over side) p m out = owners_before p m (laptop_lines laptop_start_over (seen side p) m out)
lines (drop side) p m out = owners_before p m (laptop_lines laptop_drop (seen side p) m out)
lines (enter side svid position) p m out = owners_before p m (laptop_lines (laptop_enter svid position) (seen side p) m out)
lines (exit side svid position) p m out = owners_before p m (laptop_lines (laptop_exit svid position) (seen side p) m out)
lines (timer first last) p m out = laptop_lines (laptop_timer first last) (seen (waiting_side p.wait) p) m out
lines protocol_error p m out = laptop_lines laptop_protocol_error (seen (waiting_side p.wait) p) m out

-- a call is refused by a number: its line is the first that holds; 0: none does
abbrev pub Given : ℕ → Call → Port → Memory → List ℕ → Type 0
Given number c p m out = First (lines c p m out) number
