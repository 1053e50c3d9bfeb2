-- Calls with bit 5 of each message's header cleared (02, R-2).
use Rattle.std.specs.Prelude.{List, [], ◌∷◌, ℕ}
use Rattle.messages.specs.Layout.{with_reserved_clear}
use Rattle.laptop_laws.specs.Effects.{Call, message, next, start_over, drop, enter, exit, timer, protocol_error}

abbrev pub reserved_clear : Call → Call
reserved_clear (message bytes) = message (with_reserved_clear bytes)
reserved_clear next = next
reserved_clear start_over = start_over
reserved_clear drop = drop
reserved_clear (enter svid position) = enter svid position
reserved_clear (exit svid position) = exit svid position
reserved_clear (timer first last) = timer first last
reserved_clear protocol_error = protocol_error

abbrev pub all_reserved_clear : List (Call × List ℕ) → List (Call × List ℕ)
all_reserved_clear [] = []
all_reserved_clear (c ∷ rest) = (reserved_clear c.0, c.1) ∷ all_reserved_clear rest
