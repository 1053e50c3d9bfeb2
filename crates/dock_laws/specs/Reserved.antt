-- Calls with bit 5 of each message's header cleared (02, R-2).
use Rattle.std.specs.Prelude.{List, [], ◌∷◌, ℕ}
use Rattle.messages.specs.Layout.{with_reserved_clear}
use Rattle.dock_laws.specs.Effects.{Call, load, message, policy_answer, sent, failed}

abbrev pub reserved_clear : Call → Call
reserved_clear (load identity svids) = load identity svids
reserved_clear (message bytes) = message (with_reserved_clear bytes)
reserved_clear (policy_answer policy r objects) = policy_answer policy r objects
reserved_clear sent = sent
reserved_clear failed = failed

abbrev pub all_reserved_clear : List (Call × List ℕ) → List (Call × List ℕ)
all_reserved_clear [] = []
all_reserved_clear (c ∷ rest) = (reserved_clear c.0, c.1) ∷ all_reserved_clear rest
