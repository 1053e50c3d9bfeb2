-- The commands, and what a request names and its answer repeats (01, "Message layout" and "The dock end").
use Rattle.std.specs.Prelude.{ℕ, Bool, ◌&&◌, eqb}
use Rattle.messages.specs.declared.Head.{Head}
use Rattle.messages.specs.declared.request.Request.{Request}

abbrev pub identity_command : ℕ
identity_command = 1

abbrev pub svids_command : ℕ
svids_command = 2

abbrev pub modes_command : ℕ
modes_command = 3

abbrev pub enter_command : ℕ
enter_command = 4

abbrev pub exit_command : ℕ
exit_command = 5

abbrev pub attention_command : ℕ
attention_command = 6

abbrev pub request_of : Head → Request
request_of h = record { svid = h.svid; command = h.command; position = h.position }

abbrev pub head_for : Request → ℕ → Head
head_for r kind = record { svid = r.svid; command = r.command; kind = kind; position = r.position }

abbrev pub same_request : Request → Request → Bool
same_request a b = eqb a.svid b.svid && (eqb a.command b.command && eqb a.position b.position)
