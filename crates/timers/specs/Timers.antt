-- Timers and the protocol error (01, "The laptop end", Timers).
use Rattle.std.specs.Prelude.{ℕ, cond, ◌&&◌, leb, ltb, eqb, Option, Some, None}
use Rattle.messages.specs.Requests.{identity_command, enter_command}
use Rattle.messages.specs.declared.request.Request.{Request}
use Rattle.laptop.specs.Calls.{Decision, refuses, accepts}
use Rattle.laptop.specs.State.{ended, dropped}
use Rattle.laptop.specs.declared.Laptop.{Laptop}
use Rattle.laptop.specs.declared.Told.{Told}
use Rattle.laptop.specs.declared.Told.TheVariants.{Nothing, Timer, ProtocolError}

-- the wait ends; Identity then leaves no candidate, other candidates stay; for Enter and Exit policy is told
unfoldable pub over : Laptop → Request → Told → Decision
over l r told =
    cond (eqb r.command identity_command) (accepts Nothing (dropped l))
    (cond (ltb r.command enter_command) (accepts Nothing (ended l)) (accepts told (ended l)))

-- the timer of commands from first to last; the wrong one, or nothing awaited, is 9
unfoldable pub decide_timer : ℕ → ℕ → Laptop → Option Request → Decision
decide_timer first last l None = refuses 9 l
decide_timer first last l (Some r) = cond (leb first r.command && leb r.command last) (over l r (Timer r)) (refuses 9 l)

unfoldable pub decide_error : Laptop → Option Request → Decision
decide_error l None = refuses 9 l
decide_error l (Some r) = over l r (ProtocolError r)
