-- What a call decides, and what becomes of it in the output buffer (01, "Refusal numbers").
use Rattle.std.specs.Prelude.{◌≡◌, ℕ, Bool, true, false, cond, ◌||◌, List, ltb, eqb, length, Option, Some, None}
use Rattle.messages.specs.Layout.{Message, message_length}
use Rattle.messages.specs.Writing.{write_refusal, written}
use Rattle.laptop.specs.Catalogue.{run_words}
use Rattle.laptop.specs.declared.Laptop.{Laptop}
use Rattle.laptop.specs.Step.{Step}
use Rattle.laptop.specs.declared.Told.{Told}
use Rattle.laptop.specs.declared.Told.TheVariants.{Nothing}
use Rattle.messages.specs.declared.request.Request.{Request}

-- before the output buffer is looked at: a refusal and the state that it leaves; a new state, with what policy is told; a message, and the
-- state once it is sent, whose edition is the message's
pub data Decision : Type 0 where
  refuses : ℕ → Laptop → Decision
  accepts : Told → Laptop → Decision
  sends : Message → Laptop → Decision

abbrev pub refused_by : ℕ → Laptop → Step
refused_by number l = record { refusal = number; length = 0; told = Nothing; laptop = l }

abbrev pub accepted_with : Told → Laptop → Step
accepted_with told l = record { refusal = 0; length = 0; told = told; laptop = l }

abbrev pub sent_by : ℕ → Laptop → Step
sent_by bytes l = record { refusal = 0; length = bytes; told = Nothing; laptop = l }

-- a short output buffer is refused last, and the laptop is as it was
unfoldable pub step_of : Laptop → Decision → ℕ → Step
step_of l (refuses number next) room = refused_by number next
step_of l (accepts told next) room = accepted_with told next
step_of l (sends m next) room =
    cond (eqb (write_refusal m room) 0) (sent_by (message_length m) next) (refused_by (write_refusal m room) l)

unfoldable pub buffer_of : Decision → List ℕ → List ℕ
buffer_of (refuses number next) out = out
buffer_of (accepts told next) out = out
buffer_of (sends m next) out = written next.edition m out

-- what a call promises: the refusal, the bytes to send, what policy is told and the state in one, and the whole buffer
pub record Stepped (l : Laptop) (decision : Decision) (out : List ℕ) (step : Step) (after : List ℕ) : Type 0 where
  pub step_is : step ≡ step_of l decision (length out)
  pub buffer_is : after ≡ buffer_of decision out

-- a refusal that leaves the laptop alone comes before the decision; 0 is none
unfoldable pub unless : ℕ → Laptop → Decision → Decision
unless number l decision = cond (eqb number 0) decision (refuses number l)

-- a lent run has under 432 words
unfoldable pub short_runs : ℕ → ℕ → Bool
short_runs run held_run = ltb run run_words || ltb held_run run_words

abbrev pub is_awaiting : Option Request → Bool
is_awaiting None = false
is_awaiting (Some r) = true
