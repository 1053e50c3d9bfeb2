-- Every call of the port as one definition: what it gives back, what is lent to it afterwards, and the output buffer.
use Rattle.std.specs.Prelude.{ℕ, Bool, true, false, List, [], ◌∷◌, length}
use Rattle.messages.specs.Reading.{read_outcome}
use Rattle.laptop.specs.Calls.{Decision, step_of, buffer_of}
use Rattle.laptop.specs.State.{Memory}
use Rattle.laptop.specs.declared.Laptop.{Laptop}
use Rattle.laptop.specs.declared.Told.{Told}
use Rattle.hearing.specs.Hearing.{heard}
use Rattle.owner.specs.Owner.{decide_next, decide_start_over, decide_drop, decide_enter, decide_exit}
use Rattle.timers.specs.Timers.{decide_timer, decide_error}
use Rattle.laptop_laws.specs.Effects.{Call as LaptopCall}
use Rattle.laptop_laws.specs.Effects.{message as laptop_message}
use Rattle.laptop_laws.specs.Effects.{next as laptop_next}
use Rattle.laptop_laws.specs.Effects.{start_over as laptop_start_over}
use Rattle.laptop_laws.specs.Effects.{drop as laptop_drop}
use Rattle.laptop_laws.specs.Effects.{enter as laptop_enter}
use Rattle.laptop_laws.specs.Effects.{exit as laptop_exit}
use Rattle.laptop_laws.specs.Effects.{timer as laptop_timer}
use Rattle.laptop_laws.specs.Effects.{protocol_error as laptop_protocol_error}
use Rattle.laptop_laws.specs.Effects.{Effect as LaptopEffect}
use Rattle.laptop_laws.specs.Effects.{Kept as LaptopKept}
use Rattle.port.specs.Calls.{owners_decision, waiting_side}
use Rattle.port.specs.Sides.{Wait, seen, stepped_on}
use Rattle.port.specs.declared.Port.{Port}
use Rattle.port.specs.declared.Side.{Side}
use Rattle.port.specs.declared.Side.TheVariants.{Partner, Cable}
use Rattle.port.specs.Step.{Step}

-- a message's bytes from a side; the owner's calls for a side, with SVID and position for enter and exit; the timer of commands from first to last; the
-- protocol error
pub data Call : Type 0 where
  message : Side → List ℕ → Call
  next : Side → Call
  start_over : Side → Call
  drop : Side → Call
  enter : Side → ℕ → ℕ → Call
  exit : Side → ℕ → ℕ → Call
  timer : ℕ → ℕ → Call
  protocol_error : Call

-- the same call of 01, which knows no side
abbrev pub one_sided : Call → LaptopCall
one_sided (message side bytes) = laptop_message bytes
one_sided (next side) = laptop_next
one_sided (start_over side) = laptop_start_over
one_sided (drop side) = laptop_drop
one_sided (enter side svid position) = laptop_enter svid position
one_sided (exit side svid position) = laptop_exit svid position
one_sided (timer first last) = laptop_timer first last
one_sided protocol_error = laptop_protocol_error

-- the side that a call concerns, and by whose memory it is lent: its own; of a timer or the protocol error, the one that waits
abbrev pub concerns : Call → Wait → Side
concerns (message side bytes) w = side
concerns (next side) w = side
concerns (start_over side) w = side
concerns (drop side) w = side
concerns (enter side svid position) w = side
concerns (exit side svid position) w = side
concerns (timer first last) w = waiting_side w
concerns protocol_error w = waiting_side w

abbrev pub is_owners : Call → Bool
is_owners (message side bytes) = false
is_owners (next side) = true
is_owners (start_over side) = true
is_owners (drop side) = true
is_owners (enter side svid position) = true
is_owners (exit side svid position) = true
is_owners (timer first last) = false
is_owners protocol_error = false

pub record Effect : Type 0 where
  pub step : Step
  pub after : Memory
  pub buffer : List ℕ

-- an owner's call, by what 01's decides on the laptop that its side sees
abbrev pub decided_on : Side → Port → Memory → List ℕ → Decision → Effect
decided_on side p m out decision =
    record { step = stepped_on side p (step_of (seen side p) decision (length out)); after = m; buffer = buffer_of decision out }

abbrev pub owners_effect : Side → Port → Memory → List ℕ → (Laptop → Decision) → Effect
owners_effect side p m out decide = decided_on side p m out (owners_decision side p decide (length m.run) (length m.held_run))

-- a timer or the protocol error, on the side that waits: it sends nothing, so that it needs no buffer
abbrev pub waiters_effect : Port → Memory → List ℕ → (Laptop → Decision) → Effect
waiters_effect p m out decide = decided_on (waiting_side p.wait) p m out (decide (seen (waiting_side p.wait) p))

-- by the definitions that the promises of the port's calls cite; m is the memory of the side that the call concerns
abbrev pub effect_of : Call → Port → Memory → List ℕ → Effect
effect_of (message side bytes) p m out =
    record {
      step = stepped_on side p (heard (seen side p) m (read_outcome bytes)).step;
      after = (heard (seen side p) m (read_outcome bytes)).after;
      buffer = out;
    }
effect_of (next side) p m out = owners_effect side p m out (λ l. decide_next l m.svids m.entered (length m.run) (length m.held_run))
effect_of (start_over side) p m out = owners_effect side p m out (λ l. decide_start_over l m.entered (length m.run) (length m.held_run))
effect_of (drop side) p m out = owners_effect side p m out (λ l. decide_drop l (length m.run) (length m.held_run))
effect_of (enter side svid position) p m out =
    owners_effect side p m out
    (λ l. decide_enter l m.held_svids m.held_modes m.entered (length m.run) (length m.held_run) svid position)
effect_of (exit side svid position) p m out =
    owners_effect side p m out
    (λ l. decide_exit l m.held_svids m.held_modes m.entered (length m.run) (length m.held_run) svid position)
effect_of (timer first last) p m out = waiters_effect p m out (λ l. decide_timer first last l l.wait)
effect_of protocol_error p m out = waiters_effect p m out (λ l. decide_error l l.wait)

-- what 01's call on a side comes to, as the port's
abbrev pub on_side : Side → Port → LaptopEffect → Effect
on_side side p e = record { step = stepped_on side p e.step; after = e.after; buffer = e.buffer }

-- a call of the port, as a side sees it
abbrev pub effect_seen : Side → Effect → LaptopEffect
effect_seen side e =
    record {
      step = record { refusal = e.step.refusal; length = e.step.length; told = e.step.told; laptop = seen side e.step.port };
      after = e.after;
      buffer = e.buffer;
    }

-- the port, and what is lent to each side
pub record Kept : Type 0 where
  pub port : Port
  pub partner : Memory
  pub cable : Memory

abbrev pub memory_of : Side → Kept → Memory
memory_of Partner k = k.partner
memory_of Cable k = k.cable

-- a side's share of it: the laptop that it sees, and its memory
abbrev pub of_side : Side → Kept → LaptopKept
of_side side k = record { laptop = seen side k.port; memory = memory_of side k }

abbrev pub kept_on : Side → Effect → Kept → Kept
kept_on Partner e k = record { port = e.step.port; partner = e.after; cable = k.cable }
kept_on Cable e k = record { port = e.step.port; partner = k.partner; cable = e.after }

abbrev pub effect_in : Call → List ℕ → Kept → Effect
effect_in c out k = effect_of c k.port (memory_of (concerns c k.port.wait) k) out

abbrev pub kept_by_of : Call → List ℕ → Kept → Kept
kept_by_of c out k = kept_on (concerns c k.port.wait) (effect_in c out k) k

-- after calls, each of which is lent what its side's last one left, and an output buffer of its own
abbrev pub kept_after : List (Call × List ℕ) → Kept → Kept
kept_after [] k = k
kept_after (c ∷ rest) k = kept_after rest (kept_by_of c.0 c.1 k)

-- a call's answer: the refusal number, how many bytes of the output buffer are to be sent, all of the buffer, and what policy is told
pub record Answer : Type 0 where
  pub refusal : ℕ
  pub length : ℕ
  pub told : Told
  pub buffer : List ℕ

abbrev pub answer_of : Effect → Answer
answer_of e = record { refusal = e.step.refusal; length = e.step.length; told = e.step.told; buffer = e.buffer }

abbrev pub answer_on_side : LaptopEffect → Answer
answer_on_side e = record { refusal = e.step.refusal; length = e.step.length; told = e.step.told; buffer = e.buffer }
