-- Every call of the laptop as one definition: what it gives back, what is lent afterwards, and the output buffer.
use Rattle.std.specs.Prelude.{ℕ, List, [], ◌∷◌, length}
use Rattle.messages.specs.Reading.{read_outcome}
use Rattle.laptop.specs.Calls.{Decision, step_of, buffer_of}
use Rattle.hearing.specs.Hearing.{heard}
use Rattle.owner.specs.Owner.{decide_next, decide_start_over, decide_drop, decide_enter, decide_exit}
use Rattle.laptop.specs.State.{Memory}
use Rattle.timers.specs.Timers.{decide_timer, decide_error}
use Rattle.laptop.specs.declared.Laptop.{Laptop}
use Rattle.laptop.specs.Step.{Step}

-- a message's bytes; the owner's calls, with SVID and position for enter and exit; the timer of commands from first to last; the protocol error
pub data Call : Type 0 where
  message : List ℕ → Call
  next : Call
  start_over : Call
  drop : Call
  enter : ℕ → ℕ → Call
  exit : ℕ → ℕ → Call
  timer : ℕ → ℕ → Call
  protocol_error : Call

pub record Effect : Type 0 where
  pub step : Step
  pub after : Memory
  pub buffer : List ℕ

-- a call that changes nothing lent but the output buffer
abbrev pub decided : Laptop → Memory → List ℕ → Decision → Effect
decided l m out decision = record { step = step_of l decision (length out); after = m; buffer = buffer_of decision out }

abbrev pub effect_of : Call → Laptop → Memory → List ℕ → Effect
effect_of (message bytes) l m out =
    record { step = (heard l m (read_outcome bytes)).step; after = (heard l m (read_outcome bytes)).after; buffer = out }
effect_of next l m out = decided l m out (decide_next l m.svids m.entered (length m.run) (length m.held_run))
effect_of start_over l m out = decided l m out (decide_start_over l m.entered (length m.run) (length m.held_run))
effect_of drop l m out = decided l m out (decide_drop l (length m.run) (length m.held_run))
effect_of (enter svid position) l m out =
    decided l m out (decide_enter l m.held_svids m.held_modes m.entered (length m.run) (length m.held_run) svid position)
effect_of (exit svid position) l m out =
    decided l m out (decide_exit l m.held_svids m.held_modes m.entered (length m.run) (length m.held_run) svid position)
effect_of (timer first last) l m out = decided l m out (decide_timer first last l l.wait)
effect_of protocol_error l m out = decided l m out (decide_error l l.wait)

-- the laptop and what it is lent
pub record Kept : Type 0 where
  pub laptop : Laptop
  pub memory : Memory

-- after calls, each of which is lent what the last one left, and an output buffer of its own
abbrev pub kept_after : List (Call × List ℕ) → Kept → Kept
kept_after [] k = k
kept_after (c ∷ rest) k =
    kept_after rest
    (record {
      laptop = (effect_of c.0 k.laptop k.memory c.1).step.laptop;
      memory = (effect_of c.0 k.laptop k.memory c.1).after;
    })
