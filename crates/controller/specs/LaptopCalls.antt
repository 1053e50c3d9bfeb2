-- What the laptop's calls promise, over the numbers that are lent. A refusal hands nothing over, and changes the state's numbers only where it
-- changes the state.
use Rattle.std.specs.Prelude.{◌≡◌, ℕ, List, length}
use Rattle.messages.specs.Reading.{read_outcome}
use Rattle.laptop.specs.Calls.{Decision, step_of, buffer_of}
use Rattle.laptop.specs.State.{Memory, LentMemory}
use Rattle.laptop.specs.declared.Laptop.{Laptop}
use Rattle.laptop.specs.Step.{Step as LaptopAsStep}
use Rattle.hearing.specs.Hearing.{Result, heard}
use Rattle.port.specs.Calls.{owners_decision, concerning}
use Rattle.port.specs.Sides.{seen, stepped_on}
use Rattle.port.specs.declared.Side.{Side}
use Rattle.port.specs.Step.{Step}
use Rattle.controller.specs.Port.{port_from, numbers_after}
use Rattle.laws.specs.Lent.{Lent, lent, left, accepted}
use Rattle.controller.specs.Told.{handed_numbers}

-- a step is handed over: its refusal number, the state's numbers, and on acceptance the eight of what is handed over
pub record LaptopStep (step : Step) (number : ℕ) (state handed : Lent (List ℕ)) : Type 0 where
  pub number_is : number ≡ step.refusal
  pub state_is : left state ≡ numbers_after (lent state) step.port
  pub handed_is : left handed ≡ accepted number (handed_numbers step) (lent handed)

-- a timer or the protocol error
pub record LaptopSendsNothing (decide : Laptop → Decision) (number : ℕ) (state handed : Lent (List ℕ)) : Type 0 where
  pub step_is : LaptopStep (concerning decide (port_from (lent state))) number state handed

-- an owner's call for a side, which may send: the whole output buffer too; run and held_run are the lengths of what is lent
abbrev pub deciding : Side → List ℕ → (Laptop → Decision) → ℕ → ℕ → Decision
deciding side state decide run held_run = owners_decision side (port_from state) decide run held_run

abbrev pub sending : Side → List ℕ → Decision → ℕ → Step
sending side state decision room = stepped_on side (port_from state) (step_of (seen side (port_from state)) decision room)

pub record LaptopSends (side : Side) (decide : Laptop → Decision) (run held_run number : ℕ) (state out handed : Lent (List ℕ)) : Type 0 where
  pub step_is : LaptopStep (sending side (lent state) (deciding side (lent state) decide run held_run) (length (lent out))) number state handed
  pub buffer_is : left out ≡ buffer_of (deciding side (lent state) decide run held_run) (lent out)

-- a message from a side: all nine lent arrays and runs too
abbrev pub hearing : Side → List ℕ → List ℕ → Memory → Result
hearing side bytes state before = heard (seen side (port_from state)) before (read_outcome bytes)

-- what 01's message on the side comes to
abbrev pub HeardOn : Side → List ℕ → List ℕ → LentMemory → LaptopAsStep → Type 0
HeardOn side bytes state memory step =
    (step ≡ (hearing side bytes state memory.entry).step) × (memory.exit ≡ (hearing side bytes state memory.entry).after)

pub record LaptopHears (side : Side) (bytes : List ℕ) (number : ℕ) (state : Lent (List ℕ)) (memory : LentMemory) (handed : Lent (List ℕ)) : Type 0 where
  pub step_is : LaptopStep (stepped_on side (port_from (lent state)) (hearing side bytes (lent state) memory.entry).step) number state handed
  pub memory_is : memory.exit ≡ (hearing side bytes (lent state) memory.entry).after
