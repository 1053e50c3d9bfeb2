-- What each call for a side comes to (02, R-4).
use Rattle.std.specs.Prelude.{Result, Ok, Err, ◌≡◌, ℕ, Bool, true, false, cond, List, length, Some, None}
use Rattle.messages.specs.Reading.{read_outcome}
use Rattle.messages.specs.Refusals.{number_of}
use Rattle.laptop.specs.Calls.{Decision, step_of, buffer_of, unless, short_runs}
use Rattle.laptop.specs.State.{LentMemory}
use Rattle.laptop.specs.declared.Laptop.{Laptop}
use Rattle.hearing.specs.Hearing.{heard}
use Rattle.port.specs.Sides.{Wait, seen, stepped_on}
use Rattle.port.specs.declared.Port.{Port}
use Rattle.port.specs.declared.Refused.{Refused}
use Rattle.port.specs.declared.Side.{Side}
use Rattle.port.specs.declared.Side.TheVariants.{Partner}
use Rattle.port.specs.Step.{Step}

-- a message is 01's message on its own side, whatever the other awaits
abbrev pub HearsOn : Side → Port → List ℕ → LentMemory → Step → Type 0
HearsOn side p bytes m step =
    (step ≡ stepped_on side p (heard (seen side p) m.entry (read_outcome bytes)).step) ×
    (m.exit ≡ (heard (seen side p) m.entry (read_outcome bytes)).after)

-- an answer is awaited, from either side
abbrev pub is_waiting : Wait → Bool
is_waiting None = false
is_waiting (Some (side, r)) = true

-- every owner's call is refused 11 for a short run of its own side, then 7 while either side waits; run and held_run are the lengths of what is lent
unfoldable pub owners_refusal : Port → ℕ → ℕ → ℕ
owners_refusal p run held_run = cond (short_runs run held_run) 11 (cond (is_waiting p.wait) 7 0)

-- the laptop of which a side's owner asks something, or what refuses that: then nothing changes
abbrev pub OwnersLaptop : Side → Port → ℕ → ℕ → Result Laptop Refused → Type 0
OwnersLaptop side p run held_run (Ok l) = (owners_refusal p run held_run ≡ 0) × (l ≡ seen side p)
OwnersLaptop side p run held_run (Err r) =
    (number_of r.refusal ≡ owners_refusal p run held_run) × (r.side ≡ side) × (r.port ≡ p)

-- else it is 01's call on its own side
abbrev pub owners_decision : Side → Port → (Laptop → Decision) → ℕ → ℕ → Decision
owners_decision side p decide run held_run = unless (owners_refusal p run held_run) (seen side p) (decide (seen side p))

-- what it promises: the step and the whole output buffer, by what 01's call decides on a laptop, and by what is lent
pub record Owners (side : Side) (p : Port) (decide : Laptop → Decision) (run held_run out : List ℕ) (step : Step) (after : List ℕ) : Type 0 where
  pub step_is : step ≡ stepped_on side p (step_of (seen side p) (owners_decision side p decide (length run) (length held_run)) (length out))
  pub buffer_is : after ≡ buffer_of (owners_decision side p decide (length run) (length held_run)) out

-- a timer or the protocol error is 01's on the side that waits; where none does, on the partner, which awaits nothing: 9
abbrev pub waiting_side : Wait → Side
waiting_side None = Partner
waiting_side (Some (side, r)) = side

abbrev pub concerning : (Laptop → Decision) → Port → Step
concerning decide p =
    stepped_on (waiting_side p.wait) p (step_of (seen (waiting_side p.wait) p) (decide (seen (waiting_side p.wait) p)) 0)
