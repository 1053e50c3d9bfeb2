-- Every call of the dock as one definition: what it decides and what it gives back.
use Rattle.std.specs.Prelude.{ℕ, List, [], ◌∷◌, length}
use Rattle.messages.specs.Reading.{read_outcome}
use Rattle.messages.specs.declared.request.Request.{Request}
use Rattle.dock.specs.Data.{with_standing}
use Rattle.dock.specs.Dock.{Decision, step_of, decide_load, decide_message, decide_policy_answer, decide_sent, decide_failed}
use Rattle.dock.specs.declared.Dock.{Dock}
use Rattle.dock.specs.declared.Policy.{Policy}
use Rattle.dock.specs.declared.Standing.TheVariants.{Ready}
use Rattle.dock.specs.Step.{Step}

-- identity objects and SVIDs to load; a message's bytes; policy's answer, the request that it names and the objects that it brings; "sent"; "failed"
pub data Call : Type 0 where
  load : List ℕ → List ℕ → Call
  message : List ℕ → Call
  policy_answer : Policy → Request → List ℕ → Call
  sent : Call
  failed : Call

abbrev pub decision : Call → Dock → Decision
decision (load identity svids) d = decide_load d d.standing identity svids
decision (message bytes) d = decide_message d (read_outcome bytes)
decision (policy_answer policy r objects) d = decide_policy_answer d d.standing policy r objects
decision sent d = decide_sent d d.standing
decision failed d = decide_failed d d.standing

-- a call that is lent no buffer has no room
abbrev pub room_for : Call → List ℕ → ℕ
room_for (load identity svids) out = 0
room_for (message bytes) out = length out
room_for (policy_answer policy r objects) out = length out
room_for sent out = 0
room_for failed out = 0

abbrev pub effect_of : Call → Dock → List ℕ → Step
effect_of c d out = step_of d (decision c d) (room_for c out)

-- after calls, each with an output buffer of its own
abbrev pub dock_after : List (Call × List ℕ) → Dock → Dock
dock_after [] d = d
dock_after (c ∷ rest) d = dock_after rest (effect_of c.0 d c.1).dock

-- the request that waits, or the answer that is sent, has failed: the dock is ready, and nothing moves
abbrev pub as_failed : Dock → Dock
as_failed d = with_standing Ready d
