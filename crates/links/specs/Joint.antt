-- The port, two links, and a dock at the far end of each: the port partner's, and the cable (02, R-4).
use Rattle.std.specs.Prelude.{ℕ, Bool, true, false, cond, not, ◌||◌, List, [], ◌∷◌}
use Rattle.messages.specs.declared.edition.Edition.{Edition}
use Rattle.dock.specs.declared.Dock.{Dock}
use Rattle.dock.specs.declared.Policy.{Policy}
use Rattle.laptop.specs.State.{Memory}
use Rattle.port.specs.Calls.{is_waiting}
use Rattle.port.specs.Sides.{Wait, seen, put_back}
use Rattle.port.specs.declared.Port.{Port}
use Rattle.port.specs.declared.Side.{Side}
use Rattle.port.specs.declared.Side.TheVariants.{Partner, Cable}
use Rattle.port_laws.specs.Effects.{Call, message, next, start_over, drop, enter, exit, timer, protocol_error, concerns, Effect, effect_seen, Kept, effect_in}
use Rattle.port_laws.specs.Leaving.{is_blocked}
use Rattle.link.specs.Joined.{Way, Fate, System}
use Rattle.link.specs.Joined.{Event as LinkEvent}
use Rattle.link.specs.Joined.{lose_request as link_lose_request}
use Rattle.link.specs.Joined.{reach as link_reach}
use Rattle.link.specs.Joined.{answer as link_answer}
use Rattle.link.specs.Joined.{lose_answer as link_lose_answer}
use Rattle.link.specs.Joined.{arrive as link_arrive}
use Rattle.link.specs.Joined.{sent as link_sent}
use Rattle.link.specs.Joined.{failed as link_failed}
use Rattle.link.specs.Link.{after_call}
use Rattle.link.specs.Link.{step as link_step}

-- what a side has to itself: what is lent to it, its link, its dock with its highest edition, and how many confirmations were lost in its gathering on pages before the last
pub record FarEnd : Type 0 where
  pub memory : Memory
  pub way : Way
  pub fate : Fate
  pub dock : Dock
  pub highest : Edition
  pub lost : ℕ

pub record Joint : Type 0 where
  pub port : Port
  pub partner : FarEnd
  pub cable : FarEnd

abbrev pub far_end : Side → Joint → FarEnd
far_end Partner j = j.partner
far_end Cable j = j.cable

-- the laptop, link and dock of 01 that a side sees
abbrev pub system_with : Side → Port → FarEnd → System
system_with side p far =
    record { laptop = seen side p; memory = far.memory; way = far.way; fate = far.fate; dock = far.dock; highest = far.highest; lost = far.lost }

abbrev pub system_seen : Side → Joint → System
system_seen side j = system_with side j.port (far_end side j)

abbrev pub far_end_in : System → FarEnd
far_end_in s = record { memory = s.memory; way = s.way; fate = s.fate; dock = s.dock; highest = s.highest; lost = s.lost }

-- one side with its link and dock become others; the other side keeps its own
abbrev pub joined : Side → Port → FarEnd → Joint → Joint
joined Partner p far j = record { port = p; partner = far; cable = j.cable }
joined Cable p far j = record { port = p; partner = j.partner; cable = far }

-- the port, and what is lent to each side
abbrev pub kept_in_of : Joint → Kept
kept_in_of j = record { port = j.port; partner = j.partner.memory; cable = j.cable.memory }

-- what may happen: a call of the port, or what 01's link has, on a side's
pub data Event : Type 0 where
  calls : Call → List ℕ → Event
  lose_request : Side → Event
  reach : Side → List ℕ → Event
  answer : Side → Policy → List ℕ → Event
  lose_answer : Side → Event
  arrive : Side → Event
  sent : Side → Event
  failed : Side → Event

-- messages reach the port by a link alone
abbrev pub is_message : Call → Bool
is_message (message side bytes) = true
is_message (next side) = false
is_message (start_over side) = false
is_message (drop side) = false
is_message (enter side svid position) = false
is_message (exit side svid position) = false
is_message (timer first last) = false
is_message protocol_error = false

-- a timer or the protocol error with nothing awaited
abbrev pub is_idle : Call → Wait → Bool
is_idle (message side bytes) w = false
is_idle (next side) w = false
is_idle (start_over side) w = false
is_idle (drop side) w = false
is_idle (enter side svid position) w = false
is_idle (exit side svid position) w = false
is_idle (timer first last) w = not (is_waiting w)
is_idle protocol_error w = not (is_waiting w)

-- those, and calls refused 7 because the other side waits, change nothing
abbrev pub is_unheard : Call → Joint → Bool
is_unheard c j = is_message c || (is_idle c j.port.wait || is_blocked (concerns c j.port.wait) c (kept_in_of j))

abbrev pub called_on : Side → Effect → Joint → Joint
called_on side e j = joined side e.step.port (far_end_in (after_call (effect_seen side e) (system_seen side j))) j

unfoldable pub called : Call → List ℕ → Joint → Joint
called c out j = cond (is_unheard c j) j (called_on (concerns c j.port.wait) (effect_in c out (kept_in_of j)) j)

-- an event of 01's link, on a side's: what arrives is a message of the port's on that side
abbrev pub on_link : (ℕ → List ℕ) → Side → LinkEvent → Joint → Joint
on_link modes_of side e j =
    joined side (put_back side (link_step modes_of e (system_seen side j)).laptop j.port) (far_end_in (link_step modes_of e (system_seen side j))) j

-- each dock has modes of its own
unfoldable pub step : (Side → ℕ → List ℕ) → Event → Joint → Joint
step modes_of (calls c out) j = called c out j
step modes_of (lose_request side) j = on_link (modes_of side) side link_lose_request j
step modes_of (reach side out) j = on_link (modes_of side) side (link_reach out) j
step modes_of (answer side policy out) j = on_link (modes_of side) side (link_answer policy out) j
step modes_of (lose_answer side) j = on_link (modes_of side) side link_lose_answer j
step modes_of (arrive side) j = on_link (modes_of side) side link_arrive j
step modes_of (sent side) j = on_link (modes_of side) side link_sent j
step modes_of (failed side) j = on_link (modes_of side) side link_failed j

unfoldable pub run : (Side → ℕ → List ℕ) → List Event → Joint → Joint
run modes_of [] j = j
run modes_of (e ∷ events) j = run modes_of events (step modes_of e j)
