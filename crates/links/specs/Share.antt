-- A side's share of what happens: a run of 01's one link (02, R-4).
use Rattle.std.specs.Prelude.{ℕ, Bool, cond, not, ◌||◌, List, [], ◌∷◌, Some, None}
use Rattle.laptop_laws.specs.Effects.{Call as LaptopCall}
use Rattle.laptop_laws.specs.Effects.{message as laptop_message}
use Rattle.laptop_laws.specs.Effects.{next as laptop_next}
use Rattle.laptop_laws.specs.Effects.{start_over as laptop_start_over}
use Rattle.laptop_laws.specs.Effects.{drop as laptop_drop}
use Rattle.laptop_laws.specs.Effects.{enter as laptop_enter}
use Rattle.laptop_laws.specs.Effects.{exit as laptop_exit}
use Rattle.laptop_laws.specs.Effects.{timer as laptop_timer}
use Rattle.laptop_laws.specs.Effects.{protocol_error as laptop_protocol_error}
use Rattle.port.specs.Sides.{Wait, same_side}
use Rattle.port.specs.declared.Side.{Side}
use Rattle.port_laws.specs.Effects.{Call, message, next, start_over, drop, enter, exit, timer, protocol_error, one_sided}
use Rattle.port_laws.specs.Leaving.{is_left_out}
use Rattle.link.specs.Exchanges.{exchange, times}
use Rattle.link.specs.Joined.{Event as LinkEvent}
use Rattle.link.specs.Joined.{calls as link_calls}
use Rattle.link.specs.Joined.{lose_request as link_lose_request}
use Rattle.link.specs.Joined.{reach as link_reach}
use Rattle.link.specs.Joined.{answer as link_answer}
use Rattle.link.specs.Joined.{lose_answer as link_lose_answer}
use Rattle.link.specs.Joined.{arrive as link_arrive}
use Rattle.link.specs.Joined.{sent as link_sent}
use Rattle.link.specs.Joined.{failed as link_failed}
use Rattle.links.specs.Joint.{Joint, kept_in_of, Event, calls, lose_request, reach, answer, lose_answer, arrive, sent, failed, is_idle, step}

-- the event of 01 that a side's is
abbrev pub one_sided_event : Event → LinkEvent
one_sided_event (calls c out) = link_calls (one_sided c) out
one_sided_event (lose_request side) = link_lose_request
one_sided_event (reach side out) = link_reach out
one_sided_event (answer side policy out) = link_answer policy out
one_sided_event (lose_answer side) = link_lose_answer
one_sided_event (arrive side) = link_arrive
one_sided_event (sent side) = link_sent
one_sided_event (failed side) = link_failed

-- not the side's: an event of the other side or on its link, a call refused 7 because the other waits, a timer or protocol error while this side does not wait
abbrev pub is_away : Side → Event → Joint → Bool
is_away side (calls c out) j = is_left_out side c (kept_in_of j) || is_idle c j.port.wait
is_away side (lose_request s) j = not (same_side s side)
is_away side (reach s out) j = not (same_side s side)
is_away side (answer s policy out) j = not (same_side s side)
is_away side (lose_answer s) j = not (same_side s side)
is_away side (arrive s) j = not (same_side s side)
is_away side (sent s) j = not (same_side s side)
is_away side (failed s) j = not (same_side s side)

-- the side's share of a run
unfoldable pub share : (Side → ℕ → List ℕ) → Side → List Event → Joint → List LinkEvent
share modes_of side [] j = []
share modes_of side (e ∷ events) j =
    cond (is_away side e j) (share modes_of side events (step modes_of e j)) (one_sided_event e ∷ share modes_of side events (step modes_of e j))

-- a run of 01's one link, on a side's
abbrev pub call_on : Side → LaptopCall → Call
call_on side (laptop_message bytes) = message side bytes
call_on side laptop_next = next side
call_on side laptop_start_over = start_over side
call_on side laptop_drop = drop side
call_on side (laptop_enter svid position) = enter side svid position
call_on side (laptop_exit svid position) = exit side svid position
call_on side (laptop_timer first last) = timer first last
call_on side laptop_protocol_error = protocol_error

abbrev pub event_on : Side → LinkEvent → Event
event_on side (link_calls c out) = calls (call_on side c) out
event_on side link_lose_request = lose_request side
event_on side (link_reach out) = reach side out
event_on side (link_answer policy out) = answer side policy out
event_on side link_lose_answer = lose_answer side
event_on side link_arrive = arrive side
event_on side link_sent = sent side
event_on side link_failed = failed side

abbrev pub events_on : Side → List LinkEvent → List Event
events_on side [] = []
events_on side (e ∷ events) = event_on side e ∷ events_on side events

-- so many exchanges of a side, and what ends any wait, hears what still arrives and drops the side's candidate
abbrev pub exchanges_on : Side → ℕ → List ℕ → List Event
exchanges_on side n out = events_on side (times n (exchange out))

abbrev pub to_rest_on : Side → Wait → List Event
to_rest_on side None = arrive side ∷ calls (drop side) [] ∷ []
to_rest_on side (Some (named, r)) = calls protocol_error [] ∷ arrive side ∷ calls (drop side) [] ∷ []
