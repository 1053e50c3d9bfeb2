-- What the link permits, and what each event leads to (01, "The link and the fair dock of demand 3"). An event that is not permitted changes nothing.
use Rattle.std.specs.Prelude.{ℕ, ◌+◌, Bool, true, false, cond, not, ◌&&◌, List, [], ◌∷◌, ltb, eqb, length, take}
use Rattle.messages.specs.Requests.{svids_command, modes_command}
use Rattle.messages.specs.declared.request.Request.{Request}
use Rattle.pages.specs.Pages.{is_last}
use Rattle.dock.specs.Data.{listed}
use Rattle.dock.specs.Dock.{Decision, step_of, buffer_of, is_empty}
use Rattle.dock.specs.declared.Dock.{Dock}
use Rattle.dock.specs.declared.Policy.{Policy}
use Rattle.dock.specs.declared.Policy.TheVariants.{Give, Nak, Busy}
use Rattle.dock.specs.declared.Standing.{Standing}
use Rattle.dock.specs.declared.Standing.TheVariants.{Ready, Asking, Sending}
use Rattle.laptop.specs.Calls.{is_awaiting}
use Rattle.laptop.specs.State.{is_open}
use Rattle.laptop.specs.declared.Laptop.{Laptop}
use Rattle.laptop_laws.specs.Effects.{Call, message, next, start_over, drop, enter, exit, timer, protocol_error, Effect}
use Rattle.laptop_laws.specs.WellFormed.{awaits_identity}
use Rattle.link.specs.Ends.{laptop_does, dock_hears, dock_answers, dock_sent, dock_failed}
use Rattle.link.specs.Joined.{Way, clear, request, Fate, gone, coming, confirmed, came, System, Event, calls, lose_request, reach, answer, lose_answer, arrive, sent, failed}

-- a request goes out with a call that sends it; one not yet at the dock when its wait ends is lost
unfoldable pub way_after : Effect → Way → Way
way_after d way =
    cond (is_awaiting d.step.laptop.wait) (cond (ltb 0 d.step.length) (request (take d.step.length d.buffer)) way) clear

-- messages reach the laptop by the link alone
abbrev pub is_message : Call → Bool
is_message (message bytes) = true
is_message next = false
is_message start_over = false
is_message drop = false
is_message (enter svid position) = false
is_message (exit svid position) = false
is_message (timer first last) = false
is_message protocol_error = false

abbrev pub after_call : Effect → System → System
after_call d s =
    record {
      laptop = d.step.laptop;
      memory = d.after;
      way = way_after d s.way;
      fate = s.fate;
      dock = s.dock;
      highest = s.highest;
      lost = s.lost;
    }

unfoldable pub called : Call → List ℕ → System → System
called c out s = cond (is_message c) s (after_call (laptop_does c s.laptop s.memory out) s)

-- a confirmation is lost once it can be heard no more: of a page before the last that was counted
abbrev pub lost_with : Fate → ℕ → ℕ
lost_with gone lost = lost
lost_with (coming bytes) lost = lost
lost_with (confirmed bytes) lost = lost
lost_with (came true) lost = lost + 1
lost_with (came false) lost = lost

-- the dock answers: what it hands over is on its way
unfoldable pub handed_over : Dock → Decision → List ℕ → Fate → Fate
handed_over d decision out fate =
    cond (ltb 0 (step_of d decision (length out)).length) (coming (take (step_of d decision (length out)).length (buffer_of decision out))) fate

-- a request reaches the dock: no earlier answer arrives any more, and nothing is heard of one. Where the dock has heard "sent", the
-- answer has to arrive first
abbrev pub reached_by : List ℕ → Decision → System → System
reached_by out decision s =
    record {
      laptop = s.laptop;
      memory = s.memory;
      way = clear;
      fate = handed_over s.dock decision out gone;
      dock = (step_of s.dock decision (length out)).dock;
      highest = s.highest;
      lost = lost_with s.fate s.lost;
    }

abbrev pub reaches : List ℕ → Way → Fate → System → System
reaches out clear fate s = s
reaches out (request bytes) gone s = reached_by out (dock_hears s.highest s.dock bytes) s
reaches out (request bytes) (coming a) s = reached_by out (dock_hears s.highest s.dock bytes) s
reaches out (request bytes) (confirmed a) s = s
reaches out (request bytes) (came b) s = reached_by out (dock_hears s.highest s.dock bytes) s

-- policy gives or says BUSY, and says NAK only to SVIDs with an empty list
unfoldable pub is_fair : Policy → Request → List ℕ → Bool
is_fair Give r list = true
is_fair Busy r list = true
is_fair Nak r list = eqb r.command svids_command && is_empty list

-- give brings the SVID's modes for Modes, and no object otherwise
unfoldable pub brought : (ℕ → List ℕ) → Policy → Request → List ℕ
brought modes_of Give r = cond (eqb r.command modes_command) (modes_of r.svid) []
brought modes_of Busy r = []
brought modes_of Nak r = []

abbrev pub answered_by : List ℕ → Decision → System → System
answered_by out offer s =
    record {
      laptop = s.laptop;
      memory = s.memory;
      way = s.way;
      fate = handed_over s.dock offer out s.fate;
      dock = (step_of s.dock offer (length out)).dock;
      highest = s.highest;
      lost = s.lost;
    }

abbrev pub answers : (ℕ → List ℕ) → Policy → List ℕ → Standing → System → System
answers modes_of policy out Ready s = s
answers modes_of policy out (Asking r) s =
    cond (is_fair policy r (listed s.dock))
    (answered_by out (dock_answers s.dock policy r (brought modes_of policy r)) s) s
answers modes_of policy out (Sending is_page) s = s

-- the answer arrives: is it counted, and does its page not end the list. Until it is confirmed, or a later request reaches the dock, the dock's
-- page is the answer's
unfoldable pub is_unsure : Laptop → Laptop → List ℕ → ℕ → Bool
is_unsure before after list page = ltb before.pages after.pages && not (is_last list page)

-- a gathering opens with its Identity ACK
unfoldable pub opens : Laptop → Laptop → Bool
opens before after = awaits_identity before.wait && is_open after.candidate

abbrev pub with_fate : Fate → ℕ → System → System
with_fate fate lost s =
    record { laptop = s.laptop; memory = s.memory; way = s.way; fate = fate; dock = s.dock; highest = s.highest; lost = lost }

abbrev pub arrived_with : List ℕ → System → Effect
arrived_with bytes s = laptop_does (message bytes) s.laptop s.memory []

-- an answer that is not confirmed: the dock may still hear of it while it is sending; if it has heard "failed", the confirmation is lost
abbrev pub fate_on_arrival : Standing → Bool → Fate
fate_on_arrival Ready unsure = gone
fate_on_arrival (Asking r) unsure = gone
fate_on_arrival (Sending is_page) unsure = came unsure

abbrev pub lost_on_arrival : Standing → Bool → ℕ → ℕ
lost_on_arrival Ready unsure lost = lost_with (came unsure) lost
lost_on_arrival (Asking r) unsure lost = lost_with (came unsure) lost
lost_on_arrival (Sending is_page) unsure lost = lost

abbrev pub arrives : Fate → System → System
arrives gone s = s
arrives (came b) s = s
arrives (coming bytes) s =
    after_call (arrived_with bytes s)
    (with_fate (fate_on_arrival s.dock.standing (is_unsure s.laptop (arrived_with bytes s).step.laptop (listed s.dock) s.dock.page))
    (cond (opens s.laptop (arrived_with bytes s).step.laptop) 0
    (lost_on_arrival s.dock.standing (is_unsure s.laptop (arrived_with bytes s).step.laptop (listed s.dock) s.dock.page) s.lost)) s)
arrives (confirmed bytes) s =
    after_call (arrived_with bytes s) (with_fate gone (cond (opens s.laptop (arrived_with bytes s).step.laptop) 0 s.lost) s)

abbrev pub with_dock : Dock → System → System
with_dock d s =
    record { laptop = s.laptop; memory = s.memory; way = s.way; fate = s.fate; dock = d; highest = s.highest; lost = s.lost }

-- the dock hears "sent" at most once, of an answer that has arrived or then has to arrive
abbrev pub hears_sent : Standing → Fate → System → System
hears_sent Ready fate s = s
hears_sent (Asking r) fate s = s
hears_sent (Sending is_page) gone s = s
hears_sent (Sending is_page) (confirmed bytes) s = s
hears_sent (Sending is_page) (coming bytes) s =
    with_dock (step_of s.dock (dock_sent s.dock) 0).dock (with_fate (confirmed bytes) s.lost s)
hears_sent (Sending is_page) (came b) s =
    with_dock (step_of s.dock (dock_sent s.dock) 0).dock (with_fate gone s.lost s)

-- or "failed", of one that has arrived, is on its way or is lost
abbrev pub fate_on_failure : Fate → Fate
fate_on_failure gone = gone
fate_on_failure (coming bytes) = coming bytes
fate_on_failure (confirmed bytes) = confirmed bytes
fate_on_failure (came b) = gone

abbrev pub hears_failed : Standing → System → System
hears_failed Ready s = s
hears_failed (Asking r) s = s
hears_failed (Sending is_page) s =
    with_dock (step_of s.dock (dock_failed s.dock) 0).dock
    (with_fate (fate_on_failure s.fate) (lost_with s.fate s.lost) s)

abbrev pub loses_request : System → System
loses_request s =
    record { laptop = s.laptop; memory = s.memory; way = clear; fate = s.fate; dock = s.dock; highest = s.highest; lost = s.lost }

-- an answer of which the dock has heard "sent" is not lost
abbrev pub loses_answer : Fate → System → System
loses_answer gone s = s
loses_answer (coming bytes) s = with_fate gone s.lost s
loses_answer (confirmed bytes) s = s
loses_answer (came b) s = s

unfoldable pub step : (ℕ → List ℕ) → Event → System → System
step modes_of (calls c out) s = called c out s
step modes_of lose_request s = loses_request s
step modes_of (reach out) s = reaches out s.way s.fate s
step modes_of (answer policy out) s = answers modes_of policy out s.dock.standing s
step modes_of lose_answer s = loses_answer s.fate s
step modes_of arrive s = arrives s.fate s
step modes_of sent s = hears_sent s.dock.standing s.fate s
step modes_of failed s = hears_failed s.dock.standing s

unfoldable pub run : (ℕ → List ℕ) → List Event → System → System
run modes_of [] s = s
run modes_of (e ∷ events) s = run modes_of events (step modes_of e s)
