-- The answers that a gathering needs, told from the dock's identity, list and modes, and those that have come in it. Of the laptop nothing is asked
-- but what it awaits, whether a call sent something, and whether drop was accepted.
use Rattle.std.specs.Prelude.{ℕ, zero, suc, ◌+◌, ◌/◌, Bool, false, cond, not, ◌&&◌, ◌||◌, List, [], ◌∷◌, ◌++◌, leb, ltb, eqb, length, take, Option, Some, None}
use Rattle.messages.specs.Layout.{ack, nak, busy, Message}
use Rattle.messages.specs.Reading.{Outcome, accepted, refused, read_outcome}
use Rattle.messages.specs.Requests.{svids_command, modes_command}
use Rattle.messages.specs.Table.{pd_sid}
use Rattle.pages.specs.Pages.{per_page, page}
use Rattle.taking.specs.Taking.{same_list}
use Rattle.dock.specs.Data.{listed}
use Rattle.dock.specs.Dock.{is_empty, reply}
use Rattle.dock.specs.declared.Dock.{Dock}
use Rattle.gathering.specs.Gathering.{most_pages}
use Rattle.hearing.specs.Hearing.{fits}
use Rattle.owner.specs.Owner.{discover}
use Rattle.laptop.specs.Calls.{is_awaiting}
use Rattle.laptop.specs.State.{identity_request}
use Rattle.messages.specs.declared.request.Request.{Request}
use Rattle.laptop_laws.specs.Effects.{Call, message, next, start_over, drop, enter, exit, timer, protocol_error, Effect}
use Rattle.laptop_laws.specs.WellFormed.{awaits_identity}
use Rattle.link.specs.Ends.{laptop_does}
use Rattle.link.specs.Joined.{Fate, gone, coming, confirmed, came, System, Event, calls, lose_request, reach, answer, lose_answer, arrive, sent, failed}
use Rattle.link.specs.Link.{step}

-- the ACK to Identity
abbrev pub identity_answer : Dock → Message
identity_answer d = reply identity_request ack (take d.extent d.identity)

-- the ACK to SVIDs with page p, and the first k of them
abbrev pub page_answer : List ℕ → ℕ → Message
page_answer list p = reply (discover pd_sid svids_command) ack (page list p)

abbrev pub page_answers : List ℕ → ℕ → List Message
page_answers list zero = []
page_answers list (suc k) = page_answers list k ++ page_answer list k ∷ []

-- the NAK to SVIDs of an empty list
abbrev pub empty_answer : Message
empty_answer = reply (discover pd_sid svids_command) nak []

-- a list of n SVIDs needs n / 12 + 1 pages, and an empty one the NAK
unfoldable pub list_answers : List ℕ → List Message
list_answers list = cond (is_empty list) (empty_answer ∷ []) (page_answers list (length list / per_page + 1))

-- the ACK to Modes of each SVID
abbrev pub modes_answer : (ℕ → List ℕ) → ℕ → Message
modes_answer modes_of svid = reply (discover svid modes_command) ack (modes_of svid)

abbrev pub modes_answers : (ℕ → List ℕ) → List ℕ → List Message
modes_answers modes_of [] = []
modes_answers modes_of (svid ∷ list) = modes_answer modes_of svid ∷ modes_answers modes_of list

-- all the answers that a gathering needs
abbrev pub answers_needed : (ℕ → List ℕ) → Dock → List Message
answers_needed modes_of d = identity_answer d ∷ (list_answers (listed d) ++ modes_answers modes_of (listed d))

-- two messages are the same, in every field and object; nothing that is compared looks at their editions
unfoldable pub same_message : Message → Message → Bool
same_message a b =
    eqb a.head.command b.head.command &&
    (eqb a.head.kind b.head.kind &&
    (eqb a.head.svid b.head.svid && (eqb a.head.position b.head.position && same_list a.objects b.objects)))

abbrev pub has_come : Message → List Message → Bool
has_come m [] = false
has_come m (x ∷ got) = same_message m x || has_come m got

-- how many of these answers have not come
abbrev pub missing : List Message → List Message → ℕ
missing [] got = 0
missing (m ∷ rest) got = cond (has_come m got) 0 1 + missing rest got

-- how many answers a gathering in which these have come still needs
abbrev pub needed : (ℕ → List ℕ) → Dock → List Message → ℕ
needed modes_of d got = missing (answers_needed modes_of d) got

-- the answers that a gathering of n SVIDs needs in all
abbrev pub in_all_of : ℕ → ℕ
in_all_of zero = 2
in_all_of (suc n) = 1 + (suc n / per_page + 1) + suc n

abbrev pub is_page_answer : Message → Bool
is_page_answer m = eqb m.head.command svids_command && eqb m.head.kind ack

-- "received" means counted: a page that comes again is counted again
abbrev pub pages_in : List Message → ℕ
pages_in [] = 0
pages_in (m ∷ got) = cond (is_page_answer m) 1 0 + pages_in got

-- an answer to SVIDs is still needed
unfoldable pub is_listing : List ℕ → List Message → Bool
is_listing list got = ltb 0 (missing (list_answers list) got)

-- two hundred pages without an end
unfoldable pub is_too_many : List ℕ → List Message → Bool
is_too_many list got = leb most_pages (pages_in got) && is_listing list got

-- an awaited answer to Identity, SVIDs or Modes that is not BUSY
unfoldable pub is_answer : Option Request → Message → Bool
is_answer w m = fits w m.head && (leb m.head.command modes_command && not (eqb m.head.kind busy))

-- a page with nothing awaited, while the list is open
unfoldable pub is_late : Option Request → List ℕ → Message → List Message → Bool
is_late w list m got = not (is_awaiting w) && (is_page_answer m && is_listing list got)

-- what has come in this gathering, the newest first, once a message has arrived at a laptop that awaits w
unfoldable pub with_answer : List ℕ → Message → List Message → List Message
with_answer list m got = cond (is_too_many list (m ∷ got)) [] (m ∷ got)

unfoldable pub with_taken : Option Request → List ℕ → Message → List Message → List Message
with_taken w list m got = cond (is_answer w m) (with_answer list m got) (cond (is_late w list m got) [] got)

unfoldable pub with_message : Option Request → List ℕ → Outcome → List Message → List Message
with_message w list (refused number) got = got
with_message w list (accepted e m) got = with_taken w list m got

abbrev pub with_arrival : Option Request → List ℕ → Option (List ℕ) → List Message → List Message
with_arrival w list None got = got
with_arrival w list (Some bytes) got = with_message w list (read_outcome bytes) got

-- Identity goes out with a call: a message is sent, and Identity is awaited
abbrev pub identity_out : Effect → Bool
identity_out d = ltb 0 d.step.length && awaits_identity d.step.laptop.wait

-- a call after which nothing has come: drop that is accepted, or one with which Identity goes out
unfoldable pub begins_anew : Call → Effect → Bool
begins_anew (message bytes) d = false
begins_anew next d = identity_out d
begins_anew start_over d = identity_out d
begins_anew drop d = eqb d.step.refusal 0
begins_anew (enter svid position) d = identity_out d
begins_anew (exit svid position) d = identity_out d
begins_anew (timer first last) d = identity_out d
begins_anew protocol_error d = identity_out d

-- the bytes with which an event comes to the laptop
abbrev pub on_way : Fate → Option (List ℕ)
on_way gone = None
on_way (coming bytes) = Some bytes
on_way (confirmed bytes) = Some bytes
on_way (came b) = None

abbrev pub arriving : Event → Fate → Option (List ℕ)
arriving (calls c out) fate = None
arriving lose_request fate = None
arriving (reach out) fate = None
arriving (answer policy out) fate = None
arriving lose_answer fate = None
arriving arrive fate = on_way fate
arriving sent fate = None
arriving failed fate = None

-- what has come in this gathering, after one event and after a run
unfoldable pub received_by : Event → System → List Message → List Message
received_by (calls c out) s got = cond (begins_anew c (laptop_does c s.laptop s.memory out)) [] got
received_by lose_request s got = got
received_by (reach out) s got = got
received_by (answer policy out) s got = got
received_by lose_answer s got = got
received_by arrive s got = with_arrival s.laptop.wait (listed s.dock) (on_way s.fate) got
received_by sent s got = got
received_by failed s got = got

unfoldable pub received : (ℕ → List ℕ) → List Event → System → List Message → List Message
received modes_of [] s got = got
received modes_of (e ∷ events) s got = received modes_of events (step modes_of e s) (received_by e s got)

-- an answer that arrives and is new: awaited, not BUSY, no page that came before, and not the two hundredth without an end
unfoldable pub is_new : Option Request → List ℕ → Message → List Message → Bool
is_new w list m got = is_answer w m && (not (is_page_answer m && has_come m got) && not (is_too_many list (m ∷ got)))

unfoldable pub new_in : Option Request → List ℕ → Outcome → List Message → Bool
new_in w list (refused number) got = false
new_in w list (accepted e m) got = is_new w list m got

abbrev pub new_of : Option Request → List ℕ → Option (List ℕ) → List Message → Bool
new_of w list None got = false
new_of w list (Some bytes) got = new_in w list (read_outcome bytes) got

abbrev pub brings_new : Event → System → List Message → Bool
brings_new e s got = new_of s.laptop.wait (listed s.dock) (arriving e s.fate) got
