-- How a run over the link is written, and what is seen of it: the start, the view of a system, the events of an exchange, and the runs that give something
-- else than they say.
use Rattle.std.specs.Prelude.{ℕ, ◌+◌, ◌*◌, ◌/◌, ◌%◌, Bool, true, false, cond, ◌&&◌, List, [], ◌∷◌, ◌++◌, Option, Some, None}
use Rattle.messages.specs.Editions.{ours}
use Rattle.pages.specs.Pages.{per_page}
use Rattle.taking.specs.Taking.{same_list}
use Rattle.dock.specs.Data.{loaded, with_page}
use Rattle.dock.specs.declared.Dock.{Dock}
use Rattle.dock.specs.declared.Policy.{Policy}
use Rattle.dock.specs.declared.Policy.TheVariants.{Give}
use Rattle.dock.specs.declared.Standing.{Standing as DockStanding}
use Rattle.dock.specs.declared.Standing.TheVariants.{Ready, Asking, Sending}
use Rattle.laptop.specs.declared.Candidate.{Candidate}
use Rattle.laptop.specs.declared.Candidate.TheVariants.{Absent, Open, Done}
use Rattle.messages.specs.declared.request.Request.{Request}
use Rattle.laptop_laws.specs.Effects.{Call, next, timer, protocol_error}
use Rattle.catalogue.specs.Bytes.{held_catalogue, held_bytes}
use Rattle.link.specs.Cases.{Case, Standing, fresh, after, gathers_old, up_from, buffer, exchange}
use Rattle.link.specs.Demand.{refusal_of}
use Rattle.link.specs.Ends.{laptop_does}
use Rattle.link.specs.Joined.{clear, gone, System, Event, calls, lose_request, reach, answer, lose_answer, arrive, sent, failed}
use Rattle.link.specs.Link.{step, run}
use Rattle.link.specs.Needed.{on_way}

-- THE START. An SVID has one to six modes, no two alike
abbrev pub modes_of : ℕ → List ℕ
modes_of svid = up_from (svid * 0x01000100 + 1) (svid % 6 + 1)

-- a dock with the SVIDs 1, 2, 3 .. n, at rest at its last page
unfoldable pub dock_with : ℕ → Dock
dock_with n = with_page (n / per_page) (loaded ours (0x6C0004B4 ∷ 0 ∷ 0x12345678 ∷ 0xFFFFFFFF ∷ []) (up_from 1 n))

abbrev pub beside : Standing → ℕ → System
beside laptop n = record { laptop = laptop.laptop; memory = laptop.memory; way = clear; fate = gone; dock = dock_with n; highest = ours; lost = 0 }

-- beside it a laptop that holds the old catalogue, with another identity, other SVIDs and other modes
unfoldable pub start : ℕ → System
start n = beside (after gathers_old fresh) n

-- WHAT IS SEEN of a system: the candidate, the pages counted, the confirmations lost, the dock's page, how the dock stands, and the command whose
-- answer the laptop awaits, 0 for none; then the bytes of the held catalogue
abbrev pub none : ℕ
none = 0

abbrev pub open_with : ℕ → ℕ
open_with n = 100 + n

abbrev pub done_with : ℕ → ℕ
done_with n = 200 + n

abbrev pub candidate_seen : Candidate → ℕ → ℕ
candidate_seen Absent n = none
candidate_seen Open n = open_with n
candidate_seen Done n = done_with n

abbrev pub ready : ℕ
ready = 0

abbrev pub asking : ℕ
asking = 1

abbrev pub sending : ℕ
sending = 2

abbrev pub dock_seen : DockStanding → ℕ
dock_seen Ready = ready
dock_seen (Asking r) = asking
dock_seen (Sending is_page) = sending

abbrev pub awaited_in : Option Request → ℕ
awaited_in None = 0
awaited_in (Some r) = r.command

abbrev pub view : ℕ → ℕ → ℕ → ℕ → ℕ → ℕ → List ℕ
view candidate pages lost page standing awaited = candidate ∷ pages ∷ lost ∷ page ∷ standing ∷ awaited ∷ []

unfoldable pub numbers_of : System → List ℕ
numbers_of s =
    view (candidate_seen s.laptop.candidate s.laptop.gathered.count) s.laptop.pages s.lost s.dock.page (dock_seen s.dock.standing)
    (awaited_in s.laptop.wait)

-- f of a list that is computed once, and not as often as f reads it
abbrev pub computed : List ℕ → (List ℕ → List ℕ) → List ℕ
computed [] f = f []
computed (x ∷ list) f = computed list (λ rest. f (x ∷ rest))

-- the bytes of `held_in (held_words s)`
unfoldable pub held : System → List ℕ
held s =
    computed s.memory.held_run
    (λ words. held_bytes (held_catalogue s.laptop.held s.memory.held_identity s.memory.held_svids s.memory.held_modes words))

unfoldable pub seen : System → List (List ℕ)
seen s = numbers_of s ∷ held s ∷ []

-- a system now, and after the events of each further part
unfoldable pub story : List (List Event) → System → List (List ℕ)
story [] s = seen s
story (events ∷ parts) s = seen s ++ story parts (run modes_of events s)

-- from the start with n SVIDs, after these events and after each further part
unfoldable pub ran : ℕ → List Event → List (List Event) → List (List ℕ)
ran n events parts = story parts (run modes_of events (start n))

-- the laptop's refusal number for each event, 0 for one that does not come to it
abbrev pub refusal_by : Event → System → ℕ
refusal_by (calls c out) s = (laptop_does c s.laptop s.memory out).step.refusal
refusal_by lose_request s = 0
refusal_by (reach out) s = 0
refusal_by (answer policy out) s = 0
refusal_by lose_answer s = 0
refusal_by arrive s = refusal_of s (on_way s.fate)
refusal_by sent s = 0
refusal_by failed s = 0

-- the refusal numbers of these events behind those before them, and the system then
unfoldable pub refusals : List Event → List ℕ → System → List (List ℕ)
refusals [] numbers s = numbers ∷ seen s
refusals (e ∷ events) numbers s = refusals events (numbers ++ refusal_by e s ∷ []) (step modes_of e s)

-- from the start with n SVIDs, after the events before: the refusal numbers of these events, and the system then
unfoldable pub refusing : ℕ → List Event → List Event → List (List ℕ)
refusing n before events = refusals events [] (run modes_of before (start n))

-- each of these is seen while a catalogue of these bytes is held
abbrev pub while : List ℕ → List (List ℕ) → List (List ℕ)
while bytes [] = []
while bytes (numbers ∷ rest) = numbers ∷ bytes ∷ while bytes rest

-- the bytes of the dock's catalogue: with no SVID, and with the SVIDs 1 and 2
abbrev pub none_bytes : List ℕ
none_bytes = 4 ∷ 0xB4 ∷ 0x04 ∷ 0x00 ∷ 0x6C ∷ 0 ∷ 0 ∷ 0 ∷ 0 ∷ 0x78 ∷ 0x56 ∷ 0x34 ∷ 0x12 ∷ 0xFF ∷ 0xFF ∷ 0xFF ∷ 0xFF ∷ 0 ∷ []

abbrev pub two_bytes : List ℕ
two_bytes =
    4 ∷ 0xB4 ∷ 0x04 ∷ 0x00 ∷ 0x6C ∷ 0 ∷ 0 ∷ 0 ∷ 0 ∷ 0x78 ∷ 0x56 ∷ 0x34 ∷ 0x12 ∷ 0xFF ∷ 0xFF ∷ 0xFF ∷ 0xFF ∷
    0x10 ∷ 1 ∷ 0 ∷ 0x20 ∷ 1 ∷ 1 ∷ 0 ∷ 1 ∷ 0x20 ∷ 2 ∷ 1 ∷ 0 ∷ 1 ∷
    0x10 ∷ 2 ∷ 0 ∷ 0x20 ∷ 1 ∷ 2 ∷ 0 ∷ 2 ∷ 0x20 ∷ 2 ∷ 2 ∷ 0 ∷ 2 ∷ 0x20 ∷ 3 ∷ 2 ∷ 0 ∷ 2 ∷ 0 ∷ []

-- EVENTS. A call sends a request, and it reaches the dock
abbrev pub asks_by : Call → List Event
asks_by c = calls c buffer ∷ reach buffer ∷ []

-- next sends it, it reaches the dock, and policy answers; or another call, and policy gives
abbrev pub answered_with : Policy → List Event
answered_with policy = calls next buffer ∷ reach buffer ∷ answer policy buffer ∷ []

abbrev pub given_to : Call → List Event
given_to c = calls c buffer ∷ reach buffer ∷ answer Give buffer ∷ []

-- Identity is answered, and page 0 of the list
abbrev pub opens_list : List Event
opens_list = exchange sent

abbrev pub takes_page : List Event
takes_page = opens_list ++ exchange sent

abbrev pub response_timer : Event
response_timer = calls (timer 1 3) []

abbrev pub entry_timer : Event
entry_timer = calls (timer 4 4) []

abbrev pub exit_timer : Event
exit_timer = calls (timer 5 5) []

abbrev pub protocol_errs : Event
protocol_errs = calls protocol_error []

-- the numbers, counted from 1, of the runs that give something else than they say
unfoldable pub same_lists : List (List ℕ) → List (List ℕ) → Bool
same_lists [] [] = true
same_lists [] (b ∷ m) = false
same_lists (a ∷ l) [] = false
same_lists (a ∷ l) (b ∷ m) = same_list a b && same_lists l m

unfoldable pub differing_from : ℕ → List Case → List ℕ
differing_from k [] = []
differing_from k (c ∷ runs) = cond (same_lists c.gives c.says) [] (k ∷ []) ++ differing_from (k + 1) runs

abbrev pub differing : List Case → List ℕ
differing runs = differing_from 1 runs
