-- When each refusal number is given (01, "Refusal numbers"): for each call its lines, in 01's words and in 01's order.
use Rattle.std.specs.Prelude.{◌⊎◌, ◌≡◌, true, false, List, [], ◌∷◌, ◌++◌, ℕ, ◌+◌, ◌-◌, ◌/◌, ◌%◌, ◌^◌, ◌<◌, ◌≤◌, length, get_or, Option, Some, None}
use Rattle.messages.specs.Layout.{req, ack, nak, Message}
use Rattle.messages.specs.Reading.{wrong_length, unstructured, wrong_major, wrong_shape, header_in, message_in}
use Rattle.messages.specs.Requests.{svids_command, modes_command, enter_command, exit_command, attention_command}
use Rattle.messages.specs.Table.{pd_sid}
use Rattle.messages.specs.Writing.{well_shaped}
use Rattle.messages.specs.declared.Head.{Head}
use Rattle.messages.specs.declared.request.Request.{Request}
use Rattle.pages.specs.Lists.{most_svids}
use Rattle.pages.specs.Pages.{halves}
use Rattle.taking.specs.Taking.{verdict}
use Rattle.taking.specs.declared.Verdict.TheVariants.{Bad, Ends}
use Rattle.gathering.specs.Gathering.{most_pages}
use Rattle.laptop.specs.Catalogue.{run_words, modes_number, held_list}
use Rattle.laptop.specs.State.{Memory, gathered_list, identity_request}
use Rattle.owner.specs.Owner.{discover, request_message}
use Rattle.laptop.specs.declared.Candidate.{Candidate}
use Rattle.laptop.specs.declared.Candidate.TheVariants.{Absent, Open, Done}
use Rattle.laptop.specs.declared.Laptop.{Laptop}
use Rattle.laptop_laws.specs.Effects.{Call, message, next, start_over, drop, enter, exit, timer, protocol_error}

-- a line: a number, and when it holds
pub record Line : Type 1 where
  pub number : ℕ
  pub holds : Type 0

infix 70 ◌when◌
abbrev pub ◌when◌ : ℕ → Type 0 → Line
number when holds = record { number = number; holds = holds }

-- the number of the first line that holds; 0, which is acceptance, where none does
abbrev pub First : List Line → ℕ → Type 0
First [] number = number ≡ 0
First (line ∷ lines) number = (line.holds × (number ≡ line.number)) ⊎ ((line.holds → ⊥) × First lines number)

-- 11: a lent run under 432 words
abbrev pub ShortRun : Memory → Type 0
ShortRun m = (length m.run < run_words) ⊎ (length m.held_run < run_words)

-- 7: an answer is awaited
abbrev pub Awaits : Laptop → Type 0
Awaits l = l.wait ≡ None → ⊥

abbrev pub owner_lines : Laptop → Memory → List Line
owner_lines l m = 11 when ShortRun m ∷ 7 when Awaits l ∷ []

-- a request is sent last: 5 where the table has no such request, which no run reaches; 11 for a buffer under its four bytes
abbrev pub sending_lines : Request → List ℕ → List Line
sending_lines r out = 5 when (well_shaped (request_message r) ≡ false) ∷ 11 when (length out < 4) ∷ []

-- Identity if no candidate, SVIDs if the list is open, else Modes for the first SVID without modes
abbrev pub next_request : Candidate → Laptop → Memory → Request
next_request Absent l m = identity_request
next_request Open l m = discover pd_sid svids_command
next_request Done l m = discover (get_or m.svids l.stored 0) modes_command

-- a mode is entered: the bit of its position, 1 to 6, is set in the set at its SVID's place
abbrev pub Entered : Memory → ℕ → ℕ → Type 0
Entered m place position = (1 ≤ position) × (position ≤ 6) × (get_or m.entered place 0 / 2 ^ (position - 1) % 2 ≡ 1)

abbrev pub AnyEntered : Memory → Type 0
AnyEntered m = (place : ℕ) × (position : ℕ) × Entered m place position

-- an SVID is held at a place; at the first, should a list have it twice, which no run reaches
abbrev pub HeldAt : Laptop → Memory → ℕ → ℕ → Type 0
HeldAt l m svid place =
    (place < length (held_list l.held m.held_svids)) × (get_or (held_list l.held m.held_svids) place 0 ≡ svid) ×
    ((i : ℕ) → i < place → get_or (held_list l.held m.held_svids) i 0 ≡ svid → ⊥)

-- a position is one of the modes of the SVID at a place
abbrev pub OneOfItsModes : Memory → ℕ → ℕ → Type 0
OneOfItsModes m place position = (1 ≤ position) × (position ≤ modes_number m.held_modes place)

-- enter: 13 if there is a candidate; 12 if the held catalogue lacks that mode; 13 if already entered
abbrev pub enter_lines : Laptop → Memory → ℕ → ℕ → List Line
enter_lines l m svid position =
    13 when (l.candidate ≡ Absent → ⊥) ∷
    12 when ((place : ℕ) × HeldAt l m svid place × OneOfItsModes m place position → ⊥) ∷
    13 when ((place : ℕ) × HeldAt l m svid place × Entered m place position) ∷ []

-- what exit may name: 7, or one of the modes; and it is entered: for 7, any of that SVID
abbrev pub MayExit : Memory → ℕ → ℕ → Type 0
MayExit m place position = (position ≡ 7) ⊎ OneOfItsModes m place position

abbrev pub EnteredAs : Memory → ℕ → ℕ → Type 0
EnteredAs m place position = Entered m place position ⊎ ((position ≡ 7) × ((p : ℕ) × Entered m place p))

-- exit: 12 if the SVID is not held, or the position is neither 7 nor one of its modes; 13 if not entered (for 7: none under that SVID)
abbrev pub exit_lines : Laptop → Memory → ℕ → ℕ → List Line
exit_lines l m svid position =
    12 when ((place : ℕ) × HeldAt l m svid place × MayExit m place position → ⊥) ∷
    13 when ((place : ℕ) × HeldAt l m svid place × EnteredAs m place position → ⊥) ∷ []

-- 9: the right timer is that of the awaited command
abbrev pub RightTimer : ℕ → ℕ → Option Request → Type 0
RightTimer first last None = ⊥
RightTimer first last (Some r) = (first ≤ r.command) × (r.command ≤ last)

-- 1, 2, 3, 5: as reading; 02 has withdrawn 4
abbrev pub reading_lines : List ℕ → List Line
reading_lines bytes =
    1 when (wrong_length (length bytes) ≡ true) ∷
    2 when (unstructured (header_in bytes) ≡ true) ∷
    3 when (wrong_major (header_in bytes) ≡ true) ∷
    5 when (wrong_shape (header_in bytes) (length bytes / 4) ≡ true) ∷ []

-- an answer fits the awaited SVID, command and position
abbrev pub FitsAwaited : Option Request → Head → Type 0
FitsAwaited None h = ⊥
FitsAwaited (Some r) h = (r.svid ≡ h.svid) × (r.command ≡ h.command) × (r.position ≡ h.position)

-- 6: a REQ other than Attention, or an answer not awaited
abbrev pub NotAwaited : Laptop → Head → Type 0
NotAwaited l h =
    ((h.kind ≡ req) × (h.command ≡ attention_command → ⊥)) ⊎ ((h.kind ≡ req → ⊥) × (FitsAwaited l.wait h → ⊥))

abbrev pub IsPage : Head → Type 0
IsPage h = (h.command ≡ svids_command) × (h.kind ≡ ack)

-- 8: a bad page, by what it is to the gathered list
abbrev pub BringsBadPage : Laptop → Memory → Message → Type 0
BringsBadPage l m x = IsPage x.head × (verdict (gathered_list l m.svids) (halves x.objects) ≡ Bad)

-- 8: a NAK that voids: to SVIDs, unless the list is open and nothing is gathered; to Modes
abbrev pub VoidingNak : Laptop → Head → Type 0
VoidingNak l h =
    (h.kind ≡ nak) ×
    (((h.command ≡ svids_command) × ((l.candidate ≡ Open) × (l.gathered.count ≡ 0) → ⊥)) ⊎ (h.command ≡ modes_command))

-- 8: modes for a 73rd SVID, which no run reaches
abbrev pub ModesPastTheLast : Laptop → Head → Type 0
ModesPastTheLast l h = (h.command ≡ modes_command) × (h.kind ≡ ack) × (most_svids ≤ l.stored)

-- 14: the 200th page, or a later one, does not end the list
abbrev pub NoEnd : Laptop → Memory → Message → Type 0
NoEnd l m x =
    IsPage x.head × ((k : ℕ) → verdict (gathered_list l m.svids) (halves x.objects) ≡ Ends k → ⊥) × (most_pages ≤ l.pages + 1)

-- a message that was read: 6, 8, 14
abbrev pub heard_lines : Laptop → Memory → Message → List Line
heard_lines l m x =
    6 when NotAwaited l x.head ∷
    8 when (BringsBadPage l m x ⊎ (VoidingNak l x.head ⊎ ModesPastTheLast l x.head)) ∷
    14 when NoEnd l m x ∷ []

-- the lines of each call
abbrev pub lines : Call → Laptop → Memory → List ℕ → List Line
lines (message bytes) l m out = 11 when ShortRun m ∷ reading_lines bytes ++ heard_lines l m (message_in bytes)
lines next l m out = owner_lines l m ++ 13 when AnyEntered m ∷ sending_lines (next_request l.candidate l m) out
lines start_over l m out = owner_lines l m ++ 13 when AnyEntered m ∷ sending_lines identity_request out
lines drop l m out = owner_lines l m
lines (enter svid position) l m out =
    owner_lines l m ++ enter_lines l m svid position ++ sending_lines (record { svid = svid; command = enter_command; position = position }) out
lines (exit svid position) l m out =
    owner_lines l m ++ exit_lines l m svid position ++ sending_lines (record { svid = svid; command = exit_command; position = position }) out
lines (timer first last) l m out = 9 when (RightTimer first last l.wait → ⊥) ∷ []
lines protocol_error l m out = 9 when (l.wait ≡ None) ∷ []

-- a call is refused by a number: its line is the first that holds; 0: none does
abbrev pub Given : ℕ → Call → Laptop → Memory → List ℕ → Type 0
Given number c l m out = First (lines c l m out) number
