-- Document 01's cases 1 to 12, run on the definitions of both ends, as one list; and Case L. Their headers are at 2.0: so are the requests to the dock and the
-- answers to the laptop.
use Rattle.std.specs.Prelude.{ℕ, zero, suc, ◌+◌, List, [], ◌∷◌, ◌++◌, take, replicate, Option, Some, None}
use Rattle.messages.specs.Editions.{ours, edition_number}
use Rattle.messages.specs.Layout.{ack, nak, message_bytes, bytes_of, objects_of}
use Rattle.messages.specs.Reading.{Outcome, accepted, refused, read_outcome}
use Rattle.messages.specs.Requests.{svids_command, modes_command}
use Rattle.messages.specs.Table.{pd_sid}
use Rattle.messages.specs.declared.edition.Edition.TheVariants.{TwoZero}
use Rattle.dock.specs.Data.{loaded}
use Rattle.dock.specs.Dock.{Decision, step_of, buffer_of, reply}
use Rattle.dock.specs.declared.Dock.{Dock}
use Rattle.dock.specs.declared.Policy.TheVariants.{Give}
use Rattle.owner.specs.Owner.{discover, request_message}
use Rattle.laptop.specs.State.{Memory, memory, identity_request, fresh_laptop}
use Rattle.laptop.specs.declared.Size.{Size}
use Rattle.laptop.specs.declared.Laptop.{Laptop}
use Rattle.laptop_laws.specs.Effects.{Call, message, next, Effect}
use Rattle.laptop_laws.specs.Holding.{holding}
use Rattle.catalogue.specs.Bytes.{held_bytes}
use Rattle.link.specs.Demand.{held_in}
use Rattle.link.specs.Exchanges.{exchange_with}
use Rattle.link.specs.Ends.{laptop_does, dock_hears, dock_answers, dock_sent}
use Rattle.link.specs.Joined.{clear, gone, System, Event, sent, failed}
use Rattle.link.specs.Link.{run}

-- the SVIDs 1, 2, 3 .. n
abbrev pub up_from : ℕ → ℕ → List ℕ
up_from k zero = []
up_from k (suc n) = k ∷ up_from (k + 1) n

abbrev pub buffer : List ℕ
buffer = replicate 28 0

-- a dock with these SVIDs
unfoldable pub dock_of : ℕ → Dock
dock_of n = loaded ours (1 ∷ 2 ∷ 3 ∷ []) (up_from 1 n)

-- it is asked for SVIDs at 2.0, policy gives, and "sent" is heard
unfoldable pub asked : Dock → Dock
asked d = (step_of d (dock_hears ours d (message_bytes TwoZero (request_message (discover pd_sid svids_command)))) 28).dock

unfoldable pub offer : Dock → Decision
offer d = dock_answers (asked d) Give (discover pd_sid svids_command) []

unfoldable pub confirmed : Dock → Dock
confirmed d = (step_of d (dock_sent d) 0).dock

unfoldable pub shown : Dock → List ℕ
shown d = objects_of (take (step_of (asked d) (offer d) 28).length (buffer_of (offer d) buffer))

-- the objects of k answers in turn, each confirmed
unfoldable pub answers : ℕ → Dock → List (List ℕ)
answers zero d = []
answers (suc k) d = shown d ∷ answers k (confirmed (step_of (asked d) (offer d) 28).dock)

-- what a message says: its edition's number, SVID, command, type, position and objects, or the refusal number
unfoldable pub told : Outcome → List ℕ
told (refused number) = number ∷ []
told (accepted e m) = edition_number e ∷ m.head.svid ∷ m.head.command ∷ m.head.kind ∷ m.head.position ∷ m.objects

-- a laptop with what it is lent, and the refusal number of its last call
pub record Standing : Type 0 where
  pub laptop : Laptop
  pub memory : Memory
  pub refusal : ℕ

abbrev pub empty_memory : Memory
empty_memory =
    memory (replicate 72 0) (replicate 72 0) (replicate 6 0) (replicate 432 0) (replicate 72 0) (replicate 72 0) (replicate 6 0) (replicate 432 0)
    (replicate 72 0)

abbrev pub fresh : Standing
fresh = record { laptop = fresh_laptop; memory = empty_memory; refusal = 0 }

abbrev pub by : Effect → Standing
by d = record { laptop = d.step.laptop; memory = d.after; refusal = d.step.refusal }

unfoldable pub after : List Call → Standing → Standing
after [] s = s
after (c ∷ rest) s = after rest (by (laptop_does c s.laptop s.memory buffer))

unfoldable pub held_at : Standing → List ℕ
held_at s = held_bytes (held_in (holding s.laptop s.memory))

-- answers to the laptop's requests
abbrev pub identity_ack : Call
identity_ack = message (message_bytes TwoZero (reply identity_request ack (1 ∷ 2 ∷ 3 ∷ [])))

abbrev pub page : List ℕ → Call
page objects = message (message_bytes TwoZero (reply (discover pd_sid svids_command) ack objects))

abbrev pub list_nak : Call
list_nak = message (message_bytes TwoZero (reply (discover pd_sid svids_command) nak []))

abbrev pub modes_ack : ℕ → List ℕ → Call
modes_ack svid objects = message (message_bytes TwoZero (reply (discover svid modes_command) ack objects))

-- the old catalogue: the identity 1, 2, 3, the SVID 0xFF01 with two modes, and the SVID 1 with one
abbrev pub gathers_old : List Call
gathers_old =
    next ∷ identity_ack ∷ next ∷ page (0xFF010001 ∷ 0x00000000 ∷ []) ∷ next ∷ modes_ack 0xFF01 (0x405 ∷ 0x12345678 ∷ []) ∷ next ∷
    modes_ack 1 (0x406 ∷ []) ∷ []

abbrev pub old_bytes : List ℕ
old_bytes =
    3 ∷ 1 ∷ 0 ∷ 0 ∷ 0 ∷ 2 ∷ 0 ∷ 0 ∷ 0 ∷ 3 ∷ 0 ∷ 0 ∷ 0 ∷
    0x10 ∷ 0x01 ∷ 0xFF ∷ 0x20 ∷ 0x05 ∷ 0x04 ∷ 0 ∷ 0 ∷ 0x20 ∷ 0x78 ∷ 0x56 ∷ 0x34 ∷ 0x12 ∷
    0x10 ∷ 0x01 ∷ 0x00 ∷ 0x20 ∷ 0x06 ∷ 0x04 ∷ 0 ∷ 0 ∷ 0 ∷ []

abbrev pub full_page : List ℕ
full_page = 0x00010002 ∷ 0x00030004 ∷ 0x00050006 ∷ 0x00070008 ∷ 0x0009000A ∷ 0x000B000C ∷ []

-- a full page, then NAK
unfoldable pub nak_after_page : Standing
nak_after_page = after (next ∷ identity_ack ∷ next ∷ page full_page ∷ next ∷ list_nak ∷ []) (after gathers_old fresh)

-- both ends over the link: an exchange, and what the dock hears of its answer
abbrev pub exchange : Event → List Event
exchange heard = exchange_with heard buffer

abbrev pub one_mode : ℕ → List ℕ
one_mode svid = svid ∷ []

abbrev pub joined : ℕ → System
joined n = record { laptop = fresh_laptop; memory = empty_memory; way = clear; fate = gone; dock = dock_of n; highest = ours; lost = 0 }

unfoldable pub counts : System → List ℕ
counts s = s.laptop.pages ∷ s.lost ∷ s.laptop.gathered.count ∷ []

pub record Case : Type 0 where
  pub gives : List (List ℕ)
  pub says : List (List ℕ)

abbrev pub case : List (List ℕ) → List (List ℕ) → Case
case gives says = record { gives = gives; says = says }

unfoldable pub cases : List Case
cases =
    case (answers 1 (dock_of 0)) ((0xFF00A082 ∷ []) ∷ []) ∷
    case (answers 1 (dock_of 3)) ((0xFF00A042 ∷ 0x00010002 ∷ 0x00030000 ∷ []) ∷ []) ∷
    case (answers 1 (dock_of 4)) ((0xFF00A042 ∷ 0x00010002 ∷ 0x00030004 ∷ 0x00000000 ∷ []) ∷ []) ∷
    case (answers 1 (dock_of 10))
    ((0xFF00A042 ∷ 0x00010002 ∷ 0x00030004 ∷ 0x00050006 ∷ 0x00070008 ∷ 0x0009000A ∷ 0x00000000 ∷ []) ∷ []) ∷
    case (answers 1 (dock_of 11))
    ((0xFF00A042 ∷ 0x00010002 ∷ 0x00030004 ∷ 0x00050006 ∷ 0x00070008 ∷ 0x0009000A ∷ 0x000B0000 ∷ []) ∷ []) ∷
    case (answers 2 (dock_of 12)) ((0xFF00A042 ∷ full_page) ∷ (0xFF00A042 ∷ 0x00000000 ∷ []) ∷ []) ∷
    case (answers 2 (dock_of 13)) ((0xFF00A042 ∷ full_page) ∷ (0xFF00A042 ∷ 0x000D0000 ∷ []) ∷ []) ∷
    case (answers 8 (dock_of 72))
    ((0xFF00A042 ∷ full_page) ∷
    (0xFF00A042 ∷ 0x000D000E ∷ 0x000F0010 ∷ 0x00110012 ∷ 0x00130014 ∷ 0x00150016 ∷ 0x00170018 ∷ []) ∷
    (0xFF00A042 ∷ 0x0019001A ∷ 0x001B001C ∷ 0x001D001E ∷ 0x001F0020 ∷ 0x00210022 ∷ 0x00230024 ∷ []) ∷
    (0xFF00A042 ∷ 0x00250026 ∷ 0x00270028 ∷ 0x0029002A ∷ 0x002B002C ∷ 0x002D002E ∷ 0x002F0030 ∷ []) ∷
    (0xFF00A042 ∷ 0x00310032 ∷ 0x00330034 ∷ 0x00350036 ∷ 0x00370038 ∷ 0x0039003A ∷ 0x003B003C ∷ []) ∷
    (0xFF00A042 ∷ 0x003D003E ∷ 0x003F0040 ∷ 0x00410042 ∷ 0x00430044 ∷ 0x00450046 ∷ 0x00470048 ∷ []) ∷
    (0xFF00A042 ∷ 0x00000000 ∷ []) ∷ (0xFF00A042 ∷ 0x00000000 ∷ []) ∷ []) ∷
    case (told (read_outcome (bytes_of (0xFF01A104 ∷ []))) ∷ []) ((20 ∷ 0xFF01 ∷ 4 ∷ 0 ∷ 1 ∷ []) ∷ []) ∷
    case (((after (next ∷ identity_ack ∷ next ∷ page (0x00010000 ∷ 0x00020000 ∷ []) ∷ []) fresh).refusal ∷ []) ∷ []) ((8 ∷ []) ∷ []) ∷
    case (counts (run one_mode (exchange sent ++ exchange failed ++ exchange sent ++ exchange sent) (joined 13)) ∷ []) ((3 ∷ 1 ∷ 13 ∷ []) ∷ []) ∷
    case ((nak_after_page.refusal ∷ []) ∷ held_at (after gathers_old fresh) ∷ held_at nak_after_page ∷ []) ((8 ∷ []) ∷ old_bytes ∷ old_bytes ∷ []) ∷ []

-- Case L: for each event the refusal, the header sent, the page count and the number of held SVIDs; then the catalogue's 22 bytes
abbrev pub held_number : Option Size → List ℕ
held_number None = []
held_number (Some size) = size.count ∷ []

unfoldable pub line : Effect → List (List ℕ)
line d =
    (d.step.refusal ∷ []) ∷ objects_of (take d.step.length d.buffer) ∷ (d.step.laptop.pages ∷ []) ∷ held_number d.step.laptop.held ∷ []

unfoldable pub lines : List Call → Standing → List (List ℕ)
lines [] s = held_at s ∷ []
lines (c ∷ rest) s = line (laptop_does c s.laptop s.memory buffer) ++ lines rest (by (laptop_does c s.laptop s.memory buffer))

abbrev pub bytes_l : List ℕ
bytes_l = 3 ∷ 1 ∷ 0 ∷ 0 ∷ 0 ∷ 2 ∷ 0 ∷ 0 ∷ 0 ∷ 3 ∷ 0 ∷ 0 ∷ 0 ∷ 0x10 ∷ 0x01 ∷ 0xFF ∷ 0x20 ∷ 0x05 ∷ 0x04 ∷ 0 ∷ 0 ∷ 0 ∷ []

unfoldable pub case_l : List Case
case_l =
    case
    (lines
    (next ∷ identity_ack ∷ next ∷ message (bytes_of (0xFF00A042 ∷ 0xFF010000 ∷ [])) ∷ next ∷ message (bytes_of (0xFF01A043 ∷ 0x00000405 ∷ [])) ∷ []) fresh)
    ((0 ∷ []) ∷ (0xFF00A801 ∷ []) ∷ (0 ∷ []) ∷ [] ∷
    (0 ∷ []) ∷ [] ∷ (0 ∷ []) ∷ [] ∷
    (0 ∷ []) ∷ (0xFF00A002 ∷ []) ∷ (0 ∷ []) ∷ [] ∷
    (0 ∷ []) ∷ [] ∷ (1 ∷ []) ∷ [] ∷
    (0 ∷ []) ∷ (0xFF01A003 ∷ []) ∷ (1 ∷ []) ∷ [] ∷
    (0 ∷ []) ∷ [] ∷ (1 ∷ []) ∷ (1 ∷ []) ∷ bytes_l ∷ []) ∷ []

abbrev pub given : List Case → List (List (List ℕ))
given [] = []
given (c ∷ list) = c.gives ∷ given list

abbrev pub said : List Case → List (List (List ℕ))
said [] = []
said (c ∷ list) = c.says ∷ said list
