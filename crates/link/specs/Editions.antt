-- 02's R-5 run on the definitions of both ends: what is read of a header's version bits, and the headers that each end sends.
use Rattle.std.specs.Prelude.{ℕ, ◌+◌, List, [], ◌∷◌, ◌++◌, take}
use Rattle.messages.specs.Editions.{ours}
use Rattle.messages.specs.Layout.{message_bytes, bytes_of, objects_of}
use Rattle.messages.specs.Reading.{Outcome, accepted, refused, read_outcome}
use Rattle.messages.specs.Requests.{svids_command}
use Rattle.messages.specs.Table.{pd_sid}
use Rattle.messages.specs.declared.edition.Edition.{Edition}
use Rattle.messages.specs.declared.edition.Edition.TheVariants.{OneZero, TwoZero}
use Rattle.dock.specs.Dock.{Decision, step_of, buffer_of}
use Rattle.dock.specs.declared.Dock.{Dock}
use Rattle.dock.specs.declared.Policy.{Policy}
use Rattle.dock.specs.declared.Policy.TheVariants.{Give, Nak, Busy}
use Rattle.owner.specs.Owner.{discover}
use Rattle.laptop_laws.specs.Effects.{Call, message, next, start_over, drop, enter, exit, timer, protocol_error}
use Rattle.link.specs.Cases.{Case, case, Standing, fresh, by, after, buffer, dock_of, told}
use Rattle.link.specs.Ends.{laptop_does, dock_hears, dock_answers}

-- what is read of a header, and the header that is written of it at its own edition
unfoldable pub read_as : ℕ → List ℕ
read_as header = told (read_outcome (bytes_of (header ∷ [])))

unfoldable pub written_again : Outcome → List ℕ
written_again (accepted e m) = objects_of (message_bytes e m)
written_again (refused number) = []

unfoldable pub again : ℕ → List ℕ
again header = written_again (read_outcome (bytes_of (header ∷ [])))

-- a dock of a highest edition hears a message of one object, with a buffer of so many bytes; and what it sends at once
unfoldable pub heard_by : Edition → ℕ → ℕ → Dock → Dock
heard_by highest room header d = (step_of d (dock_hears highest d (bytes_of (header ∷ []))) room).dock

unfoldable pub sent_by : Dock → Decision → List ℕ
sent_by d x = objects_of (take (step_of d x 28).length (buffer_of x buffer))

unfoldable pub at_once : ℕ → Dock → List ℕ
at_once header d = sent_by d (dock_hears ours d (bytes_of (header ∷ [])))

-- what it sends when policy answers a request for SVIDs
unfoldable pub says : Policy → Dock → List ℕ
says policy d = sent_by d (dock_answers d policy (discover pd_sid svids_command) [])

-- what the laptop sends with each call
unfoldable pub sent_with : List Call → Standing → List (List ℕ)
sent_with [] s = []
sent_with (c ∷ rest) s =
    objects_of (take (laptop_does c s.laptop s.memory buffer).step.length (laptop_does c s.laptop s.memory buffer).buffer) ∷
    sent_with rest (by (laptop_does c s.laptop s.memory buffer))

-- a message of these objects
abbrev pub of : List ℕ → Call
of objects = message (bytes_of objects)

-- READ: the sixteen forms of the version bits, major 0 to 3 with minor 0 to 3 each, of an Identity request
unfoldable pub readings : List Case
readings =
    case
    (read_as 0xFF008001 ∷ read_as 0xFF008801 ∷ read_as 0xFF009001 ∷ read_as 0xFF009801 ∷ read_as 0xFF00A001 ∷ read_as 0xFF00A801 ∷ read_as 0xFF00B001 ∷
    read_as 0xFF00B801 ∷ read_as 0xFF00C001 ∷ read_as 0xFF00C801 ∷ read_as 0xFF00D001 ∷ read_as 0xFF00D801 ∷ read_as 0xFF00E001 ∷ read_as 0xFF00E801 ∷
    read_as 0xFF00F001 ∷ read_as 0xFF00F801 ∷ [])
    ((10 ∷ 0xFF00 ∷ 1 ∷ 0 ∷ 0 ∷ []) ∷ (10 ∷ 0xFF00 ∷ 1 ∷ 0 ∷ 0 ∷ []) ∷ (10 ∷ 0xFF00 ∷ 1 ∷ 0 ∷ 0 ∷ []) ∷ (10 ∷ 0xFF00 ∷ 1 ∷ 0 ∷ 0 ∷ []) ∷
    (20 ∷ 0xFF00 ∷ 1 ∷ 0 ∷ 0 ∷ []) ∷ (21 ∷ 0xFF00 ∷ 1 ∷ 0 ∷ 0 ∷ []) ∷ (21 ∷ 0xFF00 ∷ 1 ∷ 0 ∷ 0 ∷ []) ∷ (21 ∷ 0xFF00 ∷ 1 ∷ 0 ∷ 0 ∷ []) ∷
    (3 ∷ []) ∷ (3 ∷ []) ∷ (3 ∷ []) ∷ (3 ∷ []) ∷ (3 ∷ []) ∷ (3 ∷ []) ∷ (3 ∷ []) ∷ (3 ∷ []) ∷ []) ∷
    -- written again: a read 0.3 as 0.0, a read 1.3 as 1.1, with bit 5 cleared
    case (again 0xFF009821 ∷ again 0xFF00A001 ∷ again 0xFF00A821 ∷ again 0xFF00B801 ∷ [])
    ((0xFF008001 ∷ []) ∷ (0xFF00A001 ∷ []) ∷ (0xFF00A801 ∷ []) ∷ (0xFF00A801 ∷ []) ∷ []) ∷ []

-- THE DOCK answers a request at the request's edition: case 1 at each, ACK, NAK and BUSY, and the NAK to command 8
abbrev pub asked : ℕ → Dock
asked header = heard_by ours 28 header (dock_of 0)

unfoldable pub answering : List Case
answering =
    case (says Give (asked 0xFF008002) ∷ says Give (asked 0xFF00A002) ∷ says Give (asked 0xFF00A802) ∷ says Give (asked 0xFF00B802) ∷ [])
    ((0xFF008082 ∷ []) ∷ (0xFF00A082 ∷ []) ∷ (0xFF00A882 ∷ []) ∷ (0xFF00A882 ∷ []) ∷ []) ∷
    case (says Give (heard_by ours 28 0xFF008002 (dock_of 3)) ∷ says Nak (asked 0xFF008002) ∷ says Busy (asked 0xFF008002) ∷ at_once 0xFF008008 (dock_of 3) ∷ [])
    ((0xFF008042 ∷ 0x00010002 ∷ 0x00030000 ∷ []) ∷ (0xFF008082 ∷ []) ∷ (0xFF0080C2 ∷ []) ∷ (0xFF008088 ∷ []) ∷ []) ∷
    -- of the newest: one that is equal but for its edition replaces the old; what is refused 6, or 11, leaves the old and its edition
    case
    (says Give (heard_by ours 28 0xFF008002 (asked 0xFF00A802)) ∷ says Give (heard_by ours 28 0xFF008082 (asked 0xFF00A802)) ∷
    says Give (heard_by ours 3 0xFF008008 (asked 0xFF00A802)) ∷ [])
    ((0xFF008082 ∷ []) ∷ (0xFF00A882 ∷ []) ∷ (0xFF00A882 ∷ []) ∷ []) ∷
    -- and a dock of a lower edition answers at its own
    case (says Give (heard_by OneZero 28 0xFF00A802 (dock_of 0)) ∷ says Give (heard_by TwoZero 28 0xFF00A802 (dock_of 0)) ∷ says Give (heard_by TwoZero 28 0xFF008002 (dock_of 0)) ∷ [])
    ((0xFF008082 ∷ []) ∷ (0xFF00A082 ∷ []) ∷ (0xFF008082 ∷ []) ∷ []) ∷ []

-- THE LAPTOP asks Identity at 2.1, and all else at the edition of the last Identity ACK that it took
abbrev pub gathers : ℕ → List Call
gathers version =
    next ∷ of ((version + 0x41) ∷ 1 ∷ 2 ∷ 3 ∷ []) ∷ next ∷ of (0xFF00A842 ∷ 0x00010000 ∷ []) ∷ next ∷ of (0x0001A043 ∷ 0x405 ∷ []) ∷ []

-- whatever the edition of the other answers: what it has gathered then, it may enter and exit
abbrev pub modes_used : List Call
modes_used = enter 1 1 ∷ of (0x0001A944 ∷ []) ∷ exit 1 1 ∷ of (0x0001A145 ∷ []) ∷ []

unfoldable pub requesting : List Case
requesting =
    case (sent_with (gathers 0xFF008000 ++ modes_used) fresh)
    ((0xFF00A801 ∷ []) ∷ [] ∷ (0xFF008002 ∷ []) ∷ [] ∷ (0x00018003 ∷ []) ∷ [] ∷ (0x00018104 ∷ []) ∷ [] ∷ (0x00018105 ∷ []) ∷ [] ∷ []) ∷
    case (sent_with (gathers 0xFF00A000 ++ modes_used) fresh)
    ((0xFF00A801 ∷ []) ∷ [] ∷ (0xFF00A002 ∷ []) ∷ [] ∷ (0x0001A003 ∷ []) ∷ [] ∷ (0x0001A104 ∷ []) ∷ [] ∷ (0x0001A105 ∷ []) ∷ [] ∷ []) ∷
    case (sent_with (gathers 0xFF00B000 ++ modes_used) fresh)
    ((0xFF00A801 ∷ []) ∷ [] ∷ (0xFF00A802 ∷ []) ∷ [] ∷ (0x0001A803 ∷ []) ∷ [] ∷ (0x0001A904 ∷ []) ∷ [] ∷ (0x0001A905 ∷ []) ∷ [] ∷ []) ∷
    -- after a NAK, BUSY, the timer or a protocol error for Identity a held mode is entered at 2.1, though that dock said 1.0
    case
    (sent_with (next ∷ of (0xFF008081 ∷ []) ∷ enter 1 1 ∷ []) (after (gathers 0xFF008000) fresh) ++
    sent_with (next ∷ of (0xFF0080C1 ∷ []) ∷ enter 1 1 ∷ []) (after (gathers 0xFF008000) fresh) ++
    sent_with (start_over ∷ timer 1 3 ∷ enter 1 1 ∷ []) (after (gathers 0xFF008000) fresh) ++
    sent_with (start_over ∷ protocol_error ∷ enter 1 1 ∷ []) (after (gathers 0xFF008000) fresh))
    ((0xFF00A801 ∷ []) ∷ [] ∷ (0x0001A904 ∷ []) ∷ (0xFF00A801 ∷ []) ∷ [] ∷ (0x0001A904 ∷ []) ∷ (0xFF00A801 ∷ []) ∷ [] ∷ (0x0001A904 ∷ []) ∷
    (0xFF00A801 ∷ []) ∷ [] ∷ (0x0001A904 ∷ []) ∷ []) ∷
    -- drop, a call that is refused, 8 and a late page change no edition
    case
    (sent_with (next ∷ of (0xFF008041 ∷ 1 ∷ 2 ∷ 3 ∷ []) ∷ next ∷ next ∷ of (0xFF00A842 ∷ 0 ∷ []) ∷ enter 1 1 ∷ []) (after (gathers 0xFF00A000) fresh) ++
    sent_with (next ∷ of (0xFF008041 ∷ 1 ∷ 2 ∷ 3 ∷ []) ∷ of (0xFF00A842 ∷ 0x00010000 ∷ []) ∷ enter 1 1 ∷ []) (after (gathers 0xFF00A000) fresh) ++
    sent_with (next ∷ of (0xFF008041 ∷ 1 ∷ 2 ∷ 3 ∷ []) ∷ drop ∷ enter 1 1 ∷ []) (after (gathers 0xFF00A000) fresh))
    ((0xFF00A801 ∷ []) ∷ [] ∷ (0xFF008002 ∷ []) ∷ [] ∷ [] ∷ (0x00018104 ∷ []) ∷ (0xFF00A801 ∷ []) ∷ [] ∷ [] ∷ (0x00018104 ∷ []) ∷
    (0xFF00A801 ∷ []) ∷ [] ∷ [] ∷ (0x00018104 ∷ []) ∷ []) ∷
    -- nor does a late Identity ACK that is refused 6; one that is taken for a newer Identity counts
    case
    (sent_with (start_over ∷ timer 1 3 ∷ of (0xFF008041 ∷ 1 ∷ 2 ∷ 3 ∷ []) ∷ enter 1 1 ∷ []) (after (gathers 0xFF00A000) fresh) ++
    sent_with (start_over ∷ timer 1 3 ∷ next ∷ of (0xFF008041 ∷ 1 ∷ 2 ∷ 3 ∷ []) ∷ next ∷ []) (after (gathers 0xFF00A000) fresh))
    ((0xFF00A801 ∷ []) ∷ [] ∷ [] ∷ (0x0001A904 ∷ []) ∷ (0xFF00A801 ∷ []) ∷ [] ∷ (0xFF00A801 ∷ []) ∷ [] ∷ (0xFF008002 ∷ []) ∷ []) ∷ []

unfoldable pub edition_cases : List Case
edition_cases = readings ++ answering ++ requesting
