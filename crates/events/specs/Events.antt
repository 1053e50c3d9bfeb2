-- Laptop events as bytes: one byte of kind, then a body whose length the kind fixes (01, "Catalogue bytes and the watcher program"; 02, R-4).
use Rattle.std.specs.Prelude.{ℕ, ◌+◌, ◌-◌, ◌*◌, ◌^◌, Bool, cond, ◌&&◌, ◌||◌, List, [], ◌∷◌, leb, eqb, length, get_or, Result, Ok, Err}
use Rattle.port.specs.declared.Side.{Side}
use Rattle.port.specs.declared.Side.TheVariants.{Partner, Cable}
use Rattle.events.specs.declared.Call.{Call}
use Rattle.events.specs.declared.Call.TheVariants.{Next, StartOver, Drop, ResponseTimer, EntryTimer, ExitTimer, ProtocolError, Enter, Exit}
use Rattle.events.specs.declared.Event.{Event}
use Rattle.events.specs.declared.Event.TheVariants.{Message}
use Rattle.events.specs.declared.Event.TheVariants.{Call as EventCall}
use Rattle.events.specs.declared.Missing.{Missing}
use Rattle.events.specs.declared.Missing.TheVariants.{Unknown, Cut, Nothing}
use Rattle.events.specs.declared.Mode.{Mode}

-- the partner's kinds: 0x01..0x07 a message of that many objects
unfoldable pub is_message : ℕ → Bool
is_message kind = leb 0x01 kind && leb kind 0x07

-- 0x47 enter and 0x48 exit
unfoldable pub names_mode : ℕ → Bool
names_mode kind = leb 0x47 kind && leb kind 0x48

-- and 0x40 to 0x42 without a body: those that say a side
unfoldable pub says_side : ℕ → Bool
says_side kind = is_message kind || ((leb 0x40 kind && leb kind 0x42) || names_mode kind)

-- and 0x43 to 0x46, the timers and the protocol error, which say none
unfoldable pub is_partners : ℕ → Bool
is_partners kind = says_side kind || (leb 0x43 kind && leb kind 0x46)

-- a cable's kind is a partner's kind that says a side, with 0x80 added
unfoldable pub side_of : ℕ → Side
side_of kind = cond (leb 0x80 kind) Cable Partner

unfoldable pub without_side : ℕ → ℕ
without_side kind = cond (leb 0x80 kind) (kind - 0x80) kind

unfoldable pub is_known : ℕ → Bool
is_known kind = cond (leb 0x80 kind) (says_side (without_side kind)) (is_partners kind)

-- 4 bytes an object; 3 bytes
unfoldable pub partners_length : ℕ → ℕ
partners_length kind = cond (is_message kind) (kind * 4) (cond (names_mode kind) 3 0)

unfoldable pub body_length : ℕ → ℕ
body_length kind = partners_length (without_side kind)

-- SVID (low byte first) then position
unfoldable pub mode_in : List ℕ → Mode
mode_in body = record { svid = get_or body 0 0 + get_or body 1 0 * 2 ^ 8; position = get_or body 2 0 }

-- 0x40 next; 0x41 start over; 0x42 drop; 0x43, 0x44, 0x45 response, entry, exit timer; 0x47 enter; 0x48 exit; and 0x46 protocol error
unfoldable pub call_of : ℕ → List ℕ → Call
call_of kind body =
    cond (eqb kind 0x40) Next
    (cond (eqb kind 0x41) StartOver
    (cond (eqb kind 0x42) Drop
    (cond (eqb kind 0x43) ResponseTimer
    (cond (eqb kind 0x44) EntryTimer
    (cond (eqb kind 0x45) ExitTimer
    (cond (eqb kind 0x47) (Enter (mode_in body))
    (cond (eqb kind 0x48) (Exit (mode_in body)) ProtocolError)))))))

-- the event of a partner's kind, on a side
unfoldable pub event_on : Side → ℕ → List ℕ → Event
event_on side kind body = cond (is_message kind) (Message side kind) (EventCall side (call_of kind body))

-- the event of a known kind
unfoldable pub event_of : ℕ → List ℕ → Event
event_of kind body = event_on (side_of kind) (without_side kind) body

-- what stands first among bytes: a whole event and the number of its bytes, or an unknown kind, a cut body, or nothing
unfoldable pub event_in : List ℕ → Result (Event × ℕ) Missing
event_in [] = Err Nothing
event_in (kind ∷ rest) =
    cond (is_known kind)
    (cond (leb (body_length kind) (length rest)) (Ok (event_of kind rest, 1 + body_length kind)) (Err Cut))
    (Err Unknown)
