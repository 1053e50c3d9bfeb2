-- Histories of both sides, with what each call gives: 02's sentences on R-4 and R-5, run on the definitions.
use Rattle.std.specs.Prelude.{ℕ, ◌+◌, List, [], ◌∷◌, take, replicate, Option, Some, None}
use Rattle.messages.specs.Layout.{bytes_of, objects_of}
use Rattle.laptop.specs.State.{Memory, memory}
use Rattle.laptop.specs.declared.Size.{Size}
use Rattle.port.specs.Sides.{own_of, fresh_port}
use Rattle.port.specs.declared.Side.{Side}
use Rattle.port.specs.declared.Side.TheVariants.{Partner, Cable}
use Rattle.port_laws.specs.Effects.{Call, message, next, start_over, drop, enter, exit, timer, protocol_error, concerns, Effect, Kept, effect_in, kept_by_of}

-- a fresh port, each side lent runs of so many words
abbrev pub memory_with : ℕ → Memory
memory_with words =
    memory (replicate 72 0) (replicate 72 0) (replicate 6 0) (replicate words 0) (replicate 72 0) (replicate 72 0) (replicate 6 0) (replicate words 0)
    (replicate 72 0)

abbrev pub fresh_with : ℕ → ℕ → Kept
fresh_with partner cable = record { port = fresh_port; partner = memory_with partner; cable = memory_with cable }

abbrev pub buffer : List ℕ
buffer = replicate 4 0

-- a message of these objects
abbrev pub says : Side → List ℕ → Call
says side objects = message side (bytes_of objects)

-- a line of the watcher: the refusal; of the side whose line it is, the partner for a timer, the page count, and 1 more than the SVIDs held, 0 for nothing;
-- and the objects sent
abbrev pub held_seen : Option Size → ℕ
held_seen None = 0
held_seen (Some size) = size.count + 1

abbrev pub line_of : Call → Effect → List ℕ
line_of c e =
    e.step.refusal ∷ (own_of (concerns c None) e.step.port).pages ∷ held_seen (own_of (concerns c None) e.step.port).held ∷
    objects_of (take e.step.length e.buffer)

unfoldable pub lines_from : List Call → Kept → List (List ℕ)
lines_from [] k = []
lines_from (c ∷ rest) k = line_of c (effect_in c buffer k) ∷ lines_from rest (kept_by_of c buffer k)

-- an exchange for each answer: Identity, a page of one SVID that ends the list, and its one mode; all at 2.0
abbrev pub identity_ack : List ℕ
identity_ack = 0xFF00A041 ∷ 1 ∷ 2 ∷ 3 ∷ []

abbrev pub response_timer : Call
response_timer = timer 1 3

-- Case L on the cable while the partner's list is open. Meanwhile: "refusal 7 depends on both"; "6 is also given to an answer from the side that is not
-- awaited", here a NAK that fits what the other side awaits; "a timer concerns the side that waits", and the partner's gathering goes on where it stood
unfoldable pub interleaved : List (List ℕ)
interleaved =
    lines_from
    (next Partner ∷ says Partner identity_ack ∷ next Cable ∷ says Cable identity_ack ∷ next Cable ∷ next Partner ∷ says Partner (0xFF00A082 ∷ []) ∷
    says Cable (0xFF00A042 ∷ 0xFF010000 ∷ []) ∷ next Cable ∷ response_timer ∷ next Cable ∷ says Cable (0xFF01A043 ∷ 0x405 ∷ []) ∷ next Partner ∷ drop Cable ∷
    says Partner (0xFF00A042 ∷ 0x00020000 ∷ []) ∷ next Partner ∷ says Partner (0x0002A043 ∷ 0x401 ∷ []) ∷ response_timer ∷ [])
    (fresh_with 432 432)

abbrev pub interleaved_said : List (List ℕ)
interleaved_said =
    (0 ∷ 0 ∷ 0 ∷ 0xFF00A801 ∷ []) ∷ (0 ∷ 0 ∷ 0 ∷ []) ∷ (0 ∷ 0 ∷ 0 ∷ 0xFF00A801 ∷ []) ∷ (0 ∷ 0 ∷ 0 ∷ []) ∷ (0 ∷ 0 ∷ 0 ∷ 0xFF00A002 ∷ []) ∷ (7 ∷ 0 ∷ 0 ∷ []) ∷
    (6 ∷ 0 ∷ 0 ∷ []) ∷ (0 ∷ 1 ∷ 0 ∷ []) ∷ (0 ∷ 1 ∷ 0 ∷ 0xFF01A003 ∷ []) ∷ (0 ∷ 0 ∷ 0 ∷ []) ∷ (0 ∷ 1 ∷ 0 ∷ 0xFF01A003 ∷ []) ∷ (0 ∷ 1 ∷ 2 ∷ []) ∷
    (0 ∷ 0 ∷ 0 ∷ 0xFF00A002 ∷ []) ∷ (7 ∷ 1 ∷ 2 ∷ []) ∷ (0 ∷ 1 ∷ 0 ∷ []) ∷ (0 ∷ 1 ∷ 0 ∷ 0x0002A003 ∷ []) ∷ (0 ∷ 1 ∷ 2 ∷ []) ∷ (9 ∷ 1 ∷ 2 ∷ []) ∷ []

-- "dropping asks that nothing is awaited from that side": a page of the partner's while the cable waits is 6 and drops the open list, so that the partner
-- begins anew with Identity; the cable's wait stands
unfoldable pub late_page : List (List ℕ)
late_page =
    lines_from
    (next Partner ∷ says Partner identity_ack ∷ next Cable ∷ says Partner (0xFF00A042 ∷ 0x00020000 ∷ []) ∷ says Cable identity_ack ∷ next Partner ∷ [])
    (fresh_with 432 432)

abbrev pub late_page_said : List (List ℕ)
late_page_said =
    (0 ∷ 0 ∷ 0 ∷ 0xFF00A801 ∷ []) ∷ (0 ∷ 0 ∷ 0 ∷ []) ∷ (0 ∷ 0 ∷ 0 ∷ 0xFF00A801 ∷ []) ∷ (6 ∷ 0 ∷ 0 ∷ []) ∷ (0 ∷ 0 ∷ 0 ∷ []) ∷
    (0 ∷ 0 ∷ 0 ∷ 0xFF00A801 ∷ []) ∷ []

-- "each side has its own two lent runs": with a short run of the partner's the partner's calls are 11, before 7 too, and the cable's are not
unfoldable pub short_run : List (List ℕ)
short_run = lines_from (drop Partner ∷ next Cable ∷ next Partner ∷ next Cable ∷ []) (fresh_with 431 432)

abbrev pub short_run_said : List (List ℕ)
short_run_said = (11 ∷ 0 ∷ 0 ∷ []) ∷ (0 ∷ 0 ∷ 0 ∷ 0xFF00A801 ∷ []) ∷ (11 ∷ 0 ∷ 0 ∷ []) ∷ (7 ∷ 0 ∷ 0 ∷ []) ∷ []

-- "entered modes block discovery only on their own side", and enter asks its own side's candidate: a mode of the cable is entered, next for the cable is 13
-- and for the partner is not; while the partner has a candidate the cable's mode is exited, and entered again
unfoldable pub modes_entered : List (List ℕ)
modes_entered =
    lines_from
    (next Cable ∷ says Cable identity_ack ∷ next Cable ∷ says Cable (0xFF00A042 ∷ 0xFF010000 ∷ []) ∷ next Cable ∷ says Cable (0xFF01A043 ∷ 0x405 ∷ []) ∷
    enter Cable 0xFF01 1 ∷ says Cable (0xFF01A144 ∷ []) ∷ next Cable ∷ enter Partner 0xFF01 1 ∷ next Partner ∷ says Partner identity_ack ∷ exit Cable 0xFF01 7 ∷
    says Cable (0xFF01A745 ∷ []) ∷ enter Cable 0xFF01 1 ∷ protocol_error ∷ start_over Cable ∷ [])
    (fresh_with 432 432)

abbrev pub modes_entered_said : List (List ℕ)
modes_entered_said =
    (0 ∷ 0 ∷ 0 ∷ 0xFF00A801 ∷ []) ∷ (0 ∷ 0 ∷ 0 ∷ []) ∷ (0 ∷ 0 ∷ 0 ∷ 0xFF00A002 ∷ []) ∷ (0 ∷ 1 ∷ 0 ∷ []) ∷ (0 ∷ 1 ∷ 0 ∷ 0xFF01A003 ∷ []) ∷ (0 ∷ 1 ∷ 2 ∷ []) ∷
    (0 ∷ 1 ∷ 2 ∷ 0xFF01A104 ∷ []) ∷ (0 ∷ 1 ∷ 2 ∷ []) ∷ (13 ∷ 1 ∷ 2 ∷ []) ∷ (12 ∷ 0 ∷ 0 ∷ []) ∷ (0 ∷ 0 ∷ 0 ∷ 0xFF00A801 ∷ []) ∷ (0 ∷ 0 ∷ 0 ∷ []) ∷
    (0 ∷ 1 ∷ 2 ∷ 0xFF01A705 ∷ []) ∷ (0 ∷ 1 ∷ 2 ∷ []) ∷ (0 ∷ 1 ∷ 2 ∷ 0xFF01A104 ∷ []) ∷ (0 ∷ 0 ∷ 0 ∷ []) ∷ (0 ∷ 0 ∷ 2 ∷ 0xFF00A801 ∷ []) ∷ []

-- "per side": a partner of the first edition and a cable of 2.0 are each asked at their own. A page at 2.1 changes nothing. Identity is asked at 2.1, and
-- once the cable has declined it a mode of the cable is entered at 2.1, while the partner stays at 1.0
unfoldable pub editions : List (List ℕ)
editions =
    lines_from
    (next Partner ∷ says Partner (0xFF008041 ∷ 1 ∷ 2 ∷ 3 ∷ []) ∷ next Cable ∷ says Cable identity_ack ∷ next Partner ∷ says Partner (0xFF008042 ∷ 0xFF010000 ∷ []) ∷
    next Cable ∷ says Cable (0xFF00A842 ∷ 0xFF010000 ∷ []) ∷ next Partner ∷ says Partner (0xFF018043 ∷ 0x405 ∷ []) ∷ next Cable ∷
    says Cable (0xFF01A043 ∷ 0x405 ∷ []) ∷ enter Cable 0xFF01 1 ∷ response_timer ∷ timer 4 4 ∷ next Cable ∷ says Cable (0xFF00A081 ∷ []) ∷ enter Cable 0xFF01 1 ∷
    says Cable (0xFF01A144 ∷ []) ∷ enter Partner 0xFF01 1 ∷ [])
    (fresh_with 432 432)

abbrev pub editions_said : List (List ℕ)
editions_said =
    (0 ∷ 0 ∷ 0 ∷ 0xFF00A801 ∷ []) ∷ (0 ∷ 0 ∷ 0 ∷ []) ∷ (0 ∷ 0 ∷ 0 ∷ 0xFF00A801 ∷ []) ∷ (0 ∷ 0 ∷ 0 ∷ []) ∷ (0 ∷ 0 ∷ 0 ∷ 0xFF008002 ∷ []) ∷ (0 ∷ 1 ∷ 0 ∷ []) ∷
    (0 ∷ 0 ∷ 0 ∷ 0xFF00A002 ∷ []) ∷ (0 ∷ 1 ∷ 0 ∷ []) ∷ (0 ∷ 1 ∷ 0 ∷ 0xFF018003 ∷ []) ∷ (0 ∷ 1 ∷ 2 ∷ []) ∷ (0 ∷ 1 ∷ 0 ∷ 0xFF01A003 ∷ []) ∷
    (0 ∷ 1 ∷ 2 ∷ []) ∷ (0 ∷ 1 ∷ 2 ∷ 0xFF01A104 ∷ []) ∷ (9 ∷ 1 ∷ 2 ∷ []) ∷ (0 ∷ 1 ∷ 2 ∷ []) ∷ (0 ∷ 0 ∷ 2 ∷ 0xFF00A801 ∷ []) ∷ (0 ∷ 0 ∷ 2 ∷ []) ∷
    (0 ∷ 0 ∷ 2 ∷ 0xFF01A904 ∷ []) ∷ (0 ∷ 0 ∷ 2 ∷ []) ∷ (0 ∷ 1 ∷ 2 ∷ 0xFF018104 ∷ []) ∷ []

abbrev pub given : List (List (List ℕ))
given = interleaved ∷ late_page ∷ short_run ∷ modes_entered ∷ editions ∷ []

abbrev pub said : List (List (List ℕ))
said = interleaved_said ∷ late_page_said ∷ short_run_said ∷ modes_entered_said ∷ editions_said ∷ []
