-- What a refusal does to the laptop's state (01, "Refusal numbers").
use Rattle.std.specs.Prelude.{◌≡◌, Bool, false, cond, ◌&&◌, ◌||◌, ℕ, eqb}
use Rattle.messages.specs.Layout.{ack}
use Rattle.messages.specs.Reading.{message_in}
use Rattle.messages.specs.Requests.{svids_command}
use Rattle.hearing.specs.Hearing.{is_idle}
use Rattle.laptop.specs.Calls.{refused_by}
use Rattle.laptop.specs.State.{is_open, dropped, counted}
use Rattle.laptop.specs.declared.Laptop.{Laptop}
use Rattle.laptop.specs.Step.{Step}
use Rattle.laptop_laws.specs.Effects.{Call, message, next, start_over, drop, enter, exit, timer, protocol_error}

-- a page comes: a message that is an SVIDs ACK
abbrev pub brings_page : Call → Bool
brings_page (message bytes) = eqb (message_in bytes).head.command svids_command && eqb (message_in bytes).head.kind ack
brings_page next = false
brings_page start_over = false
brings_page drop = false
brings_page (enter svid position) = false
brings_page (exit svid position) = false
brings_page (timer first last) = false
brings_page protocol_error = false

-- it comes late: while the list is open and nothing is awaited
abbrev pub brings_late_page : Call → Laptop → Bool
brings_late_page c l = is_idle l.wait && (is_open l.candidate && brings_page c)

-- the state that a refusal leaves: 8 and 14 drop the candidate and end the wait, and a page so refused stays counted; 6 drops the candidate when a page
-- comes late; else it is left alone
abbrev pub left_by : ℕ → Call → Laptop → Laptop
left_by number c l =
    cond (eqb number 8 || eqb number 14) (dropped (cond (brings_page c) (counted l) l))
    (cond (eqb number 6 && brings_late_page c l) (dropped l) l)

-- a call's answer: where it is refused, nothing is sent, policy is told nothing, and that state is left
abbrev pub RefusedAs : Call → Laptop → Step → Type 0
RefusedAs c l s = (s.refusal ≡ 0 → ⊥) → s ≡ refused_by s.refusal (left_by s.refusal c l)
