-- The last answer needed as the laptop tells it, by what it awaits and has. A step on the way to the theorems of `progress`, which tell it from the
-- dock's data.
use Rattle.std.specs.Prelude.{Option, Some, None}
use mathlib.Core.Logic.{◌⊎◌}
use mathlib.Core.Path.{◌≡◌}
use Prim.Native.Nat.{ℕ, ◌+◌}
use mathlib.Core.Bool.{Bool, true, false, ◌&&◌, ◌||◌}
use mathlib.Core.List.{List}
use lib.Dec.{eqb}
use Rattle.messages.specs.Layout.{ack, nak}
use Rattle.messages.specs.Reading.{Outcome, accepted, refused, read_outcome}
use Rattle.messages.specs.Requests.{svids_command, modes_command}
use Rattle.messages.specs.declared.Head.{Head}
use Rattle.hearing.specs.Hearing.{fits}
use Rattle.owner.specs.Owner.{is_absent}
use Rattle.laptop.specs.declared.Laptop.{Laptop}
use Rattle.link.specs.Demand.{whole, held_words, Holds, Ending}
use Rattle.link.specs.Joined.{System, Event}
use Rattle.link.specs.Link.{step}
use Rattle.link.specs.Needed.{arriving}

-- the awaited ACK to the last Modes, or the awaited NAK to SVIDs of an empty list
unfoldable pub is_last_head : Laptop → Head → Bool
is_last_head l h =
    fits l.wait h && ((eqb h.command modes_command && (eqb h.kind ack && eqb (l.stored + 1) l.gathered.count)) ||
    (eqb h.command svids_command && eqb h.kind nak))

unfoldable pub is_last_outcome : Laptop → Outcome → Bool
is_last_outcome l (refused number) = false
is_last_outcome l (accepted e m) = is_last_head l m.head

abbrev pub is_last_of : Laptop → Option (List ℕ) → Bool
is_last_of l None = false
is_last_of l (Some bytes) = is_last_outcome l (read_outcome bytes)

abbrev pub is_last_answer : Event → System → Bool
is_last_answer e s = is_last_of s.laptop (arriving e s.fate)

-- what is held becomes the dock's with it, and changes at no other event
abbrev pub ReplacesAt : (ℕ → List ℕ) → System → Event → System → Type 0
ReplacesAt modes_of start e s =
    (is_last_answer e s ≡ true → Holds (whole modes_of start.dock) (step modes_of e s)) ×
    (is_last_answer e s ≡ false → held_words (step modes_of e s) ≡ held_words s)

-- a candidate is given up with it, or by the ends of 01
abbrev pub EndsAt : (ℕ → List ℕ) → Event → System → Type 0
EndsAt modes_of e s =
    is_absent s.laptop.candidate ≡ false → is_absent (step modes_of e s).laptop.candidate ≡ true →
    (is_last_answer e s ≡ true) ⊎ Ending s e
