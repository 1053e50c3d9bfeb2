-- The numbers of the refusals that the code has names for (01, "Refusal numbers"; 02, R-1 and R-6). 0 is acceptance.
use Rattle.std.specs.Prelude.{ℕ, Result, Ok, Err}
use Rattle.messages.specs.declared.refusal.Refusal.{Refusal}
use Rattle.messages.specs.declared.refusal.Refusal.TheVariants.{WrongLength, Unstructured, WrongMajor, WrongShape, Unawaited, Waiting, BadAnswer, NotNow}
use Rattle.messages.specs.declared.refusal.Refusal.TheVariants.{BadData, TooShort, NotHeld, Blocked, Endless}
use Rattle.messages.specs.declared.refusal.Refusal.TheVariants.{UnknownKind, CutRecord, OutOfOrder, BytesAfterEnd, NoIdentity}

abbrev pub number_of : Refusal → ℕ
number_of WrongLength = 1
number_of Unstructured = 2
number_of WrongMajor = 3
number_of WrongShape = 5
number_of Unawaited = 6
number_of Waiting = 7
number_of BadAnswer = 8
number_of NotNow = 9
number_of BadData = 10
number_of TooShort = 11
number_of NotHeld = 12
number_of Blocked = 13
number_of Endless = 14
number_of UnknownKind = 15
number_of CutRecord = 16
number_of OutOfOrder = 17
number_of BytesAfterEnd = 18
number_of NoIdentity = 19

-- the number of what a call gave
abbrev pub number_in : {A : Type 0} → Result A Refusal → ℕ
number_in (Ok accepted) = 0
number_in (Err refusal) = number_of refusal
