-- No two refusals have the same number, and none is 0: a result is known by its number.
use mathlib.Core.Path.{◌≡◌, refl, ap, sym, ◌∙◌}
use mathlib.Core.List.{List, [], ◌∷◌}
use Prim.Native.Nat.{ℕ, ◌<◌}
use native.Mathlib.Omega.{arith}
use lib.ListN.{get_or}
use Rattle.std.specs.Prelude.{Result, Err}
use Rattle.messages.specs.Refusals.{number_of, number_in}
use Rattle.messages.specs.declared.refusal.Refusal.{Refusal}
use Rattle.messages.specs.declared.refusal.Refusal.TheVariants.{WrongLength, Unstructured, WrongMajor, WrongShape, Unawaited, Waiting, BadAnswer, NotNow}
use Rattle.messages.specs.declared.refusal.Refusal.TheVariants.{BadData, TooShort, NotHeld, Blocked, Endless}
use Rattle.messages.specs.declared.refusal.Refusal.TheVariants.{UnknownKind, CutRecord, OutOfOrder, BytesAfterEnd, NoIdentity}

-- by their numbers; 0 and 4 are none's
by_number : List Refusal
by_number =
    WrongLength ∷ WrongLength ∷ Unstructured ∷ WrongMajor ∷ WrongShape ∷ WrongShape ∷ Unawaited ∷ Waiting ∷ BadAnswer ∷ NotNow ∷
    BadData ∷ TooShort ∷ NotHeld ∷ Blocked ∷ Endless ∷ UnknownKind ∷ CutRecord ∷ OutOfOrder ∷ BytesAfterEnd ∷ NoIdentity ∷ []

named : ℕ → Refusal
named number = get_or by_number number WrongLength

named_back : (r : Refusal) → named (number_of r) ≡ r
unfolding named by_number
named_back WrongLength = refl
named_back Unstructured = refl
named_back WrongMajor = refl
named_back WrongShape = refl
named_back Unawaited = refl
named_back Waiting = refl
named_back BadAnswer = refl
named_back NotNow = refl
named_back BadData = refl
named_back TooShort = refl
named_back NotHeld = refl
named_back Blocked = refl
named_back Endless = refl
named_back UnknownKind = refl
named_back CutRecord = refl
named_back OutOfOrder = refl
named_back BytesAfterEnd = refl
named_back NoIdentity = refl

pub number_once : (a b : Refusal) → number_of a ≡ number_of b → a ≡ b
number_once a b e = sym (named_back a) ∙ ap named e ∙ named_back b

pub number_above : (r : Refusal) → 0 < number_of r
number_above WrongLength = omega arith
number_above Unstructured = omega arith
number_above WrongMajor = omega arith
number_above WrongShape = omega arith
number_above Unawaited = omega arith
number_above Waiting = omega arith
number_above BadAnswer = omega arith
number_above NotNow = omega arith
number_above BadData = omega arith
number_above TooShort = omega arith
number_above NotHeld = omega arith
number_above Blocked = omega arith
number_above Endless = omega arith
number_above UnknownKind = omega arith
number_above CutRecord = omega arith
number_above OutOfOrder = omega arith
number_above BytesAfterEnd = omega arith
number_above NoIdentity = omega arith

pub numbered : (r : Refusal) → number_of r ≡ 0 → ⊥
numbered r e = omega (arith, number_above r, e)

-- 0 is acceptance, and nothing else is
pub zero_accepted : {A : Type 0} (result : Result A Refusal) (r : Refusal) → number_in result ≡ 0 → result ≡ Err r → ⊥
zero_accepted result r zero is =
    let same : number_of r ≡ 0 = sym (ap (number_in) is) ∙ zero in
    omega (arith, number_above r, same)

pub four_none : (r : Refusal) → number_of r ≡ 4 → ⊥
unfolding named by_number
four_none r e = let same : WrongShape ≡ r = ap named (sym e) ∙ named_back r in omega (arith, ap number_of same, e)
