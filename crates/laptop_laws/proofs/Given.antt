-- Each refusal number is given exactly when 01's line says, whatever the call, the state and what is lent.
use mathlib.Core.Logic.{◌↔◌}
use mathlib.Core.Path.{◌≡◌, subst}
use mathlib.Core.List.{List}
use Prim.Native.Nat.{ℕ}
use native.Mathlib.Omega.{arith}
use Rattle.laptop.specs.State.{Memory}
use Rattle.laptop.specs.declared.Laptop.{Laptop}
use Rattle.laptop_laws.specs.Effects.{Call, message, next, start_over, drop, enter, exit, timer, protocol_error, effect_of}
use Rattle.laptop_laws.specs.Given.{First, lines, Given}
use Rattle.laptop_laws.proofs.First.{first_only, Without, none_first}
use Rattle.laptop_laws.proofs.MessageGiven.{message_given}
use Rattle.laptop_laws.proofs.ModesGiven.{enter_given, exit_given}
use Rattle.laptop_laws.proofs.OwnerGiven.{next_given, start_given, drop_given, timer_given, error_given}

given : (c : Call) (l : Laptop) (m : Memory) (out : List ℕ) → Given (effect_of c l m out).step.refusal c l m out
given (message bytes) l m out = message_given l m bytes
given next l m out = next_given l m out
given start_over l m out = start_given l m out
given drop l m out = drop_given l m out
given (enter svid position) l m out = enter_given l m out svid position
given (exit svid position) l m out = exit_given l m out svid position
given (timer first last) l m out = timer_given l out first last l.wait
given protocol_error l m out = error_given l out l.wait

-- a call is refused by a number exactly when the number's line is the first that holds, and accepted, 0, exactly when none holds
pub given_exactly : (c : Call) (l : Laptop) (m : Memory) (out : List ℕ) (number : ℕ) → ((effect_of c l m out).step.refusal ≡ number) ↔ Given number c l m out
given_exactly c l m out number = (
  λ e. subst (First (lines c l m out)) e (given c l m out),
  λ g. first_only (lines c l m out) (effect_of c l m out).step.refusal number (given c l m out) g,
)

-- a number that no line has is never given
pub never_without : (number : ℕ) (c : Call) (l : Laptop) (m : Memory) (out : List ℕ) → (number ≡ 0 → ⊥) → Without number (lines c l m out) →
    (effect_of c l m out).step.refusal ≡ number → ⊥
never_without number c l m out some none e = none_first number (lines c l m out) some none ((given_exactly c l m out number).0 e)

-- 10 is the dock's, and 4 is withdrawn: no call of the laptop gives them
neither_line : (c : Call) (l : Laptop) (m : Memory) (out : List ℕ) → Without 10 (lines c l m out) × Without 4 (lines c l m out)
neither_line (message bytes) l m out = omega arith
neither_line next l m out = omega arith
neither_line start_over l m out = omega arith
neither_line drop l m out = omega arith
neither_line (enter svid position) l m out = omega arith
neither_line (exit svid position) l m out = omega arith
neither_line (timer first last) l m out = omega arith
neither_line protocol_error l m out = omega arith

pub never_ten : (c : Call) (l : Laptop) (m : Memory) (out : List ℕ) → (effect_of c l m out).step.refusal ≡ 10 → ⊥
never_ten c l m out = never_without 10 c l m out (λ z. omega arith) (neither_line c l m out).0

pub never_four : (c : Call) (l : Laptop) (m : Memory) (out : List ℕ) → (effect_of c l m out).step.refusal ≡ 4 → ⊥
never_four c l m out = never_without 4 c l m out (λ z. omega arith) (neither_line c l m out).1
