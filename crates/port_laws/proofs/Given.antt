-- Each refusal number is given exactly when the documents' line says, whatever the call, the port and what is lent.
use mathlib.Core.Logic.{◌↔◌, inl, inr}
use mathlib.Core.Path.{◌≡◌, refl, ap, sym, subst}
use mathlib.Core.Bool.{true, false≢true}
use mathlib.Core.List.{List, [], ◌∷◌, ◌++◌}
use Prim.Native.Nat.{ℕ}
use native.Mathlib.Omega.{arith}
use lib.ListN.{length}
use Rattle.laptop.specs.Calls.{Decision, step_of, unless, short_runs}
use Rattle.laptop.specs.State.{Memory, identity_request}
use Rattle.laptop.specs.declared.Laptop.{Laptop}
use Rattle.laptop_laws.specs.Effects.{Call as LaptopCall}
use Rattle.laptop_laws.specs.Effects.{message as laptop_message}
use Rattle.laptop_laws.specs.Effects.{next as laptop_next}
use Rattle.laptop_laws.specs.Effects.{start_over as laptop_start_over}
use Rattle.laptop_laws.specs.Effects.{drop as laptop_drop}
use Rattle.laptop_laws.specs.Effects.{enter as laptop_enter}
use Rattle.laptop_laws.specs.Effects.{exit as laptop_exit}
use Rattle.laptop_laws.specs.Effects.{timer as laptop_timer}
use Rattle.laptop_laws.specs.Effects.{protocol_error as laptop_protocol_error}
use Rattle.laptop_laws.specs.Effects.{effect_of as laptop_effect_of}
use Rattle.laptop_laws.specs.Given.{Line, ◌when◌, First, ShortRun, owner_lines, sending_lines, next_request, AnyEntered}
use Rattle.laptop_laws.specs.Given.{Awaits as LaptopAwaits}
use Rattle.laptop_laws.specs.Given.{lines as laptop_lines}
use Rattle.laptop_laws.proofs.First.{Tells, first_only, first_test, Without, none_first, Numbered}
use Rattle.laptop_laws.proofs.Given.{given_exactly as laptop_given_exactly}
use Rattle.laptop_laws.proofs.OwnerGiven.{tells_short, unless_first}
use Rattle.port.specs.Calls.{is_waiting, owners_refusal, waiting_side}
use Rattle.port.specs.Sides.{Wait, seen}
use Rattle.port.specs.declared.Port.{Port}
use Rattle.port.specs.declared.Side.{Side}
use Rattle.std.specs.Prelude.{Some, None}
use Rattle.port_laws.specs.Effects.{Call, message, next, start_over, drop, enter, exit, timer, protocol_error, one_sided, concerns, is_owners, effect_of}
use Rattle.port_laws.specs.Given.{Awaits, owners_lines, behind_two, lines, Given}
use Rattle.port_laws.proofs.Sides.{nothing_seen}

-- of two lines, none of which holds, it is one behind them
behind_two_lem : (a b : Line) (list : List Line) (number : ℕ) → (a.holds → ⊥) → (b.holds → ⊥) → First (a ∷ (b ∷ list)) number → First list number
behind_two_lem a b list number na nb (inl x) = absurd (na x.0)
behind_two_lem a b list number na nb (inr (x, inl y)) = absurd (nb y.0)
behind_two_lem a b list number na nb (inr (x, inr y)) = y.1

tells_waits : (w : Wait) → Tells (is_waiting w) (w ≡ None → ⊥)
tells_waits None = λ h. h refl
tells_waits (Some (side, r)) = λ e. false≢true (sym (ap is_waiting e))

-- what every owner's call is refused by
module _ (p : Port) (m : Memory) where
  owners_first : First (owners_lines p m) (owners_refusal p (length m.run) (length m.held_run))
  unfolding owners_refusal
  owners_first =
      first_test (short_runs (length m.run) (length m.held_run)) 11 (ShortRun m) (7 when Awaits p ∷ []) _ (tells_short (length m.run) (length m.held_run))
      (λ e. first_test (is_waiting p.wait) 7 _ [] 0 (tells_waits p.wait) (λ f. refl))

  owners_numbered : Numbered (owners_lines p m)
  owners_numbered = omega arith

  -- where it is not, the runs are long, and the side does not see that anything is awaited
  long_runs : First (owners_lines p m) 0 → ShortRun m → ⊥
  long_runs (inl x) h = omega (arith, x.1)
  long_runs (inr x) h = x.0 h

  none_awaited : (side : Side) → First (owners_lines p m) 0 → LaptopAwaits (seen side p) → ⊥
  none_awaited side (inl x) h = omega (arith, x.1)
  none_awaited side (inr (x, inl y)) h = omega (arith, y.1)
  none_awaited side (inr (x, inr y)) h = y.0 (λ e. h (nothing_seen side p e))

  -- an owner's call is refused by those, and then by what 01's is behind its own
  owners_given : (side : Side) (out : List ℕ) (c : LaptopCall) (d : Decision) →
      First (owner_lines (seen side p) m ++ behind_two (laptop_lines c (seen side p) m out)) (step_of (seen side p) d (length out)).refusal →
      First (owners_lines p m ++ behind_two (laptop_lines c (seen side p) m out))
      (step_of (seen side p) (unless (owners_refusal p (length m.run) (length m.held_run)) (seen side p) d) (length out)).refusal
  owners_given side out c d f =
      unless_first (seen side p) out (owners_lines p m) (behind_two (laptop_lines c (seen side p) m out)) _ d owners_numbered owners_first
      (λ z.
      let none = subst (First (owners_lines p m)) z owners_first in
      behind_two_lem _ _ (behind_two (laptop_lines c (seen side p) m out)) _ (long_runs none) (none_awaited side none) f)

module _ (p : Port) (m : Memory) (out : List ℕ) where
  -- 01's on the laptop that a side sees
  on_side : (side : Side) (c : LaptopCall) → First (laptop_lines c (seen side p) m out) (laptop_effect_of c (seen side p) m out).step.refusal
  on_side side c = (laptop_given_exactly c (seen side p) m out _).0 refl

  given : (c : Call) → Given (effect_of c p m out).step.refusal c p m out
  given (message side bytes) = on_side side (laptop_message bytes)
  given (next side) = owners_given p m side out laptop_next _ (on_side side laptop_next)
  given (start_over side) = owners_given p m side out laptop_start_over _ (on_side side laptop_start_over)
  given (drop side) = owners_given p m side out laptop_drop _ (on_side side laptop_drop)
  given (enter side svid position) = owners_given p m side out (laptop_enter svid position) _ (on_side side (laptop_enter svid position))
  given (exit side svid position) = owners_given p m side out (laptop_exit svid position) _ (on_side side (laptop_exit svid position))
  given (timer first last) = on_side (waiting_side p.wait) (laptop_timer first last)
  given protocol_error = on_side (waiting_side p.wait) laptop_protocol_error

-- a call is refused by a number exactly when the number's line is the first that holds, and accepted, 0, exactly when none holds
pub given_exactly : (c : Call) (p : Port) (m : Memory) (out : List ℕ) (number : ℕ) → ((effect_of c p m out).step.refusal ≡ number) ↔ Given number c p m out
given_exactly c p m out number = (
  λ e. subst (First (lines c p m out)) e (given p m out c),
  λ g. first_only (lines c p m out) (effect_of c p m out).step.refusal number (given p m out c) g,
)

-- 10 is the dock's, and 4 is withdrawn: no call of the port gives them
neither_line : (c : Call) (p : Port) (m : Memory) (out : List ℕ) → Without 10 (lines c p m out) × Without 4 (lines c p m out)
neither_line (message side bytes) p m out = omega arith
neither_line (next side) p m out = omega arith
neither_line (start_over side) p m out = omega arith
neither_line (drop side) p m out = omega arith
neither_line (enter side svid position) p m out = omega arith
neither_line (exit side svid position) p m out = omega arith
neither_line (timer first last) p m out = omega arith
neither_line protocol_error p m out = omega arith

pub never_ten : (c : Call) (p : Port) (m : Memory) (out : List ℕ) → (effect_of c p m out).step.refusal ≡ 10 → ⊥
never_ten c p m out e = none_first 10 (lines c p m out) (λ z. omega arith) (neither_line c p m out).0 ((given_exactly c p m out 10).0 e)

pub never_four : (c : Call) (p : Port) (m : Memory) (out : List ℕ) → (effect_of c p m out).step.refusal ≡ 4 → ⊥
never_four c p m out e = none_first 4 (lines c p m out) (λ z. omega arith) (neither_line c p m out).1 ((given_exactly c p m out 4).0 e)

-- 7 is no number of 01's lines behind the first two
no_seven : (c : LaptopCall) (l : Laptop) (m : Memory) (out : List ℕ) → Without 7 (behind_two (laptop_lines c l m out))
no_seven (laptop_message bytes) l m out = omega arith
no_seven laptop_next l m out = omega arith
no_seven laptop_start_over l m out = omega arith
no_seven laptop_drop l m out = omega arith
no_seven (laptop_enter svid position) l m out = omega arith
no_seven (laptop_exit svid position) l m out = omega arith
no_seven (laptop_timer first last) l m out = omega arith
no_seven laptop_protocol_error l m out = omega arith

module _ (c : Call) (p : Port) (m : Memory) (out : List ℕ) where
  abbrev behind : List Line
  behind = behind_two (laptop_lines (one_sided c) (seen (concerns c p.wait) p) m out)

-- an owner's call is refused as the two lines and 01's behind them say
owners_lines_lem : (c : Call) (p : Port) (m : Memory) (out : List ℕ) (number : ℕ) → is_owners c ≡ true →
    ((effect_of c p m out).step.refusal ≡ number) ↔ First (owners_lines p m ++ behind c p m out) number
owners_lines_lem (message side bytes) p m out number e = absurd (false≢true e)
owners_lines_lem (next side) p m out number e = given_exactly (next side) p m out number
owners_lines_lem (start_over side) p m out number e = given_exactly (start_over side) p m out number
owners_lines_lem (drop side) p m out number e = given_exactly (drop side) p m out number
owners_lines_lem (enter side svid position) p m out number e = given_exactly (enter side svid position) p m out number
owners_lines_lem (exit side svid position) p m out number e = given_exactly (exit side svid position) p m out number
owners_lines_lem (timer first last) p m out number e = absurd (false≢true e)
owners_lines_lem protocol_error p m out number e = absurd (false≢true e)

module _ (c : Call) (p : Port) (m : Memory) (out : List ℕ) (owners : is_owners c ≡ true) where
  -- a short run of the own side is 11, whatever is awaited
  pub eleven_first : ShortRun m → (effect_of c p m out).step.refusal ≡ 11
  eleven_first short = (owners_lines_lem c p m out 11 owners).1 (inl (short, refl))

  -- with long runs, 7 is given exactly while an answer is awaited, from either side
  pub seven_exactly : (ShortRun m → ⊥) → ((effect_of c p m out).step.refusal ≡ 7) ↔ Awaits p
  seven_exactly long = (λ e. awaited ((owners_lines_lem c p m out 7 owners).0 e), λ a. (owners_lines_lem c p m out 7 owners).1 (inr (long, inl (a, refl))))
    where
      awaited : First (owners_lines p m ++ behind c p m out) 7 → Awaits p
      awaited (inl x) = absurd (long x.0)
      awaited (inr (x, inl y)) = y.0
      awaited (inr (x, inr y)) = absurd (none_first 7 (behind c p m out) (λ z. omega arith) (no_seven (one_sided c) _ m out) y.1)

-- with long runs and nothing awaited, next and start over are refused 13 exactly while a mode of their own side is entered
module _ (side : Side) (p : Port) (m : Memory) (out : List ℕ) (long : ShortRun m → ⊥) (idle : p.wait ≡ None) where
  thirteen : (c : Call) (list : List Line) → Without 13 list →
      ((effect_of c p m out).step.refusal ≡ 13) ↔ First (owners_lines p m ++ 13 when AnyEntered m ∷ list) 13 →
      ((effect_of c p m out).step.refusal ≡ 13) ↔ AnyEntered m
  thirteen c list none exactly = (λ e. entered (exactly.0 e), λ a. exactly.1 (inr (long, inr (λ n. n idle, inl (a, refl)))))
    where
      entered : First (owners_lines p m ++ 13 when AnyEntered m ∷ list) 13 → AnyEntered m
      entered (inl x) = absurd (long x.0)
      entered (inr (x, inl y)) = absurd (y.0 idle)
      entered (inr (x, inr (y, inl z))) = z.0
      entered (inr (x, inr (y, inr z))) = absurd (none_first 13 list (λ w. omega arith) none z.1)

  pub thirteen_by_own : ((effect_of (next side) p m out).step.refusal ≡ 13) ↔ AnyEntered m
  thirteen_by_own =
      thirteen (next side) (sending_lines (next_request (seen side p).candidate (seen side p) m) out) (omega arith)
      (given_exactly (next side) p m out 13)

  pub thirteen_to_start : ((effect_of (start_over side) p m out).step.refusal ≡ 13) ↔ AnyEntered m
  thirteen_to_start = thirteen (start_over side) (sending_lines identity_request out) (omega arith) (given_exactly (start_over side) p m out 13)
