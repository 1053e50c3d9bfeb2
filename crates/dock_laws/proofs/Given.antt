-- Each refusal number is given exactly when 01's line says, whatever the call, the dock and the buffer.
use mathlib.Core.Logic.{◌↔◌, ◌⊎◌, inl, inr}
use mathlib.Core.Path.{◌≡◌, refl, sym, subst, ◌∙◌}
use mathlib.Core.Bool.{Bool, true, false, not, false≢true}
use mathlib.Core.List.{List, [], ◌∷◌}
use Prim.Native.Nat.{ℕ, zero, suc, ◌+◌, ◌<◌, ◌≤◌}
use native.Mathlib.Omega.{arith}
use lib.Dec.{eqb}
use lib.ListN.{length}
use borrow.Author.Tests.{eqb-true, eqb-false}
use Rattle.laws.specs.Lines.{first_at}
use Rattle.laws.proofs.Lines.{and_right}
use Rattle.messages.specs.Reading.{read_lines}
use Rattle.messages.proofs.Reserved.{never_line_4}
use Rattle.dock.specs.declared.Dock.{Dock}
use Rattle.dock_laws.specs.Effects.{Call, load, message, policy_answer, sent, failed, effect_of}
use Rattle.dock_laws.specs.Given.{Given, not_ready, breaks_limits, not_read, not_a_request, no_room_for_nak, not_waiting, brings_wrong, wrong_shape, no_room_for_answer, not_sending}
use Rattle.dock_laws.proofs.Loading.{load_given, load_refused, sent_given, failed_given, confirmation_refused}
use Rattle.dock_laws.proofs.Messages.{message_given, message_refused_by}
use Rattle.dock_laws.proofs.Answers.{policy_answer_given, policy_answer_refused_by}

-- a refusal number is given to a call exactly when its line says so
pub given_exactly : (c : Call) (d : Dock) (out : List ℕ) (number : ℕ) → (number ≡ 0 → ⊥) → ((effect_of c d out).refusal ≡ number) ↔ Given c d out number
given_exactly (load identity svids) d out number some = (load_given d number some identity svids, load_refused d number some identity svids)
given_exactly (message bytes) d out number some = (message_given d number some bytes out, message_refused_by d number some bytes out)
given_exactly (policy_answer policy r objects) d out number some =
    (policy_answer_given d number some policy r objects out, policy_answer_refused_by d number some policy r objects out)
given_exactly sent d out number some = (sent_given d number some, λ g. (confirmation_refused d number some g).0)
given_exactly failed d out number some = (failed_given d number some, λ g. (confirmation_refused d number some g).1)

-- and a call is accepted exactly when none is given
pub accepted_exactly : (c : Call) (d : Dock) (out : List ℕ) →
    ((effect_of c d out).refusal ≡ 0) ↔ ((number : ℕ) → (number ≡ 0 → ⊥) → Given c d out number → ⊥)
accepted_exactly c d out = (
  λ e number some given. some (sym ((given_exactly c d out number some).1 given) ∙ e),
  λ none. go none (eqb (effect_of c d out).refusal 0) refl,
)
  where
    go : ((number : ℕ) → (number ≡ 0 → ⊥) → Given c d out number → ⊥) → (t : Bool) → eqb (effect_of c d out).refusal 0 ≡ t → (effect_of c d out).refusal ≡ 0
    go none true e = eqb-true (effect_of c d out).refusal 0 e
    go none false e =
        let some = eqb-false (effect_of c d out).refusal 0 e in
        absurd (none (effect_of c d out).refusal some ((given_exactly c d out (effect_of c d out).refusal some).0 refl))

-- there are no others than 1, 2, 3, 5, 6 and 9 to 11
abbrev pub Among : ℕ → Type 0
Among number = (number ≤ 3) ⊎ ((5 ≤ number) × (number ≤ 6)) ⊎ ((9 ≤ number) × (number ≤ 11))

first_within : (lines : List Bool) (k : ℕ) → first_at lines k ≡ true → k < length lines
first_within [] k e = absurd (false≢true e)
first_within (line ∷ lines) zero e = omega arith
first_within (line ∷ lines) (suc k) e = let rest = first_within lines k (and_right (not line) (first_at lines k) e) in omega arith

-- a message that is not read: its line is 1, 2, 3 or 5, line 4 being withdrawn
line_among : (bytes : List ℕ) (k : ℕ) → first_at (read_lines bytes) k ≡ true → Among (1 + k)
line_among bytes zero e = inl (omega arith)
line_among bytes (suc zero) e = inl (omega arith)
line_among bytes (suc (suc zero)) e = inl (omega arith)
line_among bytes (suc (suc (suc zero))) e = absurd (never_line_4 bytes e)
line_among bytes (suc (suc (suc (suc k)))) e = inr (inl (omega arith, omega (arith, first_within (read_lines bytes) (suc (suc (suc (suc k)))) e)))

given_among : (c : Call) (d : Dock) (out : List ℕ) (number : ℕ) → Given c d out number → Among number
given_among (load identity svids) d out number (not_ready is why) = inr (inr (omega arith, omega arith))
given_among (load identity svids) d out number (breaks_limits is ready why) = inr (inr (omega arith, omega arith))
given_among (message bytes) d out number (not_read k is first) = subst Among (sym is) (line_among bytes k first)
given_among (message bytes) d out number (not_a_request is at m read why) = inr (inl (omega arith, omega arith))
given_among (message bytes) d out number (no_room_for_nak is at m read k c short) = inr (inr (omega arith, omega arith))
given_among (policy_answer policy r objects) d out number (not_waiting is why) = inr (inr (omega arith, omega arith))
given_among (policy_answer policy r objects) d out number (brings_wrong is waits why) = inr (inr (omega arith, omega arith))
given_among (policy_answer policy r objects) d out number (wrong_shape is m sends bad) = inr (inl (omega arith, omega arith))
given_among (policy_answer policy r objects) d out number (no_room_for_answer is m sends good short) = inr (inr (omega arith, omega arith))
given_among sent d out number (not_sending is why) = inr (inr (omega arith, omega arith))
given_among failed d out number (not_sending is why) = inr (inr (omega arith, omega arith))

pub only_these : (c : Call) (d : Dock) (out : List ℕ) → Among (effect_of c d out).refusal
only_these c d out = go (eqb (effect_of c d out).refusal 0) refl
  where
    go : (t : Bool) → eqb (effect_of c d out).refusal 0 ≡ t → Among (effect_of c d out).refusal
    go true e = inl (omega (arith, eqb-true (effect_of c d out).refusal 0 e))
    go false e = given_among c d out (effect_of c d out).refusal ((given_exactly c d out (effect_of c d out).refusal (eqb-false (effect_of c d out).refusal 0 e)).0 refl)

-- 4 is given to no call
pub never_four : (c : Call) (d : Dock) (out : List ℕ) → (effect_of c d out).refusal ≡ 4 → ⊥
never_four c d out e = go (effect_of c d out).refusal e (only_these c d out)
  where
    go : (number : ℕ) → number ≡ 4 → Among number → ⊥
    go number e (inl low) = omega arith
    go number e (inr (inl middle)) = omega arith
    go number e (inr (inr high)) = omega arith
