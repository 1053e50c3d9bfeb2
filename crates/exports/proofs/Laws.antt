-- A reading as numbers, by each case of the outcome.
use mathlib.Core.Path.{◌≡◌, refl, ap, sym, ◌∙◌}
use Rattle.std.specs.Prelude.{Ok, Err}
use mathlib.Core.List.{List, [], ◌∷◌}
use Prim.Native.Nat.{ℕ}
use native.Mathlib.Omega.{arith}
use lib.ListN.{length, get_or}
use Rattle.laws.specs.Padded.{padded}
use Rattle.laws.proofs.Padded.{padded_at}
use Rattle.messages.specs.declared.Head.{Head}
use Rattle.laws.proofs.Tight.{one_value}
use Rattle.messages.specs.Editions.{edition_number}
use Rattle.messages.specs.Layout.{Message, with_reserved_clear}
use Rattle.messages.specs.Reading.{Outcome, accepted, refused, read_outcome, shown, as_shown}
use Rattle.messages.specs.Refusals.{number_of as number_of_refusal}
use Rattle.messages.specs.declared.Received.{Received}
use Rattle.messages.specs.declared.refusal.Refusal.{Refusal}
use Rattle.messages.proofs.Laws.{shown_refused, shown_message}
use Rattle.messages.proofs.Reserved.{reserved_ignored, read_never_4}
use Rattle.exports.specs.Numbers.{number_of, numbers_of}

pub numbers_refused : (o : Outcome) (r : Refusal) (into : List ℕ) → as_shown (Err r) ≡ shown o →
    (number_of_refusal r ≡ number_of o) × (into ≡ numbers_of o into)
unfolding number_of numbers_of
numbers_refused o r into e =
    let is : o ≡ refused (number_of_refusal r) = shown_refused o _ _ e refl in
    (ap number_of (sym is), ap (λ (x : Outcome). numbers_of x into) (sym is))

abbrev twelve : ℕ → Head → ℕ → List ℕ → List ℕ
twelve edition h n l =
    edition ∷ h.svid ∷ h.command ∷ h.kind ∷ h.position ∷ n ∷
    get_or l 0 0 ∷ get_or l 1 0 ∷ get_or l 2 0 ∷ get_or l 3 0 ∷ get_or l 4 0 ∷ get_or l 5 0 ∷ []

pub numbers_accepted : (o : Outcome) (r : Received) (into : List ℕ) → as_shown (Ok r) ≡ shown o →
    (0 ≡ number_of o) × (twelve (edition_number r.edition) r.head r.count r.objects ≡ numbers_of o into)
unfolding number_of numbers_of
numbers_accepted o r into e =
    let (m, is, head, count, objects) = shown_message o _ _ _ _ e refl in
    (sym (ap number_of is), go m r.head r.count r.objects head count objects ∙ ap (λ (x : Outcome). numbers_of x into) (sym is))
  where
    go : (m : Message) (h : Head) (n : ℕ) (l : List ℕ) → m.head ≡ h → length m.objects ≡ n → padded m.objects ≡ l →
        twelve (edition_number r.edition) h n l ≡ numbers_of (accepted r.edition m) into
    go m h n l head count objects = rw (← head, ← count, ← objects, ← padded_at m.objects) refl

-- a result that the promise allows is the only one
pub read_only : (bytes into : List ℕ) (number other : ℕ) (after after' : List ℕ) → (number ≡ number_of (read_outcome bytes)) →
    (after ≡ numbers_of (read_outcome bytes) into) → (other ≡ number_of (read_outcome bytes)) → (after' ≡ numbers_of (read_outcome bytes) into) →
    (number ≡ other) × (after ≡ after')
read_only bytes into number other after after' n a n' a' = (one_value n n', one_value a a')

-- bit 5 means nothing to it, and it never returns 4 (02, R-2)
pub read_same : (bytes into : List ℕ) →
    (number_of (read_outcome (with_reserved_clear bytes)) ≡ number_of (read_outcome bytes)) ×
    (numbers_of (read_outcome (with_reserved_clear bytes)) into ≡ numbers_of (read_outcome bytes) into)
read_same bytes into = (ap number_of (reserved_ignored bytes), ap (λ (o : Outcome). numbers_of o into) (reserved_ignored bytes))

pub never_four : (bytes : List ℕ) → number_of (read_outcome bytes) ≡ 4 → ⊥
unfolding number_of
never_four bytes = go (read_outcome bytes) (read_never_4 bytes)
  where
    go : (o : Outcome) → (o ≡ refused 4 → ⊥) → number_of o ≡ 4 → ⊥
    go (accepted at m) none e = omega arith
    go (refused number) none e = none (ap refused e)
