-- What a decision makes of the state and the buffer.
use mathlib.Core.Path.{◌≡◌, ap, subst, sym, ◌∙◌}
use mathlib.Core.Bool.{false≢true}
use mathlib.Core.List.{List}
use Prim.Native.Nat.{ℕ, ◌+◌, ◌*◌}
use lib.ListN.{length}
use borrow.Author.Tests.{eq-eqb, ne_eqb}
use Rattle.messages.specs.Layout.{Message}
use Rattle.messages.specs.Writing.{write_refusal, Written}
use Rattle.messages.specs.declared.Head.{Head}
use Rattle.messages.specs.declared.edition.Edition.{Edition}
use Rattle.laptop.specs.Calls.{Decision, refuses, accepts, sends, refused_by, accepted_with, sent_by, step_of, buffer_of, Stepped, unless}
use Rattle.laptop.specs.declared.Laptop.{Laptop}
use Rattle.laptop.specs.Step.{Step, stepped}
use Rattle.laptop.specs.declared.Accepted.{Accepted}
use Rattle.laptop.specs.declared.Refused.{Refused}
use Rattle.messages.specs.Refusals.{number_of}
use Rattle.messages.specs.declared.refusal.Refusal.{Refusal}
use Rattle.std.specs.Prelude.{Result, Ok, Err, IsErr}
use native.Mathlib.Omega.{arith}
use Rattle.std.proofs.lemmas.Grind.{common_steps}
use Rattle.laptop.specs.declared.Told.{Told}

pub refuse : (l next : Laptop) (decision : Decision) (number : ℕ) (out : List ℕ) (s : Step) → decision ≡ refuses number next →
    s ≡ refused_by number next → Stepped l decision out s out
unfolding step_of buffer_of
refuse l next decision number out s e is =
    record {
      step_is = is ∙ sym (ap (λ (x : Decision). step_of l x (length out)) e);
      buffer_is = sym (ap (λ (x : Decision). buffer_of x out) e);
    }

pub accept : (l next : Laptop) (told : Told) (decision : Decision) (out : List ℕ) (s : Step) → decision ≡ accepts told next →
    s ≡ accepted_with told next → Stepped l decision out s out
unfolding step_of buffer_of
accept l next told decision out s e is =
    record {
      step_is = is ∙ sym (ap (λ (x : Decision). step_of l x (length out)) e);
      buffer_is = sym (ap (λ (x : Decision). buffer_of x out) e);
    }

-- a call that goes on in another
pub same : (l : Laptop) (decision other : Decision) (out : List ℕ) (s : Step) (after : List ℕ) → decision ≡ other → Stepped l other out s after →
    Stepped l decision out s after
same l decision other out s after e stepped =
    record {
      step_is = stepped.step_is ∙ sym (ap (λ (x : Decision). step_of l x (length out)) e);
      buffer_is = stepped.buffer_is ∙ sym (ap (λ (x : Decision). buffer_of x out) e);
    }

-- the same where there is no buffer
pub same_step : (l : Laptop) (decision other : Decision) (s : Step) → decision ≡ other → s ≡ step_of l other 0 → s ≡ step_of l decision 0
same_step l decision other s e is = is ∙ sym (ap (λ (x : Decision). step_of l x 0) e)

-- no refusal has the number 0
number_some : (r : Refusal) → number_of r ≡ 0 → ⊥
number_some r z = grind (arith, common_steps)

-- so what is refused has some number
refused_some : (x : Result Accepted Refused) (n : ℕ) (l : Laptop) → IsErr x → stepped x ≡ refused_by n l → n ≡ 0 → ⊥
refused_some (Ok a) n l h is z = false≢true h
refused_some (Err r) n l h is z = number_some r.refusal (ap (λ (s : Step). s.refusal) is ∙ z)

-- a message handed over, or refused by the buffer
module _ (l next : Laptop) (m : Message) (out after : List ℕ) (number : ℕ) (w : Written next.edition m out number after) where
  pub send_refused : (x : Result Accepted Refused) → IsErr x → stepped x ≡ refused_by number l → Stepped l (sends m next) out (stepped x) after
  unfolding step_of buffer_of
  send_refused x h is =
      let e : write_refusal m (length out) ≡ number = sym w.number_is in
      record { step_is = is ∙ rw (e, ne_eqb number 0 (refused_some x number l h is)); buffer_is = w.buffer_is }

  pub send_whole : (s : Step) → number ≡ 0 → s ≡ sent_by (length m.objects * 4 + 4) next → Stepped l (sends m next) out s after
  unfolding step_of buffer_of
  send_whole s z is =
      let e : write_refusal m (length out) ≡ 0 = sym w.number_is ∙ z in
      record { step_is = is ∙ rw e; buffer_is = w.buffer_is }

pub written_head : (at : Edition) (h h' : Head) (objects out : List ℕ) (number : ℕ) (after : List ℕ) → h ≡ h' →
    Written at (record { head = h; objects = objects }) out number after → Written at (record { head = h'; objects = objects }) out number after
written_head at h h' objects out number after e w =
    subst (λ (x : Head). Written at (record { head = x; objects = objects }) out number after) e w

-- a refusal that comes before a decision
module _ (n number : ℕ) (l : Laptop) (decision : Decision) (e : n ≡ number) where
  pub unless_refused : (n ≡ 0 → ⊥) → unless number l decision ≡ refuses n l
  unfolding unless
  unless_refused h = rw (← e, ne_eqb n 0 h)

  pub unless_passed : n ≡ 0 → unless number l decision ≡ decision
  unfolding unless
  unless_passed h = rw (← e, eq-eqb n 0 h)

-- what was checked before a decision refuses, or lets it be taken
module _ (l : Laptop) (number : ℕ) (decision : Decision) (out : List ℕ) (n : ℕ) (e : n ≡ number) where
  pub stop_at : (s : Step) → (n ≡ 0 → ⊥) → s ≡ refused_by n l → Stepped l (unless number l decision) out s out
  stop_at s h is = refuse l l _ n out s (unless_refused n number l decision e h) is

  pub stop : (x : Result Accepted Refused) → IsErr x → stepped x ≡ refused_by n l → Stepped l (unless number l decision) out (stepped x) out
  stop x h is = stop_at (stepped x) (refused_some x n l h is) is

  pub go_on : (s : Step) (after : List ℕ) → n ≡ 0 → Stepped l decision out s after → Stepped l (unless number l decision) out s after
  go_on s after z = same l _ decision out s after (unless_passed n number l decision e z)
