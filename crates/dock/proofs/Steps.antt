-- What a decision makes of the state and the buffer.
use mathlib.Core.Path.{◌≡◌, ap, subst, sym, ◌∙◌}
use mathlib.Core.Bool.{true}
use mathlib.Core.List.{List}
use Prim.Native.Nat.{ℕ, ◌+◌, ◌≤◌}
use native.Mathlib.Omega.{arith}
use lib.ListN.{length}
use borrow.Author.Tests.{ne_eqb}
use Rattle.messages.specs.Layout.{Message, message_length}
use Rattle.std.specs.Prelude.{Ok, Err}
use Rattle.messages.specs.Refusals.{number_of}
use Rattle.messages.specs.declared.refusal.Refusal.{Refusal}
use Rattle.messages.proofs.Numbers.{numbered}
use Rattle.messages.specs.Writing.{well_shaped, write_refusal, Written}
use Rattle.messages.specs.declared.Head.{Head}
use Rattle.messages.specs.declared.edition.Edition.{Edition}
use Rattle.messages.proofs.Laws.{write_accepted}
use Rattle.messages.proofs.Rule.{shape_count}
use Rattle.dock.specs.Dock.{Decision, refuses, accepts, sends, accepted_by, step_of, buffer_of, Stepped}
use Rattle.dock.specs.declared.Dock.{Dock}
use Rattle.dock.specs.Step.{Step, stepped}

-- what comes back is a refusal, or a new state with nothing to send
module _ (d : Dock) (decision : Decision) (out : List ℕ) where
  pub refuse : (refusal : Refusal) → decision ≡ refuses (number_of refusal) → Stepped d decision out (stepped d (Err refusal)) out
  unfolding step_of buffer_of
  refuse refusal e =
      record {
        step_is = sym (ap (λ (x : Decision). step_of d x (length out)) e);
        buffer_is = sym (ap (λ (x : Decision). buffer_of x out) e);
      }

  pub accept : (next other : Dock) → decision ≡ accepts next → other ≡ next →
      Stepped d decision out (stepped d (Ok (record { length = 0; dock = other }))) out
  unfolding step_of buffer_of
  accept next other e is =
      record {
        step_is = ap (accepted_by 0) is ∙ sym (ap (λ (x : Decision). step_of d x (length out)) e);
        buffer_is = sym (ap (λ (x : Decision). buffer_of x out) e);
      }

-- a call that goes on in another
pub same : (d : Dock) (decision other : Decision) (out : List ℕ) (s : Step) (after : List ℕ) → decision ≡ other → Stepped d other out s after →
    Stepped d decision out s after
same d decision other out s after e stepped =
    record {
      step_is = stepped.step_is ∙ sym (ap (λ (x : Decision). step_of d x (length out)) e);
      buffer_is = stepped.buffer_is ∙ sym (ap (λ (x : Decision). buffer_of x out) e);
    }

-- a message handed over, or refused by the buffer
module _ (d next : Dock) (m : Message) (out after : List ℕ) where
  pub send_refused : (refusal : Refusal) → Written next.edition m out (number_of refusal) after →
      Stepped d (sends m next) out (stepped d (Err refusal)) after
  unfolding step_of buffer_of
  send_refused refusal w =
      let e : write_refusal m (length out) ≡ number_of refusal = sym w.number_is in
      record { step_is = rw (e, ne_eqb (number_of refusal) 0 (numbered refusal)); buffer_is = w.buffer_is }

  module _ (w : Written next.edition m out 0 after) where
    pub send_few : length m.objects ≤ 6
    unfolding well_shaped
    send_few =
        let good : well_shaped m ≡ true = ((write_accepted m (length out)).0 (sym w.number_is)).0 in
        omega (arith, (shape_count m.head (length m.objects + 1) good).1)

    pub send_whole : (other : Dock) → other ≡ next → Stepped d (sends m next) out (stepped d (Ok (record { length = message_length m; dock = other }))) after
    unfolding step_of buffer_of
    send_whole other is =
        let e : write_refusal m (length out) ≡ 0 = sym w.number_is in
        record { step_is = rw (e, is); buffer_is = w.buffer_is }

pub written_head : (at : Edition) (h h' : Head) (objects out : List ℕ) (number : ℕ) (after : List ℕ) → h ≡ h' →
    Written at (record { head = h; objects = objects }) out number after → Written at (record { head = h'; objects = objects }) out number after
written_head at h h' objects out number after e w =
    subst (λ (x : Head). Written at (record { head = x; objects = objects }) out number after) e w
