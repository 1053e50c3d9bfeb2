-- Two results that a promise of the dock allows are equal, call by call.
use mathlib.Core.Path.{◌≡◌}
use mathlib.Core.Bool.{Bool, false}
use mathlib.Core.List.{List, []}
use Prim.Native.Nat.{ℕ}
use Rattle.std.specs.Prelude.{Result, Ok, Err}
use Rattle.laws.proofs.Tight.{one_value}
use Rattle.messages.specs.Reading.{read_outcome}
use Rattle.messages.specs.Refusals.{number_of}
use Rattle.messages.specs.declared.edition.Edition.{Edition}
use Rattle.messages.specs.declared.refusal.Refusal.{Refusal}
use Rattle.messages.specs.declared.request.Request.{Request}
use Rattle.dock.specs.Data.{fresh_dock, with_standing, with_edition}
use Rattle.dock.specs.Dock.{sends, refused_by, accepted_by, step_of, Stepped, reply, sending, decide_load, decide_message, decide_policy_answer, decide_sent, decide_failed}
use Rattle.dock.specs.declared.Accepted.{Accepted}
use Rattle.dock.specs.declared.Dock.{Dock}
use Rattle.dock.specs.declared.Policy.{Policy}
use Rattle.dock.specs.declared.Standing.{Standing}
use Rattle.dock.specs.Step.{Step, stepped}
use Rattle.dock.proofs.Laws.{step_only, stepped_once}

pub fresh_only : (d other : Dock) → d ≡ fresh_dock → other ≡ fresh_dock → d ≡ other
fresh_only d other = one_value

module _ (d : Dock) (s other : Step) where
  pub load_only : (identity svids : List ℕ) → s ≡ step_of d (decide_load d d.standing identity svids) 0 →
      other ≡ step_of d (decide_load d d.standing identity svids) 0 → s ≡ other
  load_only identity svids = one_value

  pub sent_only : s ≡ step_of d (decide_sent d d.standing) 0 → other ≡ step_of d (decide_sent d d.standing) 0 → s ≡ other
  sent_only = one_value

  pub failed_only : s ≡ step_of d (decide_failed d d.standing) 0 → other ≡ step_of d (decide_failed d d.standing) 0 → s ≡ other
  failed_only = one_value

  pub refused_only : (number : ℕ) → s ≡ refused_by number d → other ≡ refused_by number d → s ≡ other
  refused_only number = one_value

  pub accepted_only : (length : ℕ) → s ≡ accepted_by length d → other ≡ accepted_by length d → s ≡ other
  accepted_only length = one_value

  module _ (out after after' : List ℕ) where
    pub message_only : (bytes : List ℕ) → Stepped d (decide_message d (read_outcome bytes)) out s after →
        Stepped d (decide_message d (read_outcome bytes)) out other after' → (s ≡ other) × (after ≡ after')
    message_only bytes = step_only d (decide_message d (read_outcome bytes)) out s other after after'

    pub policy_answer_only : (policy : Policy) (r : Request) (objects : List ℕ) → Stepped d (decide_policy_answer d d.standing policy r objects) out s after →
        Stepped d (decide_policy_answer d d.standing policy r objects) out other after' → (s ≡ other) × (after ≡ after')
    policy_answer_only policy r objects = step_only d (decide_policy_answer d d.standing policy r objects) out s other after after'

    pub send_only : (at : Edition) (r : Request) (kind : ℕ) (objects : List ℕ) (is_page : Bool) →
        Stepped d (sends (reply r kind objects) (sending is_page (with_edition at d))) out s after →
        Stepped d (sends (reply r kind objects) (sending is_page (with_edition at d))) out other after' → (s ≡ other) × (after ≡ after')
    send_only at r kind objects is_page = step_only d (sends (reply r kind objects) (sending is_page (with_edition at d))) out s other after after'

    pub send_bare_only : (at : Edition) (r : Request) (kind : ℕ) → Stepped d (sends (reply r kind []) (sending false (with_edition at d))) out s after →
        Stepped d (sends (reply r kind []) (sending false (with_edition at d))) out other after' → (s ≡ other) × (after ≡ after')
    send_bare_only at r kind = send_only at r kind [] false

-- a step that is refused or accepted is what the code gives: that refusal, or that many bytes and that state
module _ (d : Dock) (r : Result Accepted Refusal) where
  pub refused_given : (refusal : Refusal) → stepped d r ≡ refused_by (number_of refusal) d → r ≡ Err refusal
  refused_given refusal = stepped_once d r (Err refusal)

  pub accepted_given : (accepted : Accepted) → stepped d r ≡ accepted_by accepted.length accepted.dock → r ≡ Ok accepted
  accepted_given accepted = stepped_once d r (Ok accepted)

pub standing_only : (standing : Standing) (d after other : Dock) → after ≡ with_standing standing d → other ≡ with_standing standing d → after ≡ other
standing_only standing d after other = one_value

pub spoken_only : (at : Edition) (d after other : Dock) → after ≡ with_edition at d → other ≡ with_edition at d → after ≡ other
spoken_only at d after other = one_value
