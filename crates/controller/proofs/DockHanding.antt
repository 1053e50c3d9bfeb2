-- What the dock's calls hand over.
use mathlib.Core.Path.{◌≡◌, ap, sym, ◌∙◌}
use Rattle.std.specs.Prelude.{Result, Ok, Err}
use mathlib.Core.List.{List}
use Prim.Native.Nat.{ℕ}
use lib.ListN.{length}
use Rattle.messages.specs.declared.request.Request.{Request}
use Rattle.dock.specs.Dock.{Decision, decide_policy_answer, step_of, buffer_of, Stepped}
use Rattle.dock.specs.declared.Dock.{Dock}
use Rattle.dock.specs.declared.Policy.{Policy}
use Rattle.dock.specs.Step.{Step, stepped}
use Rattle.dock.specs.declared.Accepted.{Accepted}
use Rattle.messages.specs.declared.refusal.Refusal.{Refusal}
use Rattle.messages.proofs.Numbers.{numbered}
use Rattle.controller.specs.Dock.{dock_numbers}
use Rattle.controller.specs.DockCalls.{DockStep, dock_lent, DockSendsNothing, DockSends, load_step, DockLoads}
use Rattle.laws.specs.Lent.{Lent, lent, left, accepted}
use Rattle.controller.proofs.Accepting.{accepted_written, accepted_kept}

module _ {step : Step} {number : ℕ} {state : Lent (List ℕ)} {bytes : Lent ℕ}
    (h : (number ≡ step.refusal) × (left state ≡ accepted number (dock_numbers step.dock) (lent state)) × (left bytes ≡ accepted number step.length (lent bytes))) where
  step_in : (step' : Step) → step ≡ step' → DockStep step' number state bytes
  step_in step' e = rw (sym e) (record { number_is = h.0; state_is = h.1; bytes_is = h.2 })

  module _ {identity svids : List ℕ} {d : Dock} (dock_is : d ≡ dock_lent state identity svids) where
    pub sends_nothing_in : {decide : Dock → Decision} → step ≡ step_of d (decide d) 0 → DockSendsNothing decide number state identity svids bytes
    sends_nothing_in {decide} e = record { step_is = step_in _ (e ∙ ap (λ (x : Dock). step_of x (decide x) 0) dock_is) }

    pub sends_in : {decide : Dock → Decision} {out : Lent (List ℕ)} → Stepped d (decide d) (lent out) step (left out) →
        DockSends decide number state identity svids out bytes
    sends_in {decide} {out} s =
        record {
          step_is = step_in _ (s.step_is ∙ ap (λ (x : Dock). step_of x (decide x) (length (lent out))) dock_is);
          buffer_is = s.buffer_is ∙ ap (λ (x : Dock). buffer_of (decide x) (lent out)) dock_is;
        }

-- loading, where it was accepted, and where not
module _ {given : Result Accepted Refusal} {number : ℕ} {state identity svids : Lent (List ℕ)} {bytes : Lent ℕ} {d : Dock}
    (h : (number ≡ (stepped d given).refusal) × (left state ≡ accepted number (dock_numbers (stepped d given).dock) (lent state)) ×
    (left bytes ≡ accepted number (stepped d given).length (lent bytes)))
    (dock_is : d ≡ dock_lent state (lent identity) (lent svids)) {new_identity new_svids : List ℕ} (loads : stepped d given ≡ load_step d new_identity new_svids) where
  pub loads_written : {a : Accepted} → given ≡ Ok a → left identity ≡ a.dock.identity → left svids ≡ a.dock.svids →
      DockLoads new_identity new_svids number state identity svids bytes
  loads_written {a} is ei ev =
      let load_is : stepped d given ≡ load_step (dock_lent state (lent identity) (lent svids)) new_identity new_svids =
      loads ∙ ap (λ (x : Dock). load_step x new_identity new_svids) dock_is in
      let same : stepped d (Ok a) ≡ load_step (dock_lent state (lent identity) (lent svids)) new_identity new_svids = ap (stepped d) (sym is) ∙ load_is in
      let none : number ≡ 0 = h.0 ∙ ap (λ (r : Result Accepted Refusal). (stepped d r).refusal) is in
      record {
        step_is = step_in h _ load_is;
        identity_is = ei ∙ ap (λ (s : Step). s.dock.identity) same ∙ accepted_written number _ (lent identity) none;
        svids_is = ev ∙ ap (λ (s : Step). s.dock.svids) same ∙ accepted_written number _ (lent svids) none;
      }

  pub loads_kept : {r : Refusal} → given ≡ Err r → left identity ≡ lent identity → left svids ≡ lent svids →
      DockLoads new_identity new_svids number state identity svids bytes
  loads_kept {r} is ei ev =
      let load_is : stepped d given ≡ load_step (dock_lent state (lent identity) (lent svids)) new_identity new_svids =
      loads ∙ ap (λ (x : Dock). load_step x new_identity new_svids) dock_is in
      let some : number ≡ 0 → ⊥ = λ e. numbered r (sym (h.0 ∙ ap (λ (r : Result Accepted Refusal). (stepped d r).refusal) is) ∙ e) in
      record {
        step_is = step_in h _ load_is;
        identity_is = ei ∙ accepted_kept number _ (lent identity) some;
        svids_is = ev ∙ accepted_kept number _ (lent svids) some;
      }

-- what policy says, as the number has it
pub policy_as : {d : Dock} {p p' : Policy} (request : Request) (objects : List ℕ) {out : List ℕ} {step : Step} {after : List ℕ} → p ≡ p' →
    Stepped d (decide_policy_answer d d.standing p request objects) out step after → Stepped d (decide_policy_answer d d.standing p' request objects) out step after
policy_as {d} request objects {out} e s =
    record {
      step_is = s.step_is ∙ ap (λ (x : Policy). step_of d (decide_policy_answer d d.standing x request objects) (length out)) e;
      buffer_is = s.buffer_is ∙ ap (λ (x : Policy). buffer_of (decide_policy_answer d d.standing x request objects) out) e;
    }
