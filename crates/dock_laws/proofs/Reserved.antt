-- To the dock, a message with bit 5 set is the message with bit 5 clear (02, R-2).
use mathlib.Core.Path.{◌≡◌, refl, ap, ◌∙◌}
use mathlib.Core.List.{List, [], ◌∷◌}
use Prim.Native.Nat.{ℕ}
use lib.ListN.{length}
use Rattle.messages.specs.Reading.{Outcome}
use Rattle.messages.proofs.Reserved.{reserved_ignored}
use Rattle.dock.specs.Dock.{step_of, buffer_of, decide_message}
use Rattle.dock.specs.declared.Dock.{Dock}
use Rattle.dock.specs.Step.{Step}
use Rattle.dock_laws.specs.Effects.{Call, load, message, policy_answer, sent, failed, decision, effect_of, dock_after}
use Rattle.dock_laws.specs.Reserved.{reserved_clear, all_reserved_clear}

-- the same step, and the same buffer
pub effect_same : (c : Call) (d : Dock) (out : List ℕ) →
    (effect_of (reserved_clear c) d out ≡ effect_of c d out) × (buffer_of (decision (reserved_clear c) d) out ≡ buffer_of (decision c d) out)
effect_same (load identity svids) d out = (refl, refl)
effect_same (message bytes) d out = (
  ap (λ (o : Outcome). step_of d (decide_message d o) (length out)) (reserved_ignored bytes),
  ap (λ (o : Outcome). buffer_of (decide_message d o) out) (reserved_ignored bytes),
)
effect_same (policy_answer policy r objects) d out = (refl, refl)
effect_same sent d out = (refl, refl)
effect_same failed d out = (refl, refl)

-- and so is the dock after any calls
pub dock_same : (history : List (Call × List ℕ)) (d : Dock) → dock_after (all_reserved_clear history) d ≡ dock_after history d
dock_same [] d = refl
dock_same (c ∷ rest) d = dock_same rest _ ∙ ap (λ (s : Step). dock_after rest s.dock) (effect_same c.0 d c.1).0
