-- A result that a promise allows is the only one.
use mathlib.Core.Path.{◌≡◌, ap, sym, ◌∙◌}
use mathlib.Core.List.{List}
use Prim.Native.Nat.{ℕ}
use denote.Ref.{MutBor}
use Rattle.dock.specs.Step.{Step}
use Rattle.port.specs.Step.{Step as PortStep}
use Rattle.controller.specs.DockCalls.{DockStep}
use Rattle.controller.specs.LaptopCalls.{LaptopStep}
use Rattle.laws.specs.Lent.{Lent, lent, left, leaving, accepted}

pub accepted_only : {A : Type 0} {number number' : ℕ} (written before : A) {a b : A} → number ≡ number' → a ≡ accepted number written before →
    b ≡ accepted number' written before → a ≡ b
accepted_only {A} written before e p p' = p ∙ ap (λ (n : ℕ). accepted n written before) e ∙ sym p'

pub dock_step_only : {step : Step} {number number' : ℕ} {state : Lent (List ℕ)} {bytes : Lent ℕ} {state' : MutBor (List ℕ)} {bytes' : MutBor ℕ} →
    DockStep step number state bytes → DockStep step number' (leaving state state') (leaving bytes bytes') →
    (number ≡ number') × (left state ≡ state'.now) × (left bytes ≡ bytes'.now)
dock_step_only {state = state} {bytes = bytes} p p' =
    let same = p.number_is ∙ sym p'.number_is in
    (same, accepted_only _ (lent state) same p.state_is p'.state_is, accepted_only _ (lent bytes) same p.bytes_is p'.bytes_is)

pub laptop_step_only : {step : PortStep} {number number' : ℕ} {state handed : Lent (List ℕ)} {state' handed' : MutBor (List ℕ)} →
    LaptopStep step number state handed → LaptopStep step number' (leaving state state') (leaving handed handed') →
    (number ≡ number') × (left state ≡ state'.now) × (left handed ≡ handed'.now)
laptop_step_only {handed = handed} p p' =
    let same = p.number_is ∙ sym p'.number_is in
    (same, p.state_is ∙ sym p'.state_is, accepted_only _ (lent handed) same p.handed_is p'.handed_is)
