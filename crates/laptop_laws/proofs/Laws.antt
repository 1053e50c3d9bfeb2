-- What the laptop keeps, by the promises of its calls.
use mathlib.Core.Path.{◌≡◌, sym, ◌∙◌}
use mathlib.Core.List.{List, [], ◌∷◌}
use Prim.Native.Nat.{ℕ}
use lib.ListN.{length, replicate}
use Rattle.laptop.specs.Calls.{Decision, Stepped}
use Rattle.laptop_laws.specs.Effects.{Call, message, next, start_over, drop, enter, exit, timer, protocol_error, effect_of, Kept, kept_after}
use Rattle.laptop.specs.State.{Memory, fresh_laptop}
use Rattle.laptop_laws.specs.WellFormed.{Lent, WellFormed}
use Rattle.laptop.specs.declared.Laptop.{Laptop}
use Rattle.laptop.specs.Step.{Step}
use Rattle.laptop_laws.proofs.Answering.{message_keeps}
use Rattle.laptop_laws.proofs.Keeping.{step_formed, next_keeps, start_keeps, drop_keeps, enter_keeps, exit_keeps, timer_keeps, error_keeps, fresh_formed}

-- a well-formed laptop is well-formed after every call
pub keeps : (c : Call) (l : Laptop) (m : Memory) (out : List ℕ) → WellFormed l m →
    WellFormed (effect_of c l m out).step.laptop (effect_of c l m out).after
keeps (message bytes) l m out w = message_keeps l m w bytes
keeps next l m out w = step_formed l m w _ (next_keeps l m w) (length out)
keeps start_over l m out w = step_formed l m w _ (start_keeps l m w) (length out)
keeps drop l m out w = step_formed l m w _ (drop_keeps l m w) (length out)
keeps (enter svid position) l m out w = step_formed l m w _ (enter_keeps l m w svid position) (length out)
keeps (exit svid position) l m out w = step_formed l m w _ (exit_keeps l m w svid position) (length out)
keeps (timer first last) l m out w = step_formed l m w _ (timer_keeps l m w first last l.wait) (length out)
keeps protocol_error l m out w = step_formed l m w _ (error_keeps l m w l.wait) (length out)

-- and so is a fresh one
pub fresh : (m : Memory) → Lent m → m.entered ≡ replicate 72 0 → WellFormed fresh_laptop m
fresh m lent e = fresh_formed m lent e

-- and after any number of calls
pub keeps_all : (history : List (Call × List ℕ)) (k : Kept) → WellFormed k.laptop k.memory →
    WellFormed (kept_after history k).laptop (kept_after history k).memory
keeps_all [] k f = f
keeps_all (c ∷ rest) k f = keeps_all rest _ (keeps c.0 k.laptop k.memory c.1 f)

-- a result that a promise allows is the only one
pub step_only : (l : Laptop) (decision : Decision) (out : List ℕ) (s s' : Step) (after after' : List ℕ) →
    Stepped l decision out s after → Stepped l decision out s' after' → (s ≡ s') × (after ≡ after')
step_only l decision out s s' after after' p p' = (p.step_is ∙ sym p'.step_is, p.buffer_is ∙ sym p'.buffer_is)
