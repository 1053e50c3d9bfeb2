-- To the laptop, a message with bit 5 set is the message with bit 5 clear (02, R-2).
use mathlib.Core.Path.{◌≡◌, refl, ap, ◌∙◌}
use mathlib.Core.List.{List, [], ◌∷◌}
use Prim.Native.Nat.{ℕ}
use Rattle.messages.specs.Reading.{Outcome}
use Rattle.messages.proofs.Reserved.{reserved_ignored}
use Rattle.hearing.specs.Hearing.{heard}
use Rattle.laptop.specs.State.{Memory}
use Rattle.laptop.specs.declared.Laptop.{Laptop}
use Rattle.laptop_laws.specs.Effects.{Call, message, next, start_over, drop, enter, exit, timer, protocol_error, Effect, effect_of, Kept, kept_after}
use Rattle.laptop_laws.specs.Reserved.{reserved_clear, all_reserved_clear}

-- the whole effect is the same: number, message to send, what policy is told, state, what is lent and the buffer
pub effect_same : (c : Call) (l : Laptop) (m : Memory) (out : List ℕ) → effect_of (reserved_clear c) l m out ≡ effect_of c l m out
effect_same (message bytes) l m out =
    ap hearing (reserved_ignored bytes)
  where
    hearing : Outcome → Effect
    hearing o = record { step = (heard l m o).step; after = (heard l m o).after; buffer = out }
effect_same next l m out = refl
effect_same start_over l m out = refl
effect_same drop l m out = refl
effect_same (enter svid position) l m out = refl
effect_same (exit svid position) l m out = refl
effect_same (timer first last) l m out = refl
effect_same protocol_error l m out = refl

-- and so after any calls are the laptop and what it is lent
pub kept_same : (history : List (Call × List ℕ)) (k : Kept) → kept_after (all_reserved_clear history) k ≡ kept_after history k
kept_same [] k = refl
kept_same (c ∷ rest) k =
    kept_same rest _ ∙ ap (λ (e : Effect). kept_after rest (record { laptop = e.step.laptop; memory = e.after })) (effect_same c.0 k.laptop k.memory c.1)
