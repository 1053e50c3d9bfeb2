-- To the port, a message with bit 5 set is the message with bit 5 clear (02, R-2).
use mathlib.Core.Path.{◌≡◌, refl, ap, ◌∙◌}
use mathlib.Core.List.{List, [], ◌∷◌}
use Prim.Native.Nat.{ℕ}
use Rattle.laptop.specs.State.{Memory}
use Rattle.laptop_laws.specs.Effects.{message as laptop_message}
use Rattle.laptop_laws.specs.Effects.{Effect as LaptopEffect}
use Rattle.laptop_laws.proofs.Reserved.{effect_same as laptop_effect_same}
use Rattle.port.specs.Sides.{Wait, seen}
use Rattle.port.specs.declared.Port.{Port}
use Rattle.port.specs.declared.Side.{Side}
use Rattle.port_laws.specs.Effects.{Call, message, next, start_over, drop, enter, exit, timer, protocol_error, concerns, Effect, effect_of, on_side, Kept, memory_of, kept_on, kept_by_of, kept_after}
use Rattle.port_laws.specs.Reserved.{reserved_clear, all_reserved_clear}

-- the whole effect is the same: number, message to send, what policy is told, state, what is lent and the buffer
pub effect_same : (c : Call) (p : Port) (m : Memory) (out : List ℕ) → effect_of (reserved_clear c) p m out ≡ effect_of c p m out
effect_same (message side bytes) p m out = ap (λ (e : LaptopEffect). on_side side p e) (laptop_effect_same (laptop_message bytes) (seen side p) m out)
effect_same (next side) p m out = refl
effect_same (start_over side) p m out = refl
effect_same (drop side) p m out = refl
effect_same (enter side svid position) p m out = refl
effect_same (exit side svid position) p m out = refl
effect_same (timer first last) p m out = refl
effect_same protocol_error p m out = refl

-- and so is the side that it concerns
concerns_same : (c : Call) (w : Wait) → concerns (reserved_clear c) w ≡ concerns c w
concerns_same (message side bytes) w = refl
concerns_same (next side) w = refl
concerns_same (start_over side) w = refl
concerns_same (drop side) w = refl
concerns_same (enter side svid position) w = refl
concerns_same (exit side svid position) w = refl
concerns_same (timer first last) w = refl
concerns_same protocol_error w = refl

kept_by_same : (c : Call) (out : List ℕ) (k : Kept) → kept_by_of (reserved_clear c) out k ≡ kept_by_of c out k
kept_by_same c out k =
    ap (λ (s : Side). kept_on s (effect_of (reserved_clear c) k.port (memory_of s k) out) k) (concerns_same c k.port.wait) ∙
    ap (λ (e : Effect). kept_on (concerns c k.port.wait) e k) (effect_same c k.port (memory_of (concerns c k.port.wait) k) out)

-- and so after any calls are the port and what each side is lent
pub kept_same : (history : List (Call × List ℕ)) (k : Kept) → kept_after (all_reserved_clear history) k ≡ kept_after history k
kept_same [] k = refl
kept_same (c ∷ rest) k = kept_same rest _ ∙ ap (kept_after rest) (kept_by_same c.0 c.1 k)
