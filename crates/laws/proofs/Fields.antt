-- A field of a number, read off by a division and a remainder.
use mathlib.Core.Path.{◌≡◌, ap, ◌∙◌}
use Prim.Native.Nat.{ℕ, ◌+◌, ◌*◌, ◌/◌, ◌%◌, ◌<◌}
use native.Mathlib.Nat.{add-zero, div-eq_of_lt, mod-eq_of_lt, mul-add-div_right, mul-add-mod_self_right}
use native.Mathlib.Omega.{arith}

-- w is (q b + r) a + rest: the digit r below b stands before the rest below a
pub field : (w a b q r rest : ℕ) → w ≡ (q * b + r) * a + rest → rest < a → r < b → w / a % b ≡ r
field w a b q r rest e below small =
    let quotient : w / a ≡ q * b + r =
    ap (λ (n : ℕ). n / a) e ∙ mul-add-div_right (omega arith) (q * b + r) rest ∙
    ap (λ (n : ℕ). q * b + r + n) (div-eq_of_lt below) ∙ add-zero (q * b + r) in
    ap (λ (n : ℕ). n % b) quotient ∙ mul-add-mod_self_right q b r ∙ mod-eq_of_lt small
