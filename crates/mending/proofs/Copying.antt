-- The front of a file copied, and the end put behind it.
use mathlib.Core.Path.{◌≡◌, ap, sym, ◌∙◌}
use mathlib.Core.List.{List, [], ◌∷◌, ◌++◌}
use Prim.Native.Nat.{ℕ, ◌+◌, ◌≤◌}
use native.Mathlib.Omega.{arith}
use lib.ListN.{length, take, drop, set}
use lib.Seq.{sets, length-take-le}
use Rattle.laws.proofs.Stores.{sets_append, sets_front}

from_zero : (n : ℕ) → n ≡ 0 + n
from_zero n = omega arith

pub copied_end : (out bytes part : List ℕ) (number kind : ℕ) → part ≡ take number bytes → number ≤ length bytes → number ≤ length out →
    set (part ++ drop number out) number kind ≡ sets out 0 (take number bytes ++ kind ∷ [])
copied_end out bytes part number kind e there room =
    let front : List ℕ = take number bytes in
    let size : length front ≡ number = length-take-le number bytes there in
    ap (λ (l : List ℕ). set (l ++ drop number out) number kind) e ∙
    ap (λ (k : ℕ). set (front ++ drop k out) number kind) (sym size) ∙
    ap (λ (l : List ℕ). set l number kind) (sym (sets_front out front (omega (arith, size)))) ∙
    ap (λ (k : ℕ). set (sets out 0 front) k kind) (sym size ∙ from_zero (length front)) ∙
    sym (sets_append out 0 front (kind ∷ []))
