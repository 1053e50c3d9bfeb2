-- What is written on acceptance alone.
use mathlib.Core.Path.{◌≡◌, sym, ◌∙◌}
use Prim.Native.Nat.{ℕ}
use borrow.Author.Tests.{eq-eqb, ne_eqb}
use Rattle.laws.specs.Lent.{accepted}

pub accepted_written : {A : Type 0} (number : ℕ) (written before : A) → number ≡ 0 → written ≡ accepted number written before
unfolding accepted
accepted_written number written before e = rw (eq-eqb _ _ e)

pub accepted_kept : {A : Type 0} (number : ℕ) (written before : A) → (number ≡ 0 → ⊥) → before ≡ accepted number written before
unfolding accepted
accepted_kept number written before e = rw (ne_eqb _ _ e)

pub refused_kept : {A : Type 0} {number : ℕ} (written : A) {before a : A} → (number ≡ 0 → ⊥) → a ≡ accepted number written before → a ≡ before
refused_kept {number = number} written {before} n e = e ∙ sym (accepted_kept number written before n)
