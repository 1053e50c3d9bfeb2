-- What a partner's kind fixes: the length of its body.
use mathlib.Core.Path.{◌≡◌, refl}
use mathlib.Core.Bool.{Bool, true, false, cond}
use Prim.Native.Nat.{ℕ, ◌*◌, ◌≤◌}
use native.Mathlib.Omega.{arith}
use lib.Dec.{leb}
use borrow.Author.Tests.{leb-true}
use Rattle.laws.proofs.Lines.{and_left, and_right}
use Rattle.events.specs.Events.{is_message, names_mode, partners_length}

pub message_bounds : (kind : ℕ) → is_message kind ≡ true → (1 ≤ kind) × (kind ≤ 7)
unfolding is_message
message_bounds kind e =
    (leb-true 1 kind (and_left (leb 1 kind) (leb kind 7) e), leb-true kind 7 (and_right (leb 1 kind) (leb kind 7) e))

pub length_most : (kind : ℕ) → partners_length kind ≤ 28
unfolding partners_length
length_most kind = go (is_message kind) refl
  where
    other : (t : Bool) → cond t 3 0 ≤ 28
    other true = omega arith
    other false = omega arith

    go : (t : Bool) → is_message kind ≡ t → cond t (kind * 4) (cond (names_mode kind) 3 0) ≤ 28
    go true e = omega (arith, (message_bounds kind e).1)
    go false e = other (names_mode kind)
