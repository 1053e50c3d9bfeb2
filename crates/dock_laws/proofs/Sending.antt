-- The numbers that sending a message gives.
use mathlib.Core.Logic.{◌⊎◌, inl, inr}
use mathlib.Core.Path.{◌≡◌, refl, sym}
use mathlib.Core.Bool.{Bool, true, false, cond, not}
use mathlib.Core.List.{List}
use Prim.Native.Nat.{ℕ}
use native.Mathlib.Omega.{arith}
use lib.Dec.{ltb, eqb}
use lib.ListN.{length}
use borrow.Author.Tests.{eqb-true, ltb-true, lt-ltb}
use Rattle.messages.specs.Layout.{Message, message_length}
use Rattle.messages.specs.Writing.{well_shaped, write_refusal}
use Rattle.dock.specs.Dock.{sends, accepted_by, refused_by, step_of}
use Rattle.dock.specs.declared.Dock.{Dock}
use Rattle.dock_laws.specs.Given.{TooShort}

-- what is to be sent is refused as writing refuses it
pub sends_refusal : (d : Dock) (m : Message) (next : Dock) (room : ℕ) → (step_of d (sends m next) room).refusal ≡ write_refusal m room
unfolding step_of
sends_refusal d m next room = go (eqb (write_refusal m room) 0) refl
  where
    go : (t : Bool) → eqb (write_refusal m room) 0 ≡ t →
        (cond t (accepted_by (message_length m) next) (refused_by (write_refusal m room) d)).refusal ≡ write_refusal m room
    go true e = sym (eqb-true (write_refusal m room) 0 e)
    go false e = refl

pub too_short : (m : Message) (out : List ℕ) → TooShort out m → ltb (length out) (message_length m) ≡ true
too_short m out h = lt-ltb (length out) (message_length m) (omega arith)

-- writing
pub write_given : (number : ℕ) → (number ≡ 0 → ⊥) → (m : Message) (out : List ℕ) → write_refusal m (length out) ≡ number →
    ((number ≡ 5) × (well_shaped m ≡ false)) ⊎ ((number ≡ 11) × (well_shaped m ≡ true) × TooShort out m)
unfolding write_refusal
write_given number some m out = go (well_shaped m) (ltb (length out) (message_length m)) refl refl
  where
    go : (s t : Bool) → well_shaped m ≡ s → ltb (length out) (message_length m) ≡ t → cond (not s) 5 (cond t 11 0) ≡ number →
        ((number ≡ 5) × (well_shaped m ≡ false)) ⊎ ((number ≡ 11) × (well_shaped m ≡ true) × TooShort out m)
    go false t es et h = inl (sym h, es)
    go true true es et h = inr (sym h, es, omega (arith, ltb-true (length out) (message_length m) et))
    go true false es et h = absurd (some (sym h))
