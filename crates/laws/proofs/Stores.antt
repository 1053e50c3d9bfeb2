-- A run of stores, in parts.
use mathlib.Core.Path.{◌≡◌, ap, ◌∙◌, sym}
use mathlib.Core.List.{List, [], ◌∷◌, ◌++◌}
use Prim.Native.Nat.{ℕ, suc, ◌+◌, ◌<◌, ◌≤◌}
use native.Mathlib.Nat.{add-zero}
use native.Mathlib.Omega.{arith}
use native.Mathlib.Numerals.{add-one}
use lib.ListN.{length, get_or, take, drop, set}
use lib.Seq.{sets, sets-eq, take-suc, length-take-le}
use borrow.Rule.Slice.PartMut.{put_mid}
use Rattle.std.proofs.Common.{append_assoc}
use Rattle.std.proofs.lemmas.List.{drop-drop}

module _ {A : Type 0} where
  pub sets_append : (l : List A) (i : ℕ) (vs ws : List A) → sets l i (vs ++ ws) ≡ sets (sets l i vs) (i + length vs) ws
  sets_append l i [] ws = ap (λ (k : ℕ). sets l k ws) (sym (add-zero i))
  sets_append l i (v ∷ vs) ws =
      let e : suc i + length vs ≡ i + suc (length vs) = omega arith in
      sets_append (set l i v) (suc i) vs ws ∙ ap (λ (k : ℕ). sets (sets (set l i v) (suc i) vs) k ws) e

  -- stores from the front
  pub sets_front : (l vs : List A) → length vs ≤ length l → sets l 0 vs ≡ vs ++ drop (length vs) l
  sets_front l vs h =
      let e : 0 + length vs ≡ length vs = omega arith in
      sets-eq vs l 0 (rw e h) ∙ ap (λ (k : ℕ). vs ++ drop k l) e

  -- one value more behind the first i
  pub sets_next : (l : List A) (at i : ℕ) (vs : List A) (d : A) → i < length vs →
      set (sets l at (take i vs)) (at + i) (get_or vs i d) ≡ sets l at (take (i + 1) vs)
  sets_next l at i vs d h =
      let more : take (i + 1) vs ≡ take i vs ++ get_or vs i d ∷ [] = rw add-one (take-suc vs i d h) in
      let size : length (take i vs) ≡ i = length-take-le i vs (omega arith) in
      sym
      (ap (sets l at) more ∙ sets_append l at (take i vs) (get_or vs i d ∷ []) ∙
      ap (λ (k : ℕ). set (sets l at (take i vs)) (at + k) (get_or vs i d)) size)

  -- a part that is lent, and is left as some values
  pub put_part : (at k : ℕ) (l part vs : List A) → part ≡ vs → k ≡ length vs → at + length vs ≤ length l → put_mid at k l part ≡ sets l at vs
  put_part at k l part vs is size room = rw (is, size, drop-drop) (sym (append_assoc (take at l) vs (drop (at + length vs) l)) ∙ sym (sets-eq vs l at room))
