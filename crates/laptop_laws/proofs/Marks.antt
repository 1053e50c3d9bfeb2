-- What is entered after marking and unmarking: nothing but what was, and the mode that Enter named.
use mathlib.Core.Logic.{◌⊎◌, inl, inr}
use mathlib.Core.Path.{◌≡◌, refl, ap, sym, ◌∙◌, subst}
use mathlib.Core.Bool.{Bool, true, false, cond}
use mathlib.Core.List.{List}
use Prim.Native.Nat.{ℕ, zero, suc, ◌-◌, ◌*◌, ◌/◌, ◌%◌, ◌^◌, ◌<◌, ◌≤◌}
use native.Mathlib.Omega.{arith}
use lib.Bits.{bit_and, bit_or, and_comm, and_zero_l, or_zero_l, and_shr, or_shr, and_mod, or_mod}
use lib.Dec.{ltb, eqb}
use lib.ListN.{length, get_or, set, length-set, get_or-eq_default}
use lib.Pow.{pow_pos, pow-lt}
use lib.Seq.{get_or-set_same, get_or-set_other}
use borrow.Author.Tests.{le-leb, eqb-true, eqb-false, ltb-true, ltb-false}
use Rattle.laptop.specs.Marks.{place_of, named, marked_by, marks_after}
use Rattle.laptop_laws.proofs.Bits.{Set, one_bit, none_set}

-- a power of two has one bit
power_bit : (j k : ℕ) → 2 ^ j / 2 ^ k % 2 ≡ 1 → j ≡ k
power_bit j k e =
    let here : bit_and (2 ^ j) (2 ^ k) ≡ 1 * 2 ^ k = one_bit (2 ^ j) k ∙ ap (λ (x : ℕ). x * 2 ^ k) e in
    let there : bit_and (2 ^ j) (2 ^ k) ≡ (2 ^ k / 2 ^ j % 2) * 2 ^ j = and_comm (2 ^ j) (2 ^ k) ∙ one_bit (2 ^ k) j in
    go (2 ^ k / 2 ^ j % 2) (omega arith) (sym here ∙ there) (ltb j k) (ltb k j) refl refl
  where
    go : (b : ℕ) → b ≤ 1 → 1 * 2 ^ k ≡ b * 2 ^ j → (s t : Bool) → ltb j k ≡ s → ltb k j ≡ t → j ≡ k
    go zero h x s t es et = absurd (omega (arith, x, pow_pos k))
    go (suc zero) h x true t es et = absurd (omega (arith, x, pow-lt (ltb-true j k es)))
    go (suc zero) h x false true es et = absurd (omega (arith, x, pow-lt (ltb-true k j et)))
    go (suc zero) h x false false es et = omega (arith, ltb-false j k es, ltb-false k j et)
    go (suc (suc b)) h x s t es et = absurd (omega (arith, h))

-- the bits of both, and of either
module _ (a b k : ℕ) where
  or_bit : bit_or a b / 2 ^ k % 2 ≡ 1 → (a / 2 ^ k % 2 ≡ 1) ⊎ (b / 2 ^ k % 2 ≡ 1)
  or_bit e = go (a / 2 ^ k % 2) (omega arith) (sym (ap (λ (x : ℕ). x % 2) (or_shr a b k) ∙ or_mod (a / 2 ^ k) (b / 2 ^ k) 1) ∙ e)
    where
      go : (u : ℕ) → u ≤ 1 → bit_or u (b / 2 ^ k % 2) ≡ 1 → (u ≡ 1) ⊎ (b / 2 ^ k % 2 ≡ 1)
      go zero h x = inr (sym (or_zero_l (b / 2 ^ k % 2)) ∙ x)
      go (suc u) h x = inl (omega (arith, h))

  and_bit : bit_and a b / 2 ^ k % 2 ≡ 1 → a / 2 ^ k % 2 ≡ 1
  and_bit e = go (a / 2 ^ k % 2) (omega arith) (sym (ap (λ (x : ℕ). x % 2) (and_shr a b k) ∙ and_mod (a / 2 ^ k) (b / 2 ^ k) 1) ∙ e)
    where
      go : (u : ℕ) → u ≤ 1 → bit_and u (b / 2 ^ k % 2) ≡ 1 → u ≡ 1
      go zero h x = absurd (omega (arith, sym (and_zero_l (b / 2 ^ k % 2)) ∙ x))
      go (suc u) h x = omega (arith, h)

module _ (command position : ℕ) (fits : command ≡ 4 → (1 ≤ position) × (position ≤ 6)) where
  named_power : command ≡ 4 → named position ≡ 2 ^ (position - 1)
  unfolding named
  named_power e = rw (le-leb 1 position (fits e).0, le-leb position 6 (fits e).1)

  mark_set : (sets q : ℕ) → Set (marked_by command position sets) q → Set sets q ⊎ ((command ≡ 4) × (q ≡ position))
  unfolding marked_by
  mark_set sets q s = go (eqb command 4) refl s.2
    where
      go : (t : Bool) → eqb command 4 ≡ t → cond t (bit_or sets (named position)) (bit_and sets (63 - named position)) / 2 ^ (q - 1) % 2 ≡ 1 →
          Set sets q ⊎ ((command ≡ 4) × (q ≡ position))
      go true e x = by (or_bit sets (named position) (q - 1) x)
        where
          by : (sets / 2 ^ (q - 1) % 2 ≡ 1) ⊎ (named position / 2 ^ (q - 1) % 2 ≡ 1) → Set sets q ⊎ ((command ≡ 4) × (q ≡ position))
          by (inl y) = inl (s.0, s.1, y)
          by (inr y) =
              let is = eqb-true command 4 e in
              let same = power_bit (position - 1) (q - 1) (subst (λ (n : ℕ). n / 2 ^ (q - 1) % 2 ≡ 1) (named_power is) y) in
              inr (is, omega (arith, same, s.0, (fits is).0))
      go false e x = inl (s.0, s.1, and_bit sets (63 - named position) (q - 1) x)

  module _ (list entered : List ℕ) (svid : ℕ) where
    abbrev place : ℕ
    place = place_of svid list

    abbrev Before : ℕ → ℕ → Type 0
    Before i q = Set (get_or entered i 0) q ⊎ ((i ≡ place) × (place < length list) × (command ≡ 4) × (q ≡ position))

    abbrev mark : ℕ
    mark = marked_by command position (get_or entered place 0)

    set_before : place < length list → (i q : ℕ) → Set (get_or (set entered place mark) i 0) q → Before i q
    set_before less i q s = go (eqb i place) (ltb place (length entered)) refl refl
      where
        from : i ≡ place → Set mark q → Before i q
        from e x = by (mark_set (get_or entered place 0) q x)
          where
            by : Set (get_or entered place 0) q ⊎ ((command ≡ 4) × (q ≡ position)) → Before i q
            by (inl y) = inl (subst (λ (n : ℕ). Set (get_or entered n 0) q) (sym e) y)
            by (inr y) = inr (e, less, y.0, y.1)

        go : (t u : Bool) → eqb i place ≡ t → ltb place (length entered) ≡ u → Before i q
        go true true e k =
            let is = eqb-true i place e in
            let here = ap (λ (n : ℕ). get_or (set entered place mark) n 0) is ∙ get_or-set_same entered place mark 0 (ltb-true place (length entered) k) in
            from is (subst (λ (n : ℕ). Set n q) here s)
        go true false e k =
            let past : get_or (set entered place mark) i 0 ≡ 0 =
            get_or-eq_default (set entered place mark) 0
            (omega (arith, length-set entered place mark, eqb-true i place e, ltb-false place (length entered) k)) in
            absurd (none_set (get_or (set entered place mark) i 0) (omega (arith, past)) q s)
        go false u e k = inl (subst (λ (n : ℕ). Set n q) (get_or-set_other entered place i mark 0 (eqb-false i place e)) s)

    -- a mode that is entered afterwards was entered, or is the one that Enter named, at its SVID's place
    pub marks_before : (i q : ℕ) → Set (get_or (marks_after list entered svid command position) i 0) q → Before i q
    unfolding marks_after
    marks_before i q s = go (ltb place (length list)) refl s
      where
        go : (t : Bool) → ltb place (length list) ≡ t → Set (get_or (cond t (set entered place mark) entered) i 0) q → Before i q
        go true e x = set_before (ltb-true place (length list) e) i q x
        go false e x = inl x
