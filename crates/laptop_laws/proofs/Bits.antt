-- A mode is entered where the bit of its position is set: what the tests on sets tell.
use mathlib.Core.Path.{◌≡◌, refl, ap, sym, ◌∙◌}
use mathlib.Core.Bool.{Bool, true, false, not, ◌||◌, false≢true}
use mathlib.Core.List.{List, [], ◌∷◌}
use Prim.Native.Nat.{ℕ, zero, suc, ◌+◌, ◌-◌, ◌*◌, ◌/◌, ◌%◌, ◌^◌, ◌≤◌}
use native.Mathlib.Nat.{pow-suc}
use native.Mathlib.Omega.{arith}
use lib.Arith.{mod-mul}
use lib.Bits.{bit_and, and_high, and_mask}
use lib.Dec.{eqb}
use lib.ListN.{get_or}
use lib.Pow.{pow_pos}
use borrow.Author.Tests.{le-leb, eqb-true, eqb-false, not-true, not-false}
use Rattle.laptop.specs.Marks.{named, six_bits, is_entered}
use Rattle.owner.specs.Owner.{any_entered}
use Rattle.laptop_laws.proofs.First.{Tells, tells}

-- the bit of a position, 1 to 6, is set
abbrev pub Set : ℕ → ℕ → Type 0
Set set position = (1 ≤ position) × (position ≤ 6) × (set / 2 ^ (position - 1) % 2 ≡ 1)

pub one_bit : (set k : ℕ) → bit_and set (2 ^ k) ≡ (set / 2 ^ k % 2) * 2 ^ k
one_bit set k =
    let next : 1 + k ≡ suc k = omega arith in
    let twice : 2 ^ (1 + k) ≡ 2 ^ k * 2 = ap (λ (x : ℕ). 2 ^ x) next ∙ pow-suc 2 k in
    let one : 2 ^ (1 + k) - 2 ^ k ≡ 2 ^ k = omega (arith, twice) in
    ap (bit_and set) (sym one) ∙ and_high set 1 k

module _ (set k : ℕ) where
  bit_set : (eqb (bit_and set (2 ^ k)) 0 ≡ false) → set / 2 ^ k % 2 ≡ 1
  bit_set e = go (set / 2 ^ k % 2) (omega arith) refl
    where
      go : (b : ℕ) → b ≤ 1 → set / 2 ^ k % 2 ≡ b → b ≡ 1
      go zero h eb = absurd (eqb-false (bit_and set (2 ^ k)) 0 e (one_bit set k ∙ ap (λ (x : ℕ). x * 2 ^ k) eb ∙ omega arith))
      go (suc b) h eb = omega arith

  bit_clear : (eqb (bit_and set (2 ^ k)) 0 ≡ true) → set / 2 ^ k % 2 ≡ 1 → ⊥
  bit_clear e one =
      let zero_and = eqb-true (bit_and set (2 ^ k)) 0 e in
      let same : bit_and set (2 ^ k) ≡ 1 * 2 ^ k = one_bit set k ∙ ap (λ (x : ℕ). x * 2 ^ k) one in
      omega (arith, pow_pos k, zero_and, same)

-- one of the six is set exactly where the six are not all 0
module _ (set : ℕ) where
  or_else : (p : ℕ) → 1 ≤ p → p ≤ 6 → (set / 2 ^ (p - 1) % 2 ≡ 0 → (q : ℕ) × Set set q) → (q : ℕ) × Set set q
  or_else p least most other = go (set / 2 ^ (p - 1) % 2) (omega arith) refl
    where
      go : (b : ℕ) → b ≤ 1 → set / 2 ^ (p - 1) % 2 ≡ b → (q : ℕ) × Set set q
      go zero h e = other e
      go (suc b) h e = (p, (least, most, omega (arith, h, e)))

  pub some_set : (six_bits set ≡ 0 → ⊥) → (q : ℕ) × Set set q
  some_set n =
      or_else 1 (omega arith) (omega arith) λ a.
      or_else 2 (omega arith) (omega arith) λ b.
      or_else 3 (omega arith) (omega arith) λ c.
      or_else 4 (omega arith) (omega arith) λ d.
      or_else 5 (omega arith) (omega arith) λ e.
      or_else 6 (omega arith) (omega arith) λ f.
      let two : set % 4 ≡ 0 = omega (arith, a, b, mod-mul set {m = 2} {c = 2} (omega arith) (omega arith)) in
      let three : set % 8 ≡ 0 = omega (arith, two, c, mod-mul set {m = 2} {c = 4} (omega arith) (omega arith)) in
      let four : set % 16 ≡ 0 = omega (arith, three, d, mod-mul set {m = 2} {c = 8} (omega arith) (omega arith)) in
      let five : set % 32 ≡ 0 = omega (arith, four, e, mod-mul set {m = 2} {c = 16} (omega arith) (omega arith)) in
      absurd (n (omega (arith, five, f, mod-mul set {m = 2} {c = 32} (omega arith) (omega arith))))

  pub none_set : six_bits set ≡ 0 → (p : ℕ) → Set set p → ⊥
  none_set z p s = go p s.0 s.1 s.2
    where
      go : (p : ℕ) → 1 ≤ p → p ≤ 6 → set / 2 ^ (p - 1) % 2 ≡ 1 → ⊥
      go zero least most e = omega arith
      go (suc zero) least most e = omega arith
      go (suc (suc zero)) least most e = omega arith
      go (suc (suc (suc zero))) least most e = omega arith
      go (suc (suc (suc (suc zero)))) least most e = omega arith
      go (suc (suc (suc (suc (suc zero))))) least most e = omega arith
      go (suc (suc (suc (suc (suc (suc zero)))))) least most e = omega arith
      go (suc (suc (suc (suc (suc (suc (suc p))))))) least most e = omega arith

module _ (entered : List ℕ) (place : ℕ) where
  pub tells_entered : (position : ℕ) → 1 ≤ position → position ≤ 6 → Tells (is_entered entered place position) (Set (get_or entered place 0) position)
  unfolding is_entered named
  tells_entered position least most = rw (le-leb 1 position least, le-leb position 6 most)
      (tells (not (eqb (bit_and (get_or entered place 0) (2 ^ (position - 1))) 0)) (Set (get_or entered place 0) position)
      (λ e. (least, most, bit_set (get_or entered place 0) (position - 1) (not-true _ e)))
      (λ e s. bit_clear (get_or entered place 0) (position - 1) (not-false _ e) s.2))

  pub tells_all : Tells (is_entered entered place 7) ((p : ℕ) × Set (get_or entered place 0) p)
  unfolding is_entered named
  tells_all =
      let six : bit_and (get_or entered place 0) 63 ≡ get_or entered place 0 % 64 = and_mask (get_or entered place 0) 6 in
      rw six
      (tells (not (eqb (get_or entered place 0 % 64) 0)) ((p : ℕ) × Set (get_or entered place 0) p)
      (λ e. some_set (get_or entered place 0) (eqb-false _ 0 (not-true _ e)))
      (λ e s. none_set (get_or entered place 0) (eqb-true _ 0 (not-false _ e)) s.0 s.1))

-- no mode is entered: the six bits of each set are 0
none_at : (entered : List ℕ) → any_entered entered ≡ false → (i : ℕ) → six_bits (get_or entered i 0) ≡ 0
unfolding any_entered
none_at [] e i = refl
none_at (s ∷ sets) e i = go (eqb (six_bits s) 0) refl (none_at sets) e i
  where
    go : (t : Bool) → eqb (six_bits s) 0 ≡ t → (any_entered sets ≡ false → (k : ℕ) → six_bits (get_or sets k 0) ≡ 0) → (not t || any_entered sets) ≡ false →
        (k : ℕ) → six_bits (get_or (s ∷ sets) k 0) ≡ 0
    go true es rest n zero = eqb-true (six_bits s) 0 es
    go true es rest n (suc k) = rest n k
    go false es rest n k = absurd (false≢true (sym n))

pub none_entered : (entered : List ℕ) → any_entered entered ≡ false → (place position : ℕ) → Set (get_or entered place 0) position → ⊥
none_entered entered e place position s = none_set (get_or entered place 0) (none_at entered e place) position s

-- any mode is entered
any_set : (entered : List ℕ) → any_entered entered ≡ true → (place : ℕ) × (position : ℕ) × Set (get_or entered place 0) position
unfolding any_entered
any_set [] e = absurd (false≢true e)
any_set (s ∷ sets) e = go (eqb (six_bits s) 0) refl (any_set sets) e
  where
    go : (t : Bool) → eqb (six_bits s) 0 ≡ t → (any_entered sets ≡ true → (place : ℕ) × (position : ℕ) × Set (get_or sets place 0) position) →
        (not t || any_entered sets) ≡ true → (place : ℕ) × (position : ℕ) × Set (get_or (s ∷ sets) place 0) position
    go true es rest a = let later = rest a in (suc later.0, later.1, later.2)
    go false es rest a = let some = some_set s (eqb-false (six_bits s) 0 es) in (0, some.0, some.1)

pub tells_any : (entered : List ℕ) → Tells (any_entered entered) ((place : ℕ) × (position : ℕ) × Set (get_or entered place 0) position)
tells_any entered =
    tells (any_entered entered) _ (any_set entered) (λ e s. none_entered entered e s.0 s.1 s.2)
