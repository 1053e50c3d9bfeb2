-- An SVID at its place in a list, its modes, and those of them that are entered: what the tests of enter and exit tell.
use mathlib.Core.Logic.{◌⊎◌, inl, inr}
use mathlib.Core.Path.{◌≡◌, refl, ap, sym, subst}
use mathlib.Core.Bool.{Bool, true, false, cond, ◌||◌}
use mathlib.Core.List.{List, [], ◌∷◌}
use Prim.Native.Nat.{ℕ, zero, suc, ◌<◌, ◌≤◌}
use native.Mathlib.Omega.{arith}
use lib.Dec.{leb, ltb, eqb}
use lib.ListN.{length, get_or}
use borrow.Author.Tests.{eq-eqb, ne_eqb, eqb-true, eqb-false}
use Rattle.laptop.specs.Catalogue.{modes_number}
use Rattle.laptop.specs.Marks.{place_of, is_entered}
use Rattle.owner.specs.Owner.{has_mode, enter_refusal, exit_refusal}
use Rattle.laptop.proofs.Numbers.{number_most}
use Rattle.laptop_laws.proofs.Bits.{Set, tells_entered, tells_all}
use Rattle.laptop_laws.proofs.First.{Tells, tells_and, tells_eqb, tells_leb, tells_ltb}

-- the place of an SVID in a list is the first where it stands
abbrev pub At : List ℕ → ℕ → ℕ → Type 0
At list svid place = (place < length list) × (get_or list place 0 ≡ svid) × ((i : ℕ) → i < place → get_or list i 0 ≡ svid → ⊥)

pub place_is : (svid : ℕ) (list : List ℕ) (place : ℕ) → At list svid place → place_of svid list ≡ place
unfolding place_of
place_is svid [] place at = absurd (omega (arith, at.0))
place_is svid (s ∷ list) zero at = rw (eq-eqb s svid at.1)
place_is svid (s ∷ list) (suc place) at =
    let later = place_is svid list place (omega (arith, at.0), at.1, λ i h e. at.2 (suc i) (omega (arith, h)) e) in
    rw (ne_eqb s svid (at.2 0 (omega arith))) (ap suc later)

pub place_at : (svid : ℕ) (list : List ℕ) → place_of svid list < length list → At list svid (place_of svid list)
unfolding place_of
place_at svid [] h = absurd (omega arith)
place_at svid (s ∷ list) h = go (eqb s svid) refl (place_at svid list) h
  where
    go : (t : Bool) → eqb s svid ≡ t → (place_of svid list < length list → At list svid (place_of svid list)) →
        cond t 0 (suc (place_of svid list)) < suc (length list) → At (s ∷ list) svid (cond t 0 (suc (place_of svid list)))
    go true e rest k = (k, eqb-true s svid e, λ i less x. omega arith)
    go false e rest k =
        let later = rest (omega arith) in
        (k, later.1, λ i less x. before i less x later.2)
      where
        before : (i : ℕ) → i < suc (place_of svid list) → get_or (s ∷ list) i 0 ≡ svid →
            ((j : ℕ) → j < place_of svid list → get_or list j 0 ≡ svid → ⊥) → ⊥
        before zero less x none = eqb-false s svid e x
        before (suc j) less x none = none j (omega (arith, less)) x

-- what holds of an SVID where it stands holds of its place
pub there : (list : List ℕ) (svid : ℕ) (holds : ℕ → Type 0) → (i : ℕ) × At list svid i × holds i →
    (place_of svid list < length list) × holds (place_of svid list)
there list svid holds x =
    let same = place_is svid list x.0 x.1 in
    (omega (arith, same, x.1.0), subst holds (sym same) x.2)

-- a position is one of the modes at a place; exit may name it, or 7; it is entered, or any is
abbrev pub OneOf : List ℕ → ℕ → ℕ → Type 0
OneOf modes position i = (1 ≤ position) × (position ≤ modes_number modes i)

abbrev pub Allowed : List ℕ → ℕ → ℕ → Type 0
Allowed modes position i = (position ≡ 7) ⊎ OneOf modes position i

abbrev pub AnyOf : List ℕ → ℕ → ℕ → Type 0
AnyOf entered position i = Set (get_or entered i 0) position ⊎ ((position ≡ 7) × ((p : ℕ) × Set (get_or entered i 0) p))

module _ (modes entered : List ℕ) (position i : ℕ) where
  pub tells_mode : Tells (has_mode modes i position) (OneOf modes position i)
  unfolding has_mode
  tells_mode = tells_and (leb 1 position) (leb position (modes_number modes i)) _ _ (tells_leb 1 position) (tells_leb position (modes_number modes i))

  pub tells_allowed : Tells (eqb position 7 || has_mode modes i position) (Allowed modes position i)
  tells_allowed = go (eqb position 7) (has_mode modes i position) (tells_eqb position 7) tells_mode
    where
      go : (a b : Bool) → Tells a (position ≡ 7) → Tells b (OneOf modes position i) → Tells (a || b) (Allowed modes position i)
      go true b ha hb = inl ha
      go false true ha hb = inr hb
      go false false ha hb = λ x. none x
        where
          none : Allowed modes position i → ⊥
          none (inl x) = ha x
          none (inr x) = hb x

  pub tells_one : OneOf modes position i → Tells (is_entered entered i position) (Set (get_or entered i 0) position)
  tells_one h = tells_entered entered i position h.0 (omega (arith, h.1, number_most modes i))

  pub tells_any_of : Allowed modes position i → Tells (is_entered entered i position) (AnyOf entered position i)
  tells_any_of (inl e) =
      subst (λ (p : ℕ). Tells (is_entered entered i p) (AnyOf entered p i)) (sym e) (go (is_entered entered i 7) (tells_all entered i))
    where
      go : (t : Bool) → Tells t ((q : ℕ) × Set (get_or entered i 0) q) → Tells t (AnyOf entered 7 i)
      go true h = inr (refl, h)
      go false h = λ x. none x
        where
          none : AnyOf entered 7 i → ⊥
          none (inl x) = omega (arith, x.1)
          none (inr x) = h x.1
  tells_any_of (inr one) = go (is_entered entered i position) (tells_one one)
    where
      go : (t : Bool) → Tells t (Set (get_or entered i 0) position) → Tells t (AnyOf entered position i)
      go true h = inl h
      go false h = λ x. none x
        where
          none : AnyOf entered position i → ⊥
          none (inl x) = h x
          none (inr x) = omega (arith, x.0, one.1, number_most modes i)

-- what enter and exit have found where they are not refused
module _ (list modes entered : List ℕ) (svid position : ℕ) where
  abbrev place : ℕ
  place = place_of svid list

  pub enter_free : enter_refusal list modes entered svid position ≡ 0 →
      At list svid place × OneOf modes position place × (Set (get_or entered place 0) position → ⊥)
  unfolding enter_refusal
  enter_free =
      go (ltb place (length list)) (has_mode modes place position) (is_entered entered place position) (tells_ltb place (length list))
      (tells_mode modes entered position place) (tells_one modes entered position place)
    where
      go : (a b c : Bool) → Tells a (place < length list) → Tells b (OneOf modes position place) →
          (OneOf modes position place → Tells c (Set (get_or entered place 0) position)) → ◌≡◌ {A = ℕ} (cond a (cond b (cond c 13 0) 12) 12) 0 →
          At list svid place × OneOf modes position place × (Set (get_or entered place 0) position → ⊥)
      go true true true ha hb hc e = absurd (omega arith)
      go true true false ha hb hc e = (place_at svid list ha, hb, hc hb)
      go true false c ha hb hc e = absurd (omega arith)
      go false b c ha hb hc e = absurd (omega arith)

  pub exit_free : exit_refusal list modes entered svid position ≡ 0 →
      At list svid place × Allowed modes position place × AnyOf entered position place
  unfolding exit_refusal
  exit_free =
      go (ltb place (length list)) (eqb position 7 || has_mode modes place position) (is_entered entered place position) (tells_ltb place (length list))
      (tells_allowed modes entered position place) (tells_any_of modes entered position place)
    where
      go : (a b c : Bool) → Tells a (place < length list) → Tells b (Allowed modes position place) →
          (Allowed modes position place → Tells c (AnyOf entered position place)) → ◌≡◌ {A = ℕ} (cond a (cond b (cond c 0 13) 12) 12) 0 →
          At list svid place × Allowed modes position place × AnyOf entered position place
      go true true true ha hb hc e = (place_at svid list ha, hb, hc hb)
      go true true false ha hb hc e = absurd (omega arith)
      go true false c ha hb hc e = absurd (omega arith)
      go false b c ha hb hc e = absurd (omega arith)
