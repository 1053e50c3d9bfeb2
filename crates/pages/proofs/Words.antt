-- The tests on a list of SVIDs are 01's words.
use mathlib.Core.Logic.{◌↔◌, ◌⊎◌, inl, inr}
use mathlib.Core.Path.{◌≡◌, refl, sym, ◌∙◌}
use mathlib.Core.Bool.{Bool, true, false, not, ◌&&◌, ◌||◌, false≢true}
use mathlib.Core.List.{List, [], ◌∷◌}
use Prim.Native.Nat.{ℕ, zero, suc, ◌<◌}
use native.Mathlib.Omega.{arith}
use lib.Dec.{ltb, eqb}
use lib.ListN.{length, get_or, get_or-eq_default}
use borrow.Author.Tests.{eqb-true, eqb-false, ltb-true, ltb-false, not-true}
use Rattle.laws.proofs.Lines.{and_left, and_right}
use Rattle.pages.specs.Lists.{is_in, sound_list}
use Rattle.pages.specs.Words.{Stands, Twice}
use Rattle.pages.proofs.Scanning.{sound_no_zero}

-- what stands in the list, stands in a longer one
stands_later : (value x : ℕ) (list : List ℕ) → Stands value list → Stands value (x ∷ list)
stands_later value x list s = record { place = suc s.place; within = omega (arith, s.within); is_there = s.is_there }

pub twice_later : (x : ℕ) (list : List ℕ) → Twice list → Twice (x ∷ list)
twice_later x list t =
    record {
      earlier = suc t.earlier;
      later = suc t.later;
      in_order = omega (arith, t.in_order);
      within = omega (arith, t.within);
      equal = t.equal;
    }

-- and what the rest of the list has again, stands twice
pub twice_first : (x : ℕ) (list : List ℕ) → Stands x list → Twice (x ∷ list)
twice_first x list s =
    record {
      earlier = zero;
      later = suc s.place;
      in_order = omega arith;
      within = omega (arith, s.within);
      equal = sym s.is_there;
    }

pub in_stands : (svid : ℕ) (list : List ℕ) → is_in svid list ≡ true → Stands svid list
unfolding is_in
in_stands svid [] e = absurd (false≢true e)
in_stands svid (x ∷ list) e = go (eqb x svid) refl e (in_stands svid list)
  where
    go : (t : Bool) → eqb x svid ≡ t → (t || is_in svid list) ≡ true → (is_in svid list ≡ true → Stands svid list) → Stands svid (x ∷ list)
    go true f h more = record { place = zero; within = omega arith; is_there = eqb-true x svid f }
    go false f h more = stands_later svid x list (more h)

pub not_in : (svid : ℕ) (list : List ℕ) (j : ℕ) → is_in svid list ≡ false → j < length list → get_or list j 0 ≡ svid → ⊥
unfolding is_in
not_in svid [] j n h e = omega arith
not_in svid (x ∷ list) zero n h e = go (eqb x svid) refl n
  where
    go : (t : Bool) → eqb x svid ≡ t → (t || is_in svid list) ≡ false → ⊥
    go true f g = false≢true (sym g)
    go false f g = eqb-false x svid f e
not_in svid (x ∷ list) (suc j) n h e = not_in svid list j (rest (eqb x svid) n) (omega arith) e
  where
    rest : (t : Bool) → (t || is_in svid list) ≡ false → is_in svid list ≡ false
    rest true g = absurd (false≢true (sym g))
    rest false g = g

-- a value is in the list exactly when it stands at a place of it
pub in_exactly : (svid : ℕ) (list : List ℕ) → (is_in svid list ≡ true) ↔ Stands svid list
in_exactly svid list = (in_stands svid list, λ s. go s (is_in svid list) refl)
  where
    go : Stands svid list → (t : Bool) → is_in svid list ≡ t → is_in svid list ≡ true
    go s true e = e
    go s false e = absurd (not_in svid list s.place e s.within s.is_there)

-- in a sound list no two places have the same SVID, and none has the 0 that stands behind its end
pub places_differ : (list : List ℕ) → sound_list list ≡ true → (i j : ℕ) → i < j → i < length list → get_or list i 0 ≡ get_or list j 0 → ⊥
unfolding sound_list
places_differ [] s i j less h e = omega arith
places_differ (x ∷ list) s i zero less h e = omega arith
places_differ (x ∷ list) s zero (suc j) less h e = go (ltb j (length list)) refl
  where
    rest : (not (is_in x list) && sound_list list) ≡ true
    rest = and_right (not (eqb x 0)) _ s

    go : (b : Bool) → ltb j (length list) ≡ b → ⊥
    go true b = not_in x list j (not-true (is_in x list) (and_left (not (is_in x list)) _ rest)) (ltb-true j (length list) b) (sym e)
    go false b =
        eqb-false x 0 (not-true (eqb x 0) (and_left (not (eqb x 0)) _ s))
        (e ∙ get_or-eq_default list 0 (ltb-false j (length list) b))
places_differ (x ∷ list) s (suc i) (suc j) less h e =
    places_differ list (and_right (not (is_in x list)) _ (and_right (not (eqb x 0)) _ s)) i j (omega arith) (omega arith) e

unsound_because : (list : List ℕ) → sound_list list ≡ false → Stands 0 list ⊎ Twice list
unfolding sound_list
unsound_because [] e = absurd (false≢true (sym e))
unsound_because (x ∷ list) e = go (eqb x 0) (is_in x list) refl refl e (unsound_because list)
  where
    later : Stands 0 list ⊎ Twice list → Stands 0 (x ∷ list) ⊎ Twice (x ∷ list)
    later (inl s) = inl (stands_later 0 x list s)
    later (inr t) = inr (twice_later x list t)

    go : (z t : Bool) → eqb x 0 ≡ z → is_in x list ≡ t → (not z && (not t && sound_list list)) ≡ false →
        (sound_list list ≡ false → Stands 0 list ⊎ Twice list) → Stands 0 (x ∷ list) ⊎ Twice (x ∷ list)
    go true t ez et h more = inl (record { place = zero; within = omega arith; is_there = eqb-true x 0 ez })
    go false true ez et h more = inr (twice_first x list (in_stands x list et))
    go false false ez et h more = later (more h)

-- a list breaks "none 0, all different" exactly when one is 0 or two at different places are equal
pub unsound_exactly : (list : List ℕ) → (sound_list list ≡ false) ↔ (Stands 0 list ⊎ Twice list)
unsound_exactly list = (unsound_because list, λ why. go why (sound_list list) refl)
  where
    go : Stands 0 list ⊎ Twice list → (t : Bool) → sound_list list ≡ t → sound_list list ≡ false
    go why false e = e
    go (inl s) true e = absurd (sound_no_zero list e s.place s.within s.is_there)
    go (inr t) true e = absurd (places_differ list e t.earlier t.later t.in_order (omega (arith, t.in_order, t.within)) t.equal)
