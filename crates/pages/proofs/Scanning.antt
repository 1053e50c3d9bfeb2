-- Scanning a list, one element after the other.
use mathlib.Core.Path.{◌≡◌, refl, ap}
use mathlib.Core.Bool.{Bool, true, false, not, ◌&&◌, ◌||◌}
use mathlib.Core.List.{List, [], ◌∷◌}
use Prim.Native.Nat.{ℕ, zero, suc, ◌+◌, ◌-◌, ◌<◌, ◌≤◌}
use native.Mathlib.Numerals.{add-one}
use native.Mathlib.Omega.{arith}
use lib.Dec.{eqb}
use lib.ListN.{length, get_or, take, drop, drop_of_length-le, length-drop}
use lib.Seq.{drop-cons, take_all}
use borrow.Author.Tests.{eqb-false, not-true}
use Rattle.std.proofs.lemmas.Bool.Decides.{nat_tests}
use Rattle.laws.proofs.Lines.{and_left, and_right}
use Rattle.pages.specs.Lists.{is_in, sound_list}
use Rattle.pages.specs.Pages.{NoZero}

module _ (l : List ℕ) (i : ℕ) (h : i < length l) where
  pub next : drop i l ≡ get_or l i 0 ∷ drop (i + 1) l
  next = rw add-one (drop-cons l i 0 h)

  in_step : (svid : ℕ) → is_in svid (drop i l) ≡ (eqb (get_or l i 0) svid || is_in svid (drop (i + 1) l))
  unfolding is_in
  in_step svid = ap (is_in svid) next

  -- found before, at this element, or behind it
  pub in_next : (found : Bool) (svid : ℕ) → (found || is_in svid (drop i l)) ≡ ((found || eqb (get_or l i 0) svid) || is_in svid (drop (i + 1) l))
  in_next true svid = refl
  in_next false svid = in_step svid

  pub sound_step :
      sound_list (drop i l) ≡ (not (eqb (get_or l i 0) 0) && (not (is_in (get_or l i 0) (drop (i + 1) l)) && sound_list (drop (i + 1) l)))
  unfolding sound_list
  sound_step = ap sound_list next

-- at the end nothing is left
in_none : (svid : ℕ) (l : List ℕ) (i : ℕ) → length l ≤ i → is_in svid (drop i l) ≡ false
unfolding is_in
in_none svid l i h = ap (is_in svid) (drop_of_length-le l h)

pub in_end : (found : Bool) (svid : ℕ) (l : List ℕ) (i : ℕ) → length l ≤ i → (found || is_in svid (drop i l)) ≡ found
in_end true svid l i h = refl
in_end false svid l i h = in_none svid l i h

pub sound_none : (l : List ℕ) (i : ℕ) → length l ≤ i → sound_list (drop i l) ≡ true
unfolding sound_list
sound_none l i h = ap sound_list (drop_of_length-le l h)

-- a part to the end
pub rest_part : (l : List ℕ) (i : ℕ) → take (length l - i) (drop i l) ≡ drop i l
rest_part l i = take_all (length l - i) (drop i l) (omega (arith, length-drop i l))

-- what a step of `sound` needs
pub ruleset sound_steps = (sound_step, sound_none, rest_part, nat_tests)

pub sound_no_zero : (list : List ℕ) → sound_list list ≡ true → NoZero list
unfolding sound_list
sound_no_zero [] e k h z = omega arith
sound_no_zero (s ∷ list) e zero h z =
    eqb-false s 0 (not-true (eqb s 0) (and_left (not (eqb s 0)) (not (is_in s list) && sound_list list) e)) z
sound_no_zero (s ∷ list) e (suc k) h z =
    sound_no_zero list (and_right (not (is_in s list)) (sound_list list) (and_right (not (eqb s 0)) (not (is_in s list) && sound_list list) e)) k
    (omega arith) z
