-- Judging a page, one value after the other.
use mathlib.Core.Path.{◌≡◌, refl, ap, sym, ◌∙◌}
use mathlib.Core.Bool.{Bool, true, false, cond, not, ◌&&◌}
use mathlib.Core.List.{List, [], ◌∷◌}
use Prim.Native.Nat.{ℕ, suc, ◌+◌, ◌-◌, ◌<◌, ◌≤◌}
use native.Mathlib.Omega.{arith}
use lib.Dec.{leb, ltb, eqb}
use lib.ListN.{length, get_or, take, drop, drop_of_length-le, length-drop}
use borrow.Author.Tests.{leb-false, ltb-false, eq-eqb, le-leb, leb-true}
use Rattle.laws.proofs.Lines.{and_left}
use Rattle.pages.specs.Lists.{is_in}
use Rattle.pages.specs.Pages.{read_off}
use Rattle.taking.specs.Taking.{same_list, is_repeat, before, is_full, is_ending, all_new, adds, nothing, ending_verdict, verdict}
use Rattle.taking.specs.declared.Verdict.TheVariants.{Repeat, More, Ends}
use Rattle.pages.proofs.Scanning.{next, rest_part}
use Rattle.std.proofs.lemmas.Bool.Decides.{nat_tests}
use Rattle.std.specs.Cmp.Lexicographic.{pointwise}
use Rattle.std.specs.List.{position, position_or_len, ends_with}
use Rattle.std.specs.Option.{unwrap_or}
use Rattle.std.specs.Prelude.{Option, Some, None, nat_eq, ◌==◌}

-- two lists, side by side
pub same_length : (a b : List ℕ) → (length a ≡ length b → ⊥) → false ≡ same_list a b
unfolding same_list
same_length [] [] h = absurd (h refl)
same_length [] (y ∷ b) h = refl
same_length (x ∷ a) [] h = refl
same_length (x ∷ a) (y ∷ b) h = go (eqb x y) (same_length a b (λ e. h (ap suc e)))
  where
    go : (t : Bool) → false ≡ same_list a b → false ≡ (t && same_list a b)
    go true e = e
    go false e = refl

pub pointwise_same : (a b : List ℕ) → pointwise nat_eq a b ≡ same_list a b
unfolding same_list
pointwise_same [] [] = refl
pointwise_same [] (y ∷ b) = refl
pointwise_same (x ∷ a) [] = refl
pointwise_same (x ∷ a) (y ∷ b) = grind (arith, nat_tests, pointwise_same a b)

same_either_way : (a b : List ℕ) → same_list b a ≡ same_list a b
unfolding same_list
same_either_way [] [] = refl
same_either_way [] (y ∷ b) = refl
same_either_way (x ∷ a) [] = refl
same_either_way (x ∷ a) (y ∷ b) = grind (arith, nat_tests, same_either_way a b)

module _ (a b : List ℕ) where
  pub same_end : length a ≡ length b → ends_with nat_eq a b ≡ same_list a b
  same_end e =
      let whole : length a - length b ≡ 0 = omega arith in
      ap (λ (n : ℕ). pointwise nat_eq b (drop n a)) whole ∙ pointwise_same b a ∙ same_either_way a b

  pub same_not : (length a ≡ length b → ⊥) → same_list a b ≡ false
  same_not h = sym (same_length a b h)

-- what `same` needs
pub ruleset same_steps = (same_end, same_not, nat_tests)

-- the values before the first zero
pub before_most : (v : List ℕ) → before v ≤ length v
unfolding read_off
before_most [] = omega arith
before_most (x ∷ v) = go (eqb x 0) (before_most v)
  where
    go : (t : Bool) → before v ≤ length v → length (cond t [] (x ∷ read_off v)) ≤ suc (length v)
    go true h = omega arith
    go false h = omega arith

place_before : (v : List ℕ) → position_or_len (λ (x : ℕ). x == 0) v ≡ before v
unfolding read_off
place_before [] = refl
place_before (x ∷ v) = go (eqb x 0) (place_before v)
  where
    go : (t : Bool) → position_or_len (λ (y : ℕ). y == 0) v ≡ before v →
        cond (not t) (1 + position_or_len (λ (y : ℕ). y == 0) v) 0 ≡ length (cond t [] (x ∷ read_off v))
    go true e = refl
    go false e = omega arith

-- the first place of a zero, or else the end
pub first_zero : (v : List ℕ) (place : Option ℕ) → place ≡ position (λ (x : ℕ). x == 0) v → unwrap_or place (length v) ≡ before v
first_zero v place e = rw (e, place_before v) (go (ltb (before v) (length v)) refl)
  where
    go : (t : Bool) → ltb (before v) (length v) ≡ t → unwrap_or (cond t (Some (before v)) None) (length v) ≡ before v
    go true h = refl
    go false h = let l : length v ≤ before v = ltb-false _ _ h in omega (arith, before_most v)

-- none gathered, none twice
module _ (l v : List ℕ) (i : ℕ) (h : i < length v) where
  pub new_step : all_new l (drop i v) ≡ (not (is_in (get_or v i 0) l) && (not (is_in (get_or v i 0) (drop (i + 1) v)) && all_new l (drop (i + 1) v)))
  unfolding all_new
  new_step = ap (all_new l) (next v i h)

pub new_done : (l v : List ℕ) (i : ℕ) → length v ≤ i → all_new l (drop i v) ≡ true
unfolding all_new
new_done l v i h = ap (all_new l) (drop_of_length-le v h)

-- what a step of `all_new` needs
pub ruleset new_steps = (new_step, new_done, rest_part, nat_tests)

-- the ways out of each test
module _ (l v : List ℕ) where
  pub repeat_same : 12 ≤ length l → same_list (drop (length l - 12) l) v ≡ is_repeat l v
  unfolding is_repeat
  repeat_same h = simp (le-leb _ _ h)

  -- a page repeats the last one where it has twelve values and the list ends with them
  pub repeat_is : length v ≡ 12 → ends_with nat_eq l v ≡ is_repeat l v
  unfolding is_repeat
  repeat_is e = rw (e, pointwise_same v (drop (length l - 12) l), same_either_way (drop (length l - 12) l) v) (go (leb 12 (length l)) refl)
    where
      go : (t : Bool) → leb 12 (length l) ≡ t → same_list (drop (length l - 12) l) v ≡ (t && same_list (drop (length l - 12) l) v)
      go true h = refl
      go false h =
          let few : length l < 12 = leb-false _ _ h in
          sym (same_length (drop (length l - 12) l) v (λ z. omega (arith, length-drop (length l - 12) l)))

  pub repeat_not : (length v ≡ 12 → ⊥) → is_repeat l v ≡ false
  unfolding is_repeat
  repeat_not e = go (leb 12 (length l)) refl
    where
      go : (t : Bool) → leb 12 (length l) ≡ t → (t && same_list (drop (length l - 12) l) v) ≡ false
      go true h =
          let many : 12 ≤ length l = leb-true _ _ h in
          sym (same_length (drop (length l - 12) l) v (λ z. e (omega (arith, length-drop (length l - 12) l))))
      go false h = refl

  pub adds_new : length l ≤ 72 → length v ≤ 72 - length l → all_new l v ≡ adds l v
  unfolding adds
  adds_new f h = let fits : length l + length v ≤ 72 = omega arith in simp (le-leb _ _ fits)

  pub adds_fits : adds l v ≡ true → length l + length v ≤ 72
  unfolding adds
  adds_fits e = leb-true _ _ (and_left (leb (length l + length v) 72) _ e)

module _ (v : List ℕ) (n : ℕ) (e : n ≡ before v) where
  pub full_whole : length v ≡ 12 → eqb n 12 ≡ is_full v
  unfolding is_full
  full_whole h = simp (eq-eqb _ _ h) (ap (λ (k : ℕ). eqb k 12) e)

  pub ending_last : n < length v → length v - n ≤ 2 → eqb (get_or v (length v - 1) 0) 0 ≡ is_ending v
  unfolding is_ending
  ending_last l h =
      let some : before v + 1 ≤ length v = omega arith in
      let two : length v ≤ before v + 2 = omega arith in
      simp (le-leb _ _ some, le-leb _ _ two)

pub take_before : (v : List ℕ) → take (before v) v ≡ read_off v
unfolding read_off
take_before [] = refl
take_before (x ∷ v) = go (eqb x 0) (take_before v)
  where
    go : (t : Bool) → take (before v) v ≡ read_off v → take (length (cond t [] (x ∷ read_off v))) (x ∷ v) ≡ cond t [] (x ∷ read_off v)
    go true rest = refl
    go false rest = ap (λ (m : List ℕ). x ∷ m) rest

module _ (l v : List ℕ) where
  pub ending_adds : (n : ℕ) → n ≡ before v → is_ending v ≡ true → nothing (length l) (before v) ≡ false → adds l (read_off v) ≡ true → Ends n ≡ ending_verdict l v
  unfolding ending_verdict
  ending_adds n is e z a = ap Ends is ∙ rw (e, z, a)

  pub verdict_repeat : is_repeat l v ≡ true → Repeat ≡ verdict l v
  unfolding verdict
  verdict_repeat e = rw e

  pub verdict_more : is_repeat l v ≡ false → is_full v ≡ true → adds l v ≡ true → More ≡ verdict l v
  unfolding verdict
  verdict_more r f a = rw (r, f, a)

  pub verdict_ending : is_repeat l v ≡ false → is_full v ≡ false → ending_verdict l v ≡ verdict l v
  unfolding verdict ending_verdict
  verdict_ending r f = rw (r, f)

-- the part of the values before the first zero
pub read_part : (v : List ℕ) (n : ℕ) → n ≡ before v → take n v ≡ read_off v
read_part v n e = ap (λ (k : ℕ). take k v) e ∙ take_before v

pub part_size : (v : List ℕ) (n : ℕ) → n ≡ before v → length (take n v) ≡ n
part_size v n e = ap length (read_part v n e) ∙ sym e

-- what `judge_ending` needs
pub ruleset ending_steps = (read_part, part_size, before_most, adds_fits, nat_tests)

-- and what a body needs that tests the end of the list
pub ruleset repeat_steps = (repeat_is, repeat_not, nat_tests)
