-- A sound list stays sound by the pages that are taken.
use mathlib.Core.Path.{◌≡◌, refl, ap, sym, ◌∙◌}
use mathlib.Core.Bool.{Bool, true, false, cond, not, ◌&&◌, ◌||◌, false≢true}
use mathlib.Core.List.{List, [], ◌∷◌, ◌++◌}
use Prim.Native.Nat.{ℕ, zero, suc, ◌+◌, ◌<◌}
use native.Mathlib.Omega.{arith}
use lib.Dec.{leb, eqb}
use lib.ListN.{length, take}
use lib.Seq.{take_all}
use borrow.Author.Tests.{ne_eqb, eqb-true, eqb-false, not-true}
use Rattle.laws.proofs.Lines.{and_left, and_right}
use Rattle.pages.specs.Lists.{is_in, sound_list}
use Rattle.pages.specs.Pages.{read_off, NoZero}
use Rattle.taking.specs.Taking.{is_repeat, before, is_full, is_ending, all_new, adds, nothing, bad, repeats, full, ends, judged_ending, shown, ending_verdict, verdict}
use Rattle.taking.specs.declared.Verdict.TheVariants.{More, Ends}
use Rattle.taking.proofs.Gathering.{or_none, eqb_other}
use Rattle.taking.proofs.Judging.{take_before}
use Rattle.taking.proofs.Sizes.{is_more, ends_with, is_ends, ending_not_more}

in_both : (s : ℕ) (l w : List ℕ) → is_in s l ≡ false → is_in s w ≡ false → is_in s (l ++ w) ≡ false
unfolding is_in
in_both s [] w a b = b
in_both s (x ∷ l) w a b = let parts = or_none (eqb x s) (is_in s l) a in rw parts.0 (in_both s l w parts.1 b)

new_not_in : (s : ℕ) (l w : List ℕ) → all_new (s ∷ l) w ≡ true → (is_in s w ≡ false) × (all_new l w ≡ true)
unfolding all_new is_in
new_not_in s l [] e = (refl, refl)
new_not_in s l (x ∷ w) e =
    let a = or_none (eqb s x) (is_in x l) (not-true (eqb s x || is_in x l) (and_left (not (eqb s x || is_in x l)) (not (is_in x w) && all_new (s ∷ l) w) e)) in
    let b = and_right (not (eqb s x || is_in x l)) (not (is_in x w) && all_new (s ∷ l) w) e in
    let rest = new_not_in s l w (and_right (not (is_in x w)) (all_new (s ∷ l) w) b) in
    (rw (eqb_other s x a.0) rest.0, rw (a.1, and_left (not (is_in x w)) (all_new (s ∷ l) w) b) rest.1)

new_sound_nil : (w : List ℕ) → all_new [] w ≡ true → NoZero w → sound_list w ≡ true
unfolding all_new sound_list is_in
new_sound_nil [] e n = refl
new_sound_nil (x ∷ w) e n =
    rw (ne_eqb x 0 (n 0 (omega arith)), and_left (not (is_in x w)) (all_new [] w) e)
    (new_sound_nil w (and_right (not (is_in x w)) (all_new [] w) e) (λ k h z. n (suc k) (omega arith) z))

pub new_sound : (l w : List ℕ) → sound_list l ≡ true → all_new l w ≡ true → NoZero w → sound_list (l ++ w) ≡ true
unfolding sound_list
new_sound [] w s e n = new_sound_nil w e n
new_sound (x ∷ l) w s e n =
    let a = and_left (not (eqb x 0)) (not (is_in x l) && sound_list l) s in
    let b = and_right (not (eqb x 0)) (not (is_in x l) && sound_list l) s in
    let new = new_not_in x l w e in
    rw (a, in_both x l w (not-true (is_in x l) (and_left (not (is_in x l)) (sound_list l) b)) new.0)
    (new_sound l w (and_right (not (is_in x l)) (sound_list l) b) new.1 n)

-- values up to the first zero are no zeros
pub read_no_zero : (v : List ℕ) → NoZero (read_off v)
unfolding read_off
read_no_zero [] = λ k h z. omega arith
read_no_zero (x ∷ v) = go (eqb x 0) refl (read_no_zero v)
  where
    go : (t : Bool) → eqb x 0 ≡ t → NoZero (read_off v) → NoZero (cond t [] (x ∷ read_off v))
    go true e n k h z = omega arith
    go false e n zero h z = eqb-false x 0 e z
    go false e n (suc k) h z = n k (omega arith) z

pub full_read : (v : List ℕ) → is_full v ≡ true → read_off v ≡ v
unfolding is_full
full_read v e =
    let size = eqb-true (length v) 12 (and_left (eqb (length v) 12) (eqb (before v) 12) e) in
    let all = eqb-true (before v) 12 (and_right (eqb (length v) 12) (eqb (before v) 12) e) in
    sym (take_before v) ∙ take_all (before v) v (omega (arith, size, all))

pub adds_all_new : (l v : List ℕ) → adds l v ≡ true → all_new l v ≡ true
unfolding adds
adds_all_new l v e = and_right (leb (length l + length v) 72) (all_new l v) e

some_listed : (n b k : ℕ) → nothing n b ≡ false → b ≡ k → 0 < n + k
some_listed zero zero k e s = absurd (false≢true (sym e))
some_listed zero (suc b) k e s = omega (arith, s)
some_listed (suc n) b k e s = omega arith

module _ (l v : List ℕ) (sound : sound_list l ≡ true) where
  -- a full page that is taken
  pub more_sound : verdict l v ≡ More → sound_list (l ++ v) ≡ true
  unfolding verdict ending_verdict
  more_sound e = go (is_repeat l v) (is_full v) (adds l v) refl refl (ap is_more e)
    where
      go : (r f a : Bool) → is_full v ≡ f → adds l v ≡ a → is_more (shown (cond r repeats (cond f (cond a (full v) bad) (judged_ending l v)))) ≡ true →
          sound_list (l ++ v) ≡ true
      go true f a ef ea h = absurd (false≢true h)
      go false true true ef ea h =
          let read = full_read v ef in
          ap (λ (w : List ℕ). sound_list (l ++ w)) (sym read) ∙
          new_sound l (read_off v) sound (ap (all_new l) read ∙ adds_all_new l v ea) (read_no_zero v)
      go false true false ef ea h = absurd (false≢true h)
      go false false a ef ea h = absurd (false≢true (sym (ending_not_more l v) ∙ h))

  -- an ending page, which leaves no empty list
  ending_sound : (k : ℕ) → ending_verdict l v ≡ Ends k → (sound_list (l ++ take k v) ≡ true) × (0 < length l + k)
  unfolding ending_verdict
  ending_sound k e = go (is_ending v && (not (nothing (length l) (before v)) && adds l (read_off v))) refl (ap is_ends e) (ap ends_with e)
    where
      go : (t : Bool) → (is_ending v && (not (nothing (length l) (before v)) && adds l (read_off v))) ≡ t →
          is_ends (shown (cond t (ends (read_off v)) bad)) ≡ true → ends_with (shown (cond t (ends (read_off v)) bad)) ≡ k →
          (sound_list (l ++ take k v) ≡ true) × (0 < length l + k)
      go true et h s =
          let rest = and_right (is_ending v) _ et in
          let added = and_right (not (nothing (length l) (before v))) (adds l (read_off v)) rest in
          let some = not-true (nothing (length l) (before v)) (and_left (not (nothing (length l) (before v))) (adds l (read_off v)) rest) in
          let read : take k v ≡ read_off v = ap (λ (n : ℕ). take n v) (sym s) ∙ take_before v in (
            ap (λ (w : List ℕ). sound_list (l ++ w)) read ∙ new_sound l (read_off v) sound (adds_all_new l (read_off v) added) (read_no_zero v),
            some_listed (length l) (before v) k some s,
          )
      go false et h s = absurd (false≢true h)

  pub ends_sound : (k : ℕ) → verdict l v ≡ Ends k → (sound_list (l ++ take k v) ≡ true) × (0 < length l + k)
  unfolding verdict ending_verdict
  ends_sound k e = go (is_repeat l v) (is_full v) (adds l v) e
    where
      go : (r f a : Bool) → shown (cond r repeats (cond f (cond a (full v) bad) (judged_ending l v))) ≡ Ends k →
          (sound_list (l ++ take k v) ≡ true) × (0 < length l + k)
      go true f a h = absurd (false≢true (ap is_ends h))
      go false true true h = absurd (false≢true (ap is_ends h))
      go false true false h = absurd (false≢true (ap is_ends h))
      go false false a h = ending_sound k h
