-- Gathering a list page by page: what taking each page gives.
use mathlib.Core.Path.{◌≡◌, refl, ap, ap₂, sym, ◌∙◌}
use mathlib.Core.Bool.{Bool, true, false, cond, not, ◌&&◌, ◌||◌, false≢true}
use mathlib.Core.List.{List, [], ◌∷◌, ◌++◌, append-nil}
use Prim.Native.Nat.{ℕ, suc, ◌+◌, ◌*◌, ◌-◌, ◌%◌, ◌^◌, ◌<◌, ◌≤◌}
use native.Mathlib.Omega.{arith}
use lib.Dec.{leb, eqb}
use lib.ListN.{length, get_or, take, drop, take-append-drop, length-append, length-take, length-drop, length-replicate, get_or-eq_default}
use lib.Seq.{drop_at, take-add, take_all, length-take-le}
use borrow.Author.Tests.{eq-eqb, ne_eqb, leb-true, ltb-true, ltb-false, eqb-true, eqb-false, not-true}
use Rattle.laws.specs.Bounded.{Below}
use Rattle.laws.proofs.Lines.{and_left, and_right}
use Rattle.pages.specs.Lists.{is_in, sound_list}
use Rattle.pages.specs.Pages.{remaining, halves, page, is_last, ending, read_off}
use Rattle.taking.specs.Taking.{same_list, is_repeat, before, is_full, all_new, adds, nothing, verdict}
use Rattle.taking.specs.declared.Verdict.TheVariants.{Repeat, More, Ends}
use Rattle.taking.proofs.Judging.{same_length, verdict_repeat, verdict_more, verdict_ending, repeat_same, full_whole, adds_new, ending_last, ending_adds}
use Rattle.pages.proofs.Making.{append_zeros_at}
use Rattle.pages.proofs.Laws.{page_parts, read_page}
use Rattle.pages.proofs.Scanning.{sound_no_zero}

-- a list is told the same as itself, and as no other
pub same_lists : (a b : List ℕ) → same_list a b ≡ true → a ≡ b
unfolding same_list
same_lists [] [] e = refl
same_lists [] (y ∷ b) e = absurd (false≢true e)
same_lists (x ∷ a) [] e = absurd (false≢true e)
same_lists (x ∷ a) (y ∷ b) e =
    ap₂ (λ (z : ℕ) (c : List ℕ). z ∷ c) (eqb-true x y (and_left (eqb x y) _ e)) (same_lists a b (and_right (eqb x y) _ e))

pub same_self : (l : List ℕ) → same_list l l ≡ true
unfolding same_list
same_self [] = refl
same_self (x ∷ l) = rw (eq-eqb x x refl) (same_self l)

-- the last twelve gathered are a repeat
pub repeats_last : (l v : List ℕ) → length v ≡ 12 → is_repeat (l ++ v) v ≡ true
repeats_last l v e =
    let size : length (l ++ v) ≡ length l + 12 = omega (arith, length-append l v) in
    let start : length (l ++ v) - 12 ≡ length l = omega arith in
    let last : drop (length (l ++ v) - 12) (l ++ v) ≡ v = ap (λ (n : ℕ). drop n (l ++ v)) start ∙ drop_at l v (length l) refl in
    sym (repeat_same (l ++ v) v (omega arith)) ∙ ap (λ (x : List ℕ). same_list x v) last ∙ same_self v

-- the same full page again adds nothing
pub repeat_again : (l v : List ℕ) → length v ≡ 12 → verdict (l ++ v) v ≡ Repeat
repeat_again l v e = sym (verdict_repeat (l ++ v) v (repeats_last l v e))

-- what a sound list says of its parts
pub or_none : (a b : Bool) → (a || b) ≡ false → (a ≡ false) × (b ≡ false)
or_none true b e = absurd (false≢true (sym e))
or_none false b e = (refl, e)

in_append : (s : ℕ) (l w : List ℕ) → is_in s (l ++ w) ≡ false → (is_in s l ≡ false) × (is_in s w ≡ false)
unfolding is_in
in_append s [] w e = (refl, e)
in_append s (x ∷ l) w e =
    let parts = or_none (eqb x s) (is_in s (l ++ w)) e in
    let rest = in_append s l w parts.1 in
    (rw parts.0 rest.0, rest.1)

pub eqb_other : (x y : ℕ) → eqb x y ≡ false → eqb y x ≡ false
eqb_other x y e = ne_eqb y x (λ z. eqb-false x y e (sym z))

new_cons : (s : ℕ) (l w : List ℕ) → is_in s w ≡ false → all_new l w ≡ true → all_new (s ∷ l) w ≡ true
unfolding all_new is_in
new_cons s l [] n e = refl
new_cons s l (x ∷ w) n e =
    let parts = or_none (eqb x s) (is_in s w) n in
    let a = and_left (not (is_in x l)) (not (is_in x w) && all_new l w) e in
    let b = and_right (not (is_in x l)) (not (is_in x w) && all_new l w) e in
    rw (eqb_other x s parts.0, a, and_left (not (is_in x w)) (all_new l w) b) (new_cons s l w parts.1 (and_right (not (is_in x w)) (all_new l w) b))

new_nil : (w : List ℕ) → sound_list w ≡ true → all_new [] w ≡ true
unfolding all_new sound_list is_in
new_nil [] e = refl
new_nil (x ∷ w) e =
    let r = and_right (not (eqb x 0)) (not (is_in x w) && sound_list w) e in
    rw (and_left (not (is_in x w)) (sound_list w) r) (new_nil w (and_right (not (is_in x w)) (sound_list w) r))

pub sound_new : (l w : List ℕ) → sound_list (l ++ w) ≡ true → all_new l w ≡ true
unfolding sound_list
sound_new [] w e = new_nil w e
sound_new (s ∷ l) w e =
    let r = and_right (not (eqb s 0)) (not (is_in s (l ++ w)) && sound_list (l ++ w)) e in
    let none = in_append s l w (not-true (is_in s (l ++ w)) (and_left (not (is_in s (l ++ w))) (sound_list (l ++ w)) r)) in
    new_cons s l w none.1 (sound_new l w (and_right (not (is_in s (l ++ w))) (sound_list (l ++ w)) r))

pub sound_first : (l w : List ℕ) → sound_list (l ++ w) ≡ true → sound_list l ≡ true
unfolding sound_list
sound_first [] w e = refl
sound_first (s ∷ l) w e =
    let a = and_left (not (eqb s 0)) (not (is_in s (l ++ w)) && sound_list (l ++ w)) e in
    let r = and_right (not (eqb s 0)) (not (is_in s (l ++ w)) && sound_list (l ++ w)) e in
    let none = in_append s l w (not-true (is_in s (l ++ w)) (and_left (not (is_in s (l ++ w))) (sound_list (l ++ w)) r)) in
    rw (a, none.0) (sound_first l w (and_right (not (is_in s (l ++ w))) (sound_list (l ++ w)) r))

-- a page whose first SVID is not gathered, or that is too short, is no repeat
in_drop : (s k : ℕ) (l : List ℕ) → is_in s l ≡ false → is_in s (drop k l) ≡ false
in_drop s k l e = (in_append s (take k l) (drop k l) (ap (is_in s) (take-append-drop k l) ∙ e)).1

same_in : (a : List ℕ) (x : ℕ) (w : List ℕ) → is_in x a ≡ false → same_list a (x ∷ w) ≡ false
unfolding same_list is_in
same_in [] x w e = refl
same_in (y ∷ a) x w e = rw (or_none (eqb y x) (is_in x a) e).0

not_repeat : (l : List ℕ) (x : ℕ) (w : List ℕ) → is_in x l ≡ false → is_repeat l (x ∷ w) ≡ false
unfolding is_repeat
not_repeat l x w e = go (leb 12 (length l)) (same_in (drop (length l - 12) l) x w (in_drop x (length l - 12) l e))
  where
    go : (t : Bool) → same_list (drop (length l - 12) l) (x ∷ w) ≡ false → (t && same_list (drop (length l - 12) l) (x ∷ w)) ≡ false
    go true s = s
    go false s = refl

short_repeat : (l v : List ℕ) → (length v ≡ 12 → ⊥) → is_repeat l v ≡ false
unfolding is_repeat
short_repeat l v h = go (leb 12 (length l)) refl
  where
    go : (t : Bool) → leb 12 (length l) ≡ t → (t && same_list (drop (length l - 12) l) v) ≡ false
    go true e =
        let twelve : length (drop (length l - 12) l) ≡ 12 = omega (arith, length-drop (length l - 12) l, leb-true 12 (length l) e) in
        sym (same_length (drop (length l - 12) l) v (λ z. h (sym z ∙ twelve)))
    go false e = refl

new_first : (l : List ℕ) (x : ℕ) (w : List ℕ) → all_new l (x ∷ w) ≡ true → is_in x l ≡ false
unfolding all_new
new_first l x w e = not-true (is_in x l) (and_left (not (is_in x l)) (not (is_in x w) && all_new l w) e)

not_repeat_new : (l w : List ℕ) → 0 < length w → all_new l w ≡ true → is_repeat l w ≡ false
not_repeat_new l [] h e = absurd (omega arith)
not_repeat_new l (x ∷ w) h e = not_repeat l x w (new_first l x w e)

not_repeat_ending : (l w : List ℕ) → all_new l w ≡ true → is_repeat l (w ++ ending (length w)) ≡ false
not_repeat_ending l [] e = short_repeat l (0 ∷ 0 ∷ []) (λ z. omega arith)
not_repeat_ending l (x ∷ w) e = not_repeat l x (w ++ ending (suc (length w))) (new_first l x w e)

not_full : (v : List ℕ) → (before v ≡ 12 → ⊥) → is_full v ≡ false
unfolding is_full
not_full v h = go (eqb (length v) 12)
  where
    go : (t : Bool) → (t && eqb (before v) 12) ≡ false
    go true = ne_eqb (before v) 12 h
    go false = refl

some_gathered : (n k : ℕ) → 0 < n + k → nothing n k ≡ false
some_gathered n k h = go (eqb n 0) refl
  where
    go : (t : Bool) → eqb n 0 ≡ t → (t && eqb k 0) ≡ false
    go true e = ne_eqb k 0 (λ z. omega (arith, eqb-true n 0 e))
    go false e = refl

-- values that are new and whole, taken after what is gathered: a full page adds them,
takes_full : (l w : List ℕ) → length w ≡ 12 → read_off w ≡ w → all_new l w ≡ true → length l + 12 ≤ 72 → verdict l w ≡ More
takes_full l w size read new fits =
    sym
    (verdict_more l w (not_repeat_new l w (omega arith) new)
    (sym (full_whole w (before w) refl size) ∙ eq-eqb (before w) 12 (ap length read ∙ size))
    (sym (adds_new l w (omega arith) (omega arith)) ∙ new))

-- and an ending page ends the list with them
takes_ending : (l w : List ℕ) → length w < 12 → read_off (w ++ ending (length w)) ≡ w → all_new l w ≡ true → length l + length w ≤ 72 →
    0 < length l + length w → verdict l (w ++ ending (length w)) ≡ Ends (length w)
takes_ending l w short read new fits some =
    let v : List ℕ = w ++ ending (length w) in
    let n : before v ≡ length w = ap length read in
    let size : length v ≡ length w + (2 - length w % 2) = length-append w (ending (length w)) ∙ ap (λ (k : ℕ). length w + k) (length-replicate {A = ℕ} (2 - length w % 2) 0) in
    let last : get_or v (length v - 1) 0 ≡ 0 =
    append_zeros_at w (2 - length w % 2) (length v - 1) ∙ get_or-eq_default w 0 (omega arith) in
    sym
    (ending_adds l v (length w) (sym n)
    (sym (ending_last v (before v) refl (omega arith) (omega arith)) ∙ eq-eqb (get_or v (length v - 1) 0) 0 last)
    (some_gathered (length l) (before v) (omega arith))
    (ap (adds l) read ∙ sym (adds_new l w (omega arith) (omega arith)) ∙ new) ∙
    verdict_ending l v (not_repeat_ending l w new) (not_full v (λ z. omega arith)))

-- page p of a sound list, taken after its first 12 p SVIDs,
module _ (list : List ℕ) (p : ℕ) (b : Below (2 ^ 16) list) (sound : sound_list list ≡ true) (fits : length list ≤ 72) where
  read : read_off (halves (page list p)) ≡ take 12 (remaining list p)
  read = read_page list p b (sound_no_zero list sound)

  -- gives its first 12 (p + 1) where it does not end the list,
  pub take_more : is_last list p ≡ false →
      (verdict (take (p * 12) list) (halves (page list p)) ≡ More) × (take (p * 12) list ++ halves (page list p) ≡ take (p * 12 + 12) list)
  unfolding is_last
  take_more last =
      let l : List ℕ = take (p * 12) list in
      let w : List ℕ = take 12 (remaining list p) in
      let left : 12 ≤ length (remaining list p) = ltb-false (length (remaining list p)) 12 last in
      let all : length (remaining list p) ≡ length list - p * 12 = length-drop (p * 12) list in
      let shown : halves (page list p) ≡ w =
      page_parts list p b ∙ ap (λ (t : Bool). w ++ cond t (ending (length (remaining list p))) []) last ∙ append-nil w in
      let next : l ++ w ≡ take (p * 12 + 12) list = sym (take-add (p * 12) 12 list) in
      let part : sound_list (l ++ w) ≡ true =
      ap sound_list next ∙
      sound_first (take (p * 12 + 12) list) (drop (p * 12 + 12) list) (ap sound_list (take-append-drop (p * 12 + 12) list) ∙ sound) in (
        ap (verdict l) shown ∙
            takes_full l w (length-take-le 12 (remaining list p) left) (ap read_off (sym shown) ∙ read) (sound_new l w part)
            (omega (arith, length-take (p * 12) list)),
        ap (λ (x : List ℕ). l ++ x) shown ∙ next,
      )

  -- and at the last page the whole list
  pub take_last : is_last list p ≡ true → p * 12 ≤ length list → 0 < length list →
      (verdict (take (p * 12) list) (halves (page list p)) ≡ Ends (length (remaining list p))) ×
      (take (p * 12) list ++ read_off (halves (page list p)) ≡ list)
  unfolding is_last
  take_last last begun some =
      let l : List ℕ = take (p * 12) list in
      let w : List ℕ = remaining list p in
      let short : length w < 12 = ltb-true (length w) 12 last in
      let taken : take 12 w ≡ w = take_all 12 w (omega arith) in
      let shown : halves (page list p) ≡ w ++ ending (length w) =
      page_parts list p b ∙ ap (λ (t : Bool). take 12 w ++ cond t (ending (length w)) []) last ∙
      ap (λ (x : List ℕ). x ++ ending (length w)) taken in
      let whole : l ++ w ≡ list = take-append-drop (p * 12) list in
      let size : length l + length w ≡ length list = sym (length-append l w) ∙ ap length whole in (
        ap (verdict l) shown ∙
            takes_ending l w short (ap read_off (sym shown) ∙ read ∙ taken) (sound_new l w (ap sound_list whole ∙ sound)) (omega arith) (omega arith),
        ap (λ (x : List ℕ). l ++ x) (read ∙ taken) ∙ whole,
      )
