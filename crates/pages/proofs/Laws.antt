-- What the pages of a list are, for both ends.
use mathlib.Core.Logic.{◌↔◌}
use mathlib.Core.Path.{◌≡◌, refl, ap, ap₂, sym, ◌∙◌}
use mathlib.Core.Bool.{Bool, true, false, cond}
use mathlib.Core.List.{List, [], ◌∷◌, ◌++◌, append_assoc, append-nil}
use Prim.Native.Nat.{ℕ, zero, suc, ◌+◌, ◌*◌, ◌-◌, ◌/◌, ◌%◌, ◌^◌, ◌<◌, ◌≤◌}
use native.Mathlib.Omega.{arith}
use lib.Dec.{leb, ltb}
use lib.ListN.{length, take, replicate, length-drop, length-take}
use lib.Seq.{get_or-drop, get_or-take, take_all, take-add}
use borrow.Author.Tests.{ltb-true, ltb-false, lt-ltb, le-leb, lt-leb, leb-true, leb-false, ne_eqb}
use Rattle.laws.specs.Bounded.{Below}
use Rattle.laws.proofs.Padded.{take_padded}
use Rattle.pages.specs.Pages.{paired, halves, remaining, ending, values, page, is_last, pages, read_off, read_pages, NoZero, shown_page}
use Rattle.pages.specs.declared.Page.{Page}
use Rattle.pages.proofs.Making.{length_page, length_values_full, length_values_last, values_below}

-- no page but the last ends the list, and the last is page n / 12: a list that is not empty has n / 12 + 1 pages
pub last_exactly : (list : List ℕ) (p : ℕ) → p ≤ length list / 12 → (is_last list p ≡ true) ↔ (p ≡ length list / 12)
unfolding is_last
last_exactly list p h = (
  λ e. omega (arith, length-drop (p * 12) list, ltb-true (length (remaining list p)) 12 e),
  λ e. lt-ltb (length (remaining list p)) 12 (omega (arith, length-drop (p * 12) list)),
)

-- a page has 1 to 6 objects
pub page_size : (list : List ℕ) (p : ℕ) → (1 ≤ length (page list p)) × (length (page list p) ≤ 6)
page_size list p = go (leb 12 (length (remaining list p))) refl
  where
    go : (t : Bool) → leb 12 (length (remaining list p)) ≡ t → (1 ≤ length (page list p)) × (length (page list p) ≤ 6)
    go true e =
        let full = length_values_full (remaining list p) (leb-true 12 (length (remaining list p)) e) in
        (omega (arith, length_page list p), omega (arith, length_page list p))
    go false e =
        let short = leb-false 12 (length (remaining list p)) e in
        let last = length_values_last (remaining list p) short in
        (omega (arith, length_page list p), omega (arith, length_page list p))

-- the objects that the code hands over are the page
pub shown_objects : (list : List ℕ) (p : ℕ) (made : Page) → made ≡ shown_page (page list p) → take made.count made.objects ≡ page list p
unfolding shown_page
shown_objects list p made e =
    ap (λ (m : Page). take m.count m.objects) e ∙ take_padded (page list p) (page_size list p).1

-- pairs of values, read again
halves_paired : (vs : List ℕ) → Below (2 ^ 16) vs → length vs % 2 ≡ 0 → halves (paired vs) ≡ vs
unfolding halves paired
halves_paired [] b e = refl
halves_paired (v ∷ []) b e = absurd (omega arith)
halves_paired (v ∷ w ∷ vs) b e =
    let high : (v * 2 ^ 16 + w) / 2 ^ 16 ≡ v = omega (arith, b 1) in
    let low : (v * 2 ^ 16 + w) % 2 ^ 16 ≡ w = omega (arith, b 1) in
    ap₂ (λ (x : ℕ) (l : List ℕ). x ∷ l) high
    (ap₂ (λ (x : ℕ) (l : List ℕ). x ∷ l) low (halves_paired vs (λ k. b (suc (suc k))) (omega arith)))

even_values : (rest : List ℕ) → length (values rest) % 2 ≡ 0
even_values rest = go (leb 12 (length rest)) refl
  where
    go : (t : Bool) → leb 12 (length rest) ≡ t → length (values rest) % 2 ≡ 0
    go true e = omega (arith, length_values_full rest (leb-true 12 (length rest) e))
    go false e = omega (arith, length_values_last rest (leb-false 12 (length rest) e))

paired_below : (vs : List ℕ) → Below (2 ^ 16) vs → Below (2 ^ 32) (paired vs)
unfolding paired
paired_below [] b k = omega arith
paired_below (v ∷ []) b zero = omega (arith, b 0)
paired_below (v ∷ []) b (suc k) = omega arith
paired_below (v ∷ w ∷ vs) b zero = omega (arith, b 0, b 1)
paired_below (v ∷ w ∷ vs) b (suc k) = paired_below vs (λ j. b (suc (suc j))) k

remaining_below : (list : List ℕ) (p : ℕ) → Below (2 ^ 16) list → Below (2 ^ 16) (remaining list p)
remaining_below list p b k = omega (arith, get_or-drop (p * 12) list k 0, b (p * 12 + k))

-- a page's objects have 32 bits
pub page_below : (list : List ℕ) (p : ℕ) → Below (2 ^ 16) list → Below (2 ^ 32) (page list p)
unfolding page
page_below list p b = paired_below (values (remaining list p)) (values_below (remaining list p) (remaining_below list p b))

-- the values on a page
pub page_values : (list : List ℕ) (p : ℕ) → Below (2 ^ 16) list → halves (page list p) ≡ values (remaining list p)
unfolding page
page_values list p b =
    halves_paired (values (remaining list p))
    (values_below (remaining list p) (remaining_below list p b))
    (even_values (remaining list p))

-- they are the next twelve of the list, or what remains, and then zeros alone: none on a page that does not end the list
pub page_parts : (list : List ℕ) (p : ℕ) → Below (2 ^ 16) list →
    halves (page list p) ≡ take 12 (remaining list p) ++ cond (is_last list p) (ending (length (remaining list p))) []
unfolding values is_last
page_parts list p b = page_values list p b ∙ go (ltb (length (remaining list p)) 12) refl
  where
    rest : List ℕ
    rest = remaining list p

    go : (t : Bool) → ltb (length rest) 12 ≡ t → values rest ≡ take 12 rest ++ cond t (ending (length rest)) []
    go true e =
        let short : length rest < 12 = ltb-true (length rest) 12 e in
        rw (lt-leb 12 (length rest) short, take_all 12 rest (omega arith))
    go false e =
        let full : 12 ≤ length rest = ltb-false (length rest) 12 e in
        rw (le-leb 12 (length rest) full) (sym (append-nil (take 12 rest)))

pub read_zeros : (n : ℕ) → read_off (replicate n 0) ≡ []
unfolding read_off
read_zeros zero = refl
read_zeros (suc n) = refl

pub read_values : (vs zeros : List ℕ) → NoZero vs → read_off zeros ≡ [] → read_off (vs ++ zeros) ≡ vs
unfolding read_off
read_values [] zeros h z = z
read_values (v ∷ vs) zeros h z =
    rw (ne_eqb v 0 (h zero (omega arith))) (ap (λ (l : List ℕ). v ∷ l) (read_values vs zeros (λ k l. h (suc k) (omega arith)) z))

-- a page's values, read off up to the first zero: a list without zeros has none before their end
pub read_page : (list : List ℕ) (p : ℕ) → Below (2 ^ 16) list → NoZero list → read_off (halves (page list p)) ≡ take 12 (remaining list p)
unfolding read_off
read_page list p b h =
    ap read_off (page_parts list p b) ∙ read_values (take 12 rest) _ none (zeros (is_last list p))
  where
    rest : List ℕ
    rest = remaining list p

    none : NoZero (take 12 rest)
    none k l e =
        h (p * 12 + k) (omega (arith, length-take 12 rest, length-drop (p * 12) list))
        (sym (get_or-drop (p * 12) list k 0) ∙ sym (get_or-take 12 rest k 0 (omega (arith, length-take 12 rest))) ∙ e)

    zeros : (t : Bool) → read_off (cond t (ending (length rest)) []) ≡ []
    zeros true = read_zeros (2 - length rest % 2)
    zeros false = refl

read_append : (ps : List (List ℕ)) (objects : List ℕ) → read_pages (ps ++ objects ∷ []) ≡ read_pages ps ++ read_off (halves objects)
read_append [] objects = append-nil (read_off (halves objects))
read_append (p ∷ ps) objects =
    ap (λ (l : List ℕ). read_off (halves p) ++ l) (read_append ps objects) ∙
    sym (append_assoc (read_off (halves p)) (read_pages ps) (read_off (halves objects)))

-- the first k pages, read off in order, are the first 12 k SVIDs,
pub read_first : (list : List ℕ) → Below (2 ^ 16) list → NoZero list → (k : ℕ) → read_pages (pages list k) ≡ take (k * 12) list
read_first list b h zero = refl
read_first list b h (suc k) =
    let n : suc k * 12 ≡ k * 12 + 12 = omega arith in
    read_append (pages list k) (page list k) ∙
    ap₂ (λ (x y : List ℕ). x ++ y) (read_first list b h k) (read_page list k b h) ∙
    sym (take-add (k * 12) 12 list) ∙ ap (λ (m : ℕ). take m list) (sym n)

-- and all its pages are the list
pub read_all : (list : List ℕ) → Below (2 ^ 16) list → NoZero list → read_pages (pages list (length list / 12 + 1)) ≡ list
read_all list b h = read_first list b h (length list / 12 + 1) ∙ take_all ((length list / 12 + 1) * 12) list (omega arith)
