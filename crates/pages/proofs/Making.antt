-- Making a page: the objects that the code computes are those of the definition.
use mathlib.Core.Path.{◌≡◌, refl, ap, ap₂, sym, ◌∙◌}
use mathlib.Core.Bool.{Bool, true, false, cond}
use mathlib.Core.List.{List, [], ◌∷◌, ◌++◌}
use Prim.Native.Nat.{ℕ, zero, suc, ◌+◌, ◌*◌, ◌-◌, ◌/◌, ◌%◌, ◌^◌, ◌<◌, ◌≤◌, min}
use native.Mathlib.Omega.{arith}
use lib.Dec.{leb, ltb}
use lib.ListN.{length, get_or, take, replicate, length-append, length-drop, length-replicate}
use lib.Seq.{get_or-drop, get_or-take, length-take-le}
use borrow.Author.Tests.{leb-true, leb-false, ltb-true, ltb-false, le-leb, lt-leb, lt-ltb, le-ltb}
use Rattle.laws.specs.Bounded.{Below}
use Rattle.laws.specs.Padded.{padded}
use Rattle.laws.proofs.Padded.{padded_at}
use Rattle.pages.specs.Pages.{paired, remaining, ending, values, page, is_last, pair_at, pairs_from, shown_page}
use Rattle.pages.specs.declared.Page.{Page}

-- the object at j has the values at 2j and after it
paired_at : (vs : List ℕ) (j : ℕ) → get_or (paired vs) j 0 ≡ get_or vs (j * 2) 0 * 2 ^ 16 + get_or vs (j * 2 + 1) 0
unfolding paired
paired_at [] j = refl
paired_at (a ∷ []) zero = omega arith
paired_at (a ∷ []) (suc j) =
    let e : suc j * 2 ≡ suc (suc (j * 2)) = omega arith in
    let f : suc j * 2 + 1 ≡ suc (suc (j * 2 + 1)) = omega arith in
    rw (f, e)
paired_at (a ∷ b ∷ vs) zero = refl
paired_at (a ∷ b ∷ vs) (suc j) =
    let e : suc j * 2 ≡ suc (suc (j * 2)) = omega arith in
    let f : suc j * 2 + 1 ≡ suc (suc (j * 2 + 1)) = omega arith in
    rw (f, e) (paired_at vs j)

pub length_paired : (vs : List ℕ) → length (paired vs) ≡ (length vs + 1) / 2
unfolding paired
length_paired [] = refl
length_paired (a ∷ []) = refl
length_paired (a ∷ b ∷ vs) = let e = length_paired vs in omega arith

zeros_at : (n k : ℕ) → get_or {A = ℕ} (replicate n 0) k 0 ≡ 0
zeros_at zero k = refl
zeros_at (suc n) zero = refl
zeros_at (suc n) (suc k) = zeros_at n k

pub append_zeros_at : (l : List ℕ) (n k : ℕ) → get_or (l ++ replicate n 0) k 0 ≡ get_or l k 0
append_zeros_at [] n k = zeros_at n k
append_zeros_at (a ∷ l) n zero = refl
append_zeros_at (a ∷ l) n (suc k) = append_zeros_at l n k

-- below 12, the values are those that remain, with 0 past their end
values_at : (rest : List ℕ) (k : ℕ) → k < 12 → get_or (values rest) k 0 ≡ get_or rest k 0
unfolding values
values_at rest k h = go (leb 12 (length rest))
  where
    go : (t : Bool) → get_or (cond t (take 12 rest) (rest ++ ending (length rest))) k 0 ≡ get_or rest k 0
    go true = get_or-take 12 rest k 0 h
    go false = append_zeros_at rest (2 - length rest % 2) k

take_below : (m : ℕ) (l : List ℕ) → Below (2 ^ 16) l → Below (2 ^ 16) (take m l)
take_below zero l b k = omega arith
take_below (suc m) [] b k = omega arith
take_below (suc m) (a ∷ l) b zero = b zero
take_below (suc m) (a ∷ l) b (suc k) = take_below m l (λ j. b (suc j)) k

pub values_below : (rest : List ℕ) → Below (2 ^ 16) rest → Below (2 ^ 16) (values rest)
unfolding values
values_below rest b k = go (leb 12 (length rest))
  where
    go : (t : Bool) → get_or (cond t (take 12 rest) (rest ++ ending (length rest))) k 0 < 2 ^ 16
    go true = take_below 12 rest b k
    go false = omega (arith, append_zeros_at rest (2 - length rest % 2) k, b k)

pub length_values_full : (rest : List ℕ) → 12 ≤ length rest → length (values rest) ≡ 12
unfolding values
length_values_full rest h = rw (le-leb 12 (length rest) h) (length-take-le 12 rest h)

pub length_values_last : (rest : List ℕ) → length rest < 12 → length (values rest) ≡ length rest + 2 - length rest % 2
unfolding values
length_values_last rest h =
    rw (lt-leb 12 (length rest) h)
    (omega (arith, length-append rest (ending (length rest)), length-replicate {A = ℕ} (2 - length rest % 2) 0))

-- the six objects are the page's
module _ (list : List ℕ) (p : ℕ) where
  object_is : (j : ℕ) → j < 6 → pair_at list (p * 12 + j * 2) ≡ get_or (page list p) j 0
  unfolding page
  object_is j h =
      let rest : List ℕ = remaining list p in
      let next : p * 12 + j * 2 + 1 ≡ p * 12 + (j * 2 + 1) = omega arith in
      let low : get_or list (p * 12 + j * 2) 0 ≡ get_or (values rest) (j * 2) 0 =
      sym (get_or-drop (p * 12) list (j * 2) 0) ∙ sym (values_at rest (j * 2) (omega arith)) in
      let high : get_or list (p * 12 + j * 2 + 1) 0 ≡ get_or (values rest) (j * 2 + 1) 0 =
      ap (λ (i : ℕ). get_or list i 0) next ∙ sym (get_or-drop (p * 12) list (j * 2 + 1) 0) ∙ sym (values_at rest (j * 2 + 1) (omega arith)) in
      ap₂ (λ (x y : ℕ). x * 2 ^ 16 + y) low high ∙ sym (paired_at (values rest) j)

  pub pairs_page : pairs_from list (p * 12) ≡ padded (page list p)
  pairs_page =
      let e0 : pair_at list (p * 12) ≡ get_or (page list p) 0 0 = ap (pair_at list) (omega arith) ∙ object_is 0 (omega arith) in
      rw (e0, object_is 1 (omega arith), object_is 2 (omega arith), object_is 3 (omega arith), object_is 4 (omega arith), object_is 5 (omega arith))
      (padded_at (page list p))

  pub length_page : length (page list p) ≡ (length (values (remaining list p)) + 1) / 2
  unfolding page
  length_page = length_paired (values (remaining list p))

  left : length (remaining list p) ≡ length list - p * 12
  left = length-drop (p * 12) list

  -- the number of objects: six where twelve values remain, and else those of what remains and its ending
  pub count_is : (count : ℕ) → count ≡ min ((length list - p * 12) / 2 + 1) 6 → count ≡ length (page list p)
  count_is count e = go (leb 12 (length (remaining list p))) refl
    where
      go : (t : Bool) → leb 12 (length (remaining list p)) ≡ t → count ≡ length (page list p)
      go true h = let l : 12 ≤ length (remaining list p) = leb-true _ _ h in omega (arith, left, length_page, length_values_full (remaining list p) l)
      go false h = let l : length (remaining list p) < 12 = leb-false _ _ h in omega (arith, left, length_page, length_values_last (remaining list p) l)

  pub shown_page_lem : (objects : List ℕ) (count : ℕ) → objects ≡ pairs_from list (p * 12) → count ≡ length (page list p) →
      ◌≡◌ {A = Page} (record { objects = objects; count = count }) (shown_page (page list p))
  unfolding shown_page
  shown_page_lem objects count eo ec =
      let o : objects ≡ padded (page list p) = eo ∙ pairs_page in
      λ i. record { objects = o i; count = ec i }

  pub last_is : ltb (length list) (p * 12 + 12) ≡ is_last list p
  unfolding is_last
  last_is = go (ltb (length list) (p * 12 + 12)) refl
    where
      go : (t : Bool) → ltb (length list) (p * 12 + 12) ≡ t → ltb (length list) (p * 12 + 12) ≡ ltb (length (remaining list p)) 12
      go true e = e ∙ sym (lt-ltb (length (remaining list p)) 12 (omega (arith, left, ltb-true (length list) (p * 12 + 12) e)))
      go false e = e ∙ sym (le-ltb (length (remaining list p)) 12 (omega (arith, left, ltb-false (length list) (p * 12 + 12) e)))
