-- Modes that come are stored at their SVID's words, and the others stay; when all have come, the catalogue is the dock's.
use mathlib.Core.Path.{◌≡◌, refl, ap, ap₂, sym, ◌∙◌}
use mathlib.Core.Bool.{Bool, true, false, cond}
use mathlib.Core.List.{List, [], ◌∷◌, ◌++◌, append_assoc}
use Prim.Native.Nat.{ℕ, suc, ◌+◌, ◌*◌, ◌<◌, ◌≤◌}
use native.Mathlib.Omega.{arith}
use lib.Dec.{leb}
use lib.ListN.{length, get_or, take, drop, set, length-drop}
use lib.Seq.{sets, sets-eq, length-sets, take_at, drop_at, get_or-take, get_or-drop, get_or-set_same, get_or-set_other, ext_get_or, length-take-le}
use borrow.Author.Tests.{le-leb, leb-true}
use Rattle.laptop.specs.Catalogue.{Entry, modes_number, modes_at, entries_from}
use Rattle.link.specs.Demand.{entries_of}

-- values stored from a place on leave what stands before it
sets_before : (l : List ℕ) (i : ℕ) (vs : List ℕ) (j : ℕ) → j < i → get_or (sets l i vs) j 0 ≡ get_or l j 0
sets_before l i [] j h = refl
sets_before l i (a ∷ vs) j h = sets_before (set l i a) (suc i) vs j (omega arith) ∙ get_or-set_other l i j a 0 (λ e. omega arith)

module _ (modes run words : List ℕ) (at : ℕ) (few : length words ≤ 6) (room : at * 6 + 6 ≤ length run) (place : at < length modes) where
  abbrev modes_then : List ℕ
  modes_then = set modes at (length words)

  abbrev run_then : List ℕ
  run_then = sets run (at * 6) words

  number_here : modes_number modes_then at ≡ length words
  unfolding modes_number
  number_here =
      let n : get_or modes_then at 0 ≡ length words = get_or-set_same modes at (length words) 0 place in
      rw (n, le-leb (length words) 6 few)

  number_there : (i : ℕ) → (i ≡ at → ⊥) → modes_number modes_then i ≡ modes_number modes i
  unfolding modes_number
  number_there i e =
      let n : get_or modes_then i 0 ≡ get_or modes i 0 = get_or-set_other modes at i (length words) 0 e in
      rw n

  number_most : (i : ℕ) → modes_number modes i ≤ 6
  unfolding modes_number
  number_most i = go (leb (get_or modes i 0) 6) refl
    where
      go : (t : Bool) → leb (get_or modes i 0) 6 ≡ t → cond t (get_or modes i 0) 6 ≤ 6
      go true e = leb-true _ _ e
      go false e = omega arith

  -- the modes that came
  pub stored_here : modes_at modes_then run_then at ≡ words
  unfolding modes_at
  stored_here =
      let first : length (take (at * 6) run) ≡ at * 6 = length-take-le (at * 6) run (omega arith) in
      let rest : List ℕ = drop (at * 6 + length words) run in
      let whole : run_then ≡ take (at * 6) run ++ (words ++ rest) =
      sets-eq words run (at * 6) (omega arith) ∙ append_assoc (take (at * 6) run) words rest in
      ap₂ (λ (n : ℕ) (l : List ℕ). take n (drop (at * 6) l)) number_here whole ∙
      ap (take (length words)) (drop_at (take (at * 6) run) (words ++ rest) (at * 6) first) ∙ take_at words rest (length words) refl

  -- and those before
  pub stored_before : (i : ℕ) → i < at → modes_at modes_then run_then i ≡ modes_at modes run i
  unfolding modes_at
  stored_before i h =
      let n : modes_number modes_then i ≡ modes_number modes i = number_there i (λ e. omega arith) in
      let most = number_most i in
      let size : (l : List ℕ) → length l ≡ length run → length (take (modes_number modes i) (drop (i * 6) l)) ≡ modes_number modes i =
      λ l e. length-take-le (modes_number modes i) (drop (i * 6) l) (omega (arith, length-drop (i * 6) l)) in
      let same : length run_then ≡ length run = length-sets run (at * 6) words in
      ap (λ (k : ℕ). take k (drop (i * 6) run_then)) n ∙
      ext_get_or 0 (take (modes_number modes i) (drop (i * 6) run_then)) (take (modes_number modes i) (drop (i * 6) run))
      (size run_then same ∙ sym (size run refl))
      (λ j less.
      let in_part : j < modes_number modes i = omega (arith, size run_then same) in
      get_or-take (modes_number modes i) (drop (i * 6) run_then) j 0 in_part ∙ get_or-drop (i * 6) run_then j 0 ∙
      sets_before run (at * 6) words (i * 6 + j) (omega arith) ∙ sym (get_or-drop (i * 6) run j 0) ∙
      sym (get_or-take (modes_number modes i) (drop (i * 6) run) j 0 in_part))

-- entries whose modes are the dock's
pub entries_are : (modes_of : ℕ → List ℕ) (modes run : List ℕ) (i : ℕ) (list : List ℕ) →
    ((j : ℕ) → j < length list → modes_at modes run (i + j) ≡ modes_of (get_or list j 0)) → entries_from i list modes run ≡ entries_of modes_of list
unfolding entries_from
entries_are modes_of modes run i [] f = refl
entries_are modes_of modes run i (s ∷ list) f =
    let here : modes_at modes run i ≡ modes_of s = ap (modes_at modes run) (sym (zero_more i)) ∙ f 0 (omega arith) in
    ap₂ (λ (w : List ℕ) (rest : List Entry). record { svid = s; modes = w } ∷ rest) here
    (entries_are modes_of modes run (suc i) list (λ j h. ap (modes_at modes run) (one_more i j) ∙ f (suc j) (omega arith)))
  where
    zero_more : (n : ℕ) → n + 0 ≡ n
    zero_more n = omega arith

    one_more : (n j : ℕ) → suc n + j ≡ n + suc j
    one_more n j = omega arith
