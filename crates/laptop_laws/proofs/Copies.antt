-- What is published is the candidate's catalogue: its modes, read off the held run, are those of its own run.
use mathlib.Core.Path.{◌≡◌, refl, ap, ap₂, sym, ◌∙◌}
use mathlib.Core.Bool.{Bool, true, false, cond}
use mathlib.Core.List.{List, [], ◌∷◌}
use Prim.Native.Nat.{ℕ, zero, suc, ◌+◌, ◌*◌, ◌/◌, ◌%◌, ◌<◌, ◌≤◌}
use native.Mathlib.Omega.{arith}
use lib.Dec.{leb, ltb}
use lib.ListN.{length, get_or, take, drop, length-take, length-drop}
use lib.Seq.{ext_get_or, get_or-take, get_or-drop, length-take-le}
use borrow.Author.Tests.{lt-ltb, leb-true, leb-false}
use Rattle.hearing.specs.Answers.{is_mode, copied}
use Rattle.laptop.specs.Catalogue.{Entry, modes_number, modes_at, entries_from, catalogue_in}
use Rattle.laptop.specs.declared.Size.{Size}

pub length_copied : (modes run : List ℕ) (k : ℕ) (words : List ℕ) → length (copied modes run k words) ≡ length words
unfolding copied
length_copied modes run k [] = refl
length_copied modes run k (w ∷ words) = ap suc (length_copied modes run (suc k) words)

copied_at : (modes run : List ℕ) (k : ℕ) (words : List ℕ) (j : ℕ) → j < length words → is_mode modes (k + j) ≡ true →
    get_or (copied modes run k words) j 0 ≡ get_or run (k + j) 0
unfolding copied
copied_at modes run k [] j h m = absurd (omega arith)
copied_at modes run k (w ∷ words) zero h m =
    let e : k + 0 ≡ k = omega arith in
    let here : is_mode modes k ≡ true = sym (ap (is_mode modes) e) ∙ m in rw (here, e)
copied_at modes run k (w ∷ words) (suc j) h m =
    let e : suc k + j ≡ k + suc j = omega arith in
    copied_at modes run (suc k) words j (omega arith) (ap (is_mode modes) e ∙ m) ∙ ap (λ (n : ℕ). get_or run n 0) e

-- at most six, and at most as many as there are
module _ (modes : List ℕ) (i : ℕ) where
  number_of : (modes_number modes i ≤ 6) × (modes_number modes i ≤ get_or modes i 0)
  unfolding modes_number
  number_of = go (leb (get_or modes i 0) 6) refl
    where
      go : (t : Bool) → leb (get_or modes i 0) 6 ≡ t → (cond t (get_or modes i 0) 6 ≤ 6) × (cond t (get_or modes i 0) 6 ≤ get_or modes i 0)
      go true e = (leb-true _ _ e, omega arith)
      go false e = (omega arith, omega (arith, leb-false (get_or modes i 0) 6 e))

module _ (count : ℕ) (modes run held : List ℕ) (few : count ≤ 72) (whole : 432 ≤ length run) (room : 432 ≤ length held) where
  is_mode_lem : (i j : ℕ) → i < count → j < modes_number modes i → is_mode (take count modes) (0 + (i * 6 + j)) ≡ true
  unfolding is_mode
  is_mode_lem i j hi hj =
      let number = number_of modes i in
      let place : (0 + (i * 6 + j)) / 6 ≡ i = omega arith in
      let within : (0 + (i * 6 + j)) % 6 ≡ j = omega arith in
      ap₂ (λ (a b : ℕ). ltb a (get_or (take count modes) b 0)) within place ∙ ap (ltb j) (get_or-take count modes i 0 hi) ∙
      lt-ltb j (get_or modes i 0) (omega (arith, number.1))

  word_at : (l : List ℕ) (i j : ℕ) → j < modes_number modes i → get_or (modes_at modes l i) j 0 ≡ get_or l (i * 6 + j) 0
  unfolding modes_at
  word_at l i j h = get_or-take (modes_number modes i) (drop (i * 6) l) j 0 h ∙ get_or-drop (i * 6) l j 0

  size_at : (l : List ℕ) (i : ℕ) → i < count → 432 ≤ length l → length (modes_at modes l i) ≡ modes_number modes i
  unfolding modes_at
  size_at l i h w = length-take-le (modes_number modes i) (drop (i * 6) l) (omega (arith, (number_of modes i).0, length-drop (i * 6) l))

  abbrev after : List ℕ
  after = copied (take count modes) run 0 held

  modes_copied : (i : ℕ) → i < count → modes_at modes after i ≡ modes_at modes run i
  modes_copied i h =
      let long : 432 ≤ length after = omega (arith, length_copied (take count modes) run 0 held) in
      let size = size_at after i h long in
      ext_get_or 0 (modes_at modes after i) (modes_at modes run i) (size ∙ sym (size_at run i h whole))
      (λ j less.
      word_at after i j (omega (arith, size)) ∙
      copied_at (take count modes) run 0 held (i * 6 + j) (omega (arith, size, (number_of modes i).0)) (is_mode_lem i j h (omega (arith, size))) ∙
      ap (λ (n : ℕ). get_or run n 0) (let z : 0 + (i * 6 + j) ≡ i * 6 + j = omega arith in z) ∙ sym (word_at run i j (omega (arith, size))))

  entries_copied : (i : ℕ) (svids : List ℕ) → i + length svids ≤ count → entries_from i svids modes after ≡ entries_from i svids modes run
  unfolding entries_from
  entries_copied i [] h = refl
  entries_copied i (s ∷ svids) h =
      ap₂ (λ (w : List ℕ) (rest : List Entry). record { svid = s; modes = w } ∷ rest) (modes_copied i (omega arith))
      (entries_copied (suc i) svids (omega arith))

-- the catalogue in the held lists and run is that in the candidate's
pub catalogue_copied : (size : Size) (identity svids modes run held : List ℕ) → size.count ≤ 72 → 432 ≤ length run → 432 ≤ length held →
    catalogue_in size identity svids modes (copied (take size.count modes) run 0 held) ≡ catalogue_in size identity svids modes run
catalogue_copied size identity svids modes run held few whole room =
    ap (λ (e : List Entry). record { identity = take size.extent identity; entries = e })
    (entries_copied size.count modes run held few whole room 0 (take size.count svids) (omega (arith, length-take size.count svids)))
