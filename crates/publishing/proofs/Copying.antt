-- Publishing: when, and which words of the run are copied.
use mathlib.Core.Path.{◌≡◌, refl, ap, sym, ◌∙◌}
use mathlib.Core.Bool.{Bool, true, false, cond}
use mathlib.Core.List.{List, [], ◌∷◌, ◌++◌}
use Prim.Native.Nat.{ℕ, suc, ◌+◌, ◌*◌, ◌/◌, ◌%◌, ◌<◌, ◌≤◌}
use native.Mathlib.Numerals.{add-one}
use native.Mathlib.Omega.{arith}
use lib.Dec.{ltb}
use lib.ListN.{length, get_or, take, drop, set, take-append-drop, drop_of_length-le, get_or-eq_default}
use lib.Seq.{drop-cons, set_at, set_out, length-take-le, append_snoc, take-append_seam, drop_at}
use Rattle.std.proofs.lemmas.Bool.Decides.{nat_tests}
use borrow.Author.Tests.{le-ltb, ltb-true, ltb-false}
use Rattle.publishing.specs.Publishing.{is_mode, copied, copied_to}

mode_past : (modes : List ℕ) (k : ℕ) → length modes ≤ k / 6 → is_mode modes k ≡ false
unfolding is_mode
mode_past modes k h = ap (λ (n : ℕ). ltb (k % 6) n) (get_or-eq_default modes 0 h) ∙ le-ltb (k % 6) 0 (omega arith)

pub copy_past : (modes run words : List ℕ) (k : ℕ) → length words ≤ k → words ≡ copied_to modes run k words
unfolding copied_to
copy_past modes run words k h = go (is_mode modes k)
  where
    go : (t : Bool) → words ≡ cond t (set words k (get_or run k 0)) words
    go true = sym (set_out words k (get_or run k 0) h)
    go false = refl

-- the words before k are done; the rest as the definition has it
abbrev pub copied_from : List ℕ → List ℕ → ℕ → List ℕ → List ℕ
copied_from modes run k words = take k words ++ copied modes run k (drop k words)

abbrev word_of : List ℕ → List ℕ → ℕ → ℕ → ℕ
word_of modes run k word = cond (is_mode modes k) (get_or run k 0) word

set_one : (modes run first rest : List ℕ) (word k : ℕ) → length first ≡ k →
    copied_to modes run k (first ++ word ∷ rest) ≡ first ++ word_of modes run k word ∷ rest
unfolding copied_to
set_one modes run first rest word k e = go (is_mode modes k)
  where
    go : (t : Bool) → cond t (set (first ++ word ∷ rest) k (get_or run k 0)) (first ++ word ∷ rest) ≡ first ++ cond t (get_or run k 0) word ∷ rest
    go true = set_at first word rest (get_or run k 0) k e
    go false = refl

copied_cons : (modes run : List ℕ) (k word : ℕ) (rest : List ℕ) →
    copied modes run k (word ∷ rest) ≡ word_of modes run k word ∷ copied modes run (k + 1) rest
unfolding copied
copied_cons modes run k word rest = rw add-one

copy_within : (modes run words next : List ℕ) (k : ℕ) → k < length words → next ≡ copied_to modes run k words →
    copied_from modes run k words ≡ copied_from modes run (k + 1) next
copy_within modes run words next k h e =
    let first : List ℕ = take k words in
    let rest : List ℕ = drop (k + 1) words in
    let word : ℕ = get_or words k 0 in
    let new : ℕ = word_of modes run k word in
    let size : length first ≡ k = length-take-le k words (omega arith) in
    let left : drop k words ≡ word ∷ rest = rw add-one (drop-cons words k 0 h) in
    let whole : words ≡ first ++ word ∷ rest = sym (take-append-drop k words) ∙ ap (λ (l : List ℕ). first ++ l) left in
    let after : next ≡ (first ++ new ∷ []) ++ rest =
    e ∙ ap (copied_to modes run k) whole ∙ set_one modes run first rest word k size ∙ sym (append_snoc first new rest) in
    let sizes : length (first ++ new ∷ []) ≡ k + 1 = omega (arith, lib.ListN.length-append first (new ∷ [])) in
    let taken : take (k + 1) next ≡ first ++ new ∷ [] =
    ap (take (k + 1)) after ∙ ap (λ (n : ℕ). take n ((first ++ new ∷ []) ++ rest)) (sym sizes) ∙ take-append_seam (first ++ new ∷ []) rest in
    let dropped : drop (k + 1) next ≡ rest = ap (drop (k + 1)) after ∙ drop_at (first ++ new ∷ []) rest (k + 1) sizes in
    ap (λ (l : List ℕ). first ++ copied modes run k l) left ∙
    ap (λ (l : List ℕ). first ++ l) (copied_cons modes run k word rest) ∙
    sym (append_snoc first new (copied modes run (k + 1) rest)) ∙
    sym (ap (λ (l : List ℕ). l ++ copied modes run (k + 1) (drop (k + 1) next)) taken ∙
    ap (λ (l : List ℕ). (first ++ new ∷ []) ++ copied modes run (k + 1) l) dropped)

-- past the end of the held run nothing is copied
copied_out : (modes run words : List ℕ) (k : ℕ) → length words ≤ k → copied_from modes run k words ≡ words
unfolding copied
copied_out modes run words k h = ap (λ (l : List ℕ). take k words ++ copied modes run k l) (drop_of_length-le words h) ∙
    ap (λ (l : List ℕ). take k words ++ l) (sym (drop_of_length-le words h)) ∙ take-append-drop k words

pub copy_step : (modes run words next : List ℕ) (k : ℕ) → next ≡ copied_to modes run k words →
    copied_from modes run k words ≡ copied_from modes run (k + 1) next
copy_step modes run words next k e = go (ltb k (length words)) refl
  where
    go : (t : Bool) → ltb k (length words) ≡ t → copied_from modes run k words ≡ copied_from modes run (k + 1) next
    go true h = copy_within modes run words next k (ltb-true k (length words) h) e
    go false h =
        let past : length words ≤ k = ltb-false k (length words) h in
        let same : words ≡ next = copy_past modes run words k past ∙ sym e in
        copied_out modes run words k past ∙ sym (copied_out modes run words (k + 1) (omega arith)) ∙ ap (copied_from modes run (k + 1)) same

-- past the last SVID nothing is copied
copied_past : (modes run : List ℕ) (k : ℕ) (words : List ℕ) → length modes * 6 ≤ k → copied modes run k words ≡ words
unfolding copied
copied_past modes run k [] h = refl
copied_past modes run k (word ∷ words) h =
    let none : is_mode modes k ≡ false = mode_past modes k (omega arith) in
    rw none (ap (λ (l : List ℕ). word ∷ l) (copied_past modes run (suc k) words (omega arith)))

pub copy_end : (modes run words : List ℕ) (k : ℕ) → length modes * 6 ≤ k → copied_from modes run k words ≡ words
copy_end modes run words k h = ap (λ (l : List ℕ). take k words ++ l) (copied_past modes run k (drop k words) h) ∙ take-append-drop k words

pub length_copied_to : (modes run words : List ℕ) (k : ℕ) → length (copied_to modes run k words) ≡ length words
unfolding copied_to
length_copied_to modes run words k = go (is_mode modes k)
  where
    go : (t : Bool) → length (cond t (set words k (get_or run k 0)) words) ≡ length words
    go true = lib.ListN.length-set words k (get_or run k 0)
    go false = refl

-- what `copy_word` needs
pub ruleset copy_steps = (set_out, nat_tests)
