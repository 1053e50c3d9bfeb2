-- Lemmas on what a line says.
use Rattle.std.proofs.Common.{◌≡◌, ℕ, zero, suc, ◌+◌, ◌-◌, List, [], ◌∷◌, ◌++◌, length, take, refl, ap, sym, ◌∙◌, arith, append_assoc, append-nil, take_all, length-append, ◌<◌, get_or}
use Rattle.std.specs.List.{flat_map}
use Rattle.std.proofs.lemmas.List.{take_more}
use Rattle.std.proofs.lemmas.Grind.{flat_map-append}
use Rattle.text.specs.Text.{with_text}

-- the room of one text, and what it leaves of that for another
take_both : (room : ℕ) (a b : List ℕ) → take room (a ++ b) ≡ take room a ++ take (room - length (take room a)) b
take_both zero a b = refl
take_both (suc room) [] b = let all : suc room ≡ suc room - 0 = omega arith in ap (λ n. take n b) all
take_both (suc room) (byte ∷ a) b =
    let left : room - length (take room a) ≡ suc room - suc (length (take room a)) = omega arith in
    ap (λ l. byte ∷ l) (take_both room a b ∙ ap (λ n. take room a ++ take n b) left)

-- two texts, one after the other, are one text
pub with_both : (n : ℕ) (said a b : List ℕ) → with_text n (with_text n said a) b ≡ with_text n said (a ++ b)
with_both n said a b =
    let first = take (n - length said) a in
    let left : n - length (said ++ first) ≡ n - length said - length first = simp length-append (omega arith) in
    append_assoc said first _ ∙ ap (λ l. said ++ l) (ap (λ k. first ++ take k b) left ∙ sym (take_both (n - length said) a b))

-- nothing is added to what a line says
pub with_none : (n : ℕ) (said : List ℕ) → with_text n said [] ≡ said
with_none n said = ap (λ l. said ++ l) (take_all (n - length said) [] (omega arith)) ∙ append-nil said

-- the step of a loop that adds a text for each item
pub with_next : (n : ℕ) (said : List ℕ) (f : ℕ → List ℕ) (xs : List ℕ) (i : ℕ) → i < length xs → with_text n (with_text n said (flat_map f (take i xs))) (f (get_or xs i 0)) ≡ with_text n said (flat_map f (take (i + 1) xs))
with_next n said f xs i below =
    let first = flat_map f (take i xs) in
    with_both n said first (f (get_or xs i 0))
    ∙ ap (with_text n said) (sym (ap (flat_map f) (take_more xs i 0 below) ∙ flat_map-append f (take i xs) (get_or xs i 0 ∷ []) ∙ ap (λ l. first ++ l) (append-nil (f (get_or xs i 0)))))
