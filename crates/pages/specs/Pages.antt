-- Page p of a list of SVIDs (01, "The dock end", Pages).
use Rattle.std.specs.Prelude.{◌≡◌, ℕ, zero, suc, ◌+◌, ◌*◌, ◌-◌, ◌/◌, ◌%◌, ◌^◌, ◌<◌, Bool, cond, List, [], ◌∷◌, ◌++◌, leb, ltb, eqb, length, get_or, take, drop, replicate}
use Rattle.laws.specs.Padded.{padded}
use Rattle.pages.specs.declared.Page.{Page}

-- SVIDs on a full page
abbrev pub per_page : ℕ
per_page = 12

-- values two per object, the first in the high half
unfoldable pub paired : List ℕ → List ℕ
paired [] = []
paired (a ∷ []) = (a * 2 ^ 16) ∷ []
paired (a ∷ b ∷ values) = (a * 2 ^ 16 + b) ∷ paired values

unfoldable pub halves : List ℕ → List ℕ
halves [] = []
halves (w ∷ ws) = w / 2 ^ 16 ∷ w % 2 ^ 16 ∷ halves ws

-- page p shows SVIDs 12p + 1 onward
abbrev pub remaining : List ℕ → ℕ → List ℕ
remaining list p = drop (p * per_page) list

-- an odd number of values ends in one zero half, an even number is followed by one zero object
abbrev pub ending : ℕ → List ℕ
ending r = replicate (2 - r % 2) 0

-- while 12 or more remain, 12 are shown; else what remains and its ending
unfoldable pub values : List ℕ → List ℕ
values rest = cond (leb per_page (length rest)) (take per_page rest) (rest ++ ending (length rest))

unfoldable pub page : List ℕ → ℕ → List ℕ
page list p = paired (values (remaining list p))

-- the page ends the list
unfoldable pub is_last : List ℕ → ℕ → Bool
is_last list p = ltb (length (remaining list p)) per_page

-- no value of the list is 0
abbrev pub NoZero : List ℕ → Type 0
NoZero list = (k : ℕ) → k < length list → get_or list k 0 ≡ 0 → ⊥

-- pages 0, 1, .. of a list, k of them
abbrev pub pages : List ℕ → ℕ → List (List ℕ)
pages list zero = []
pages list (suc k) = pages list k ++ page list k ∷ []

-- the values of a page, read off up to the first zero
unfoldable pub read_off : List ℕ → List ℕ
read_off [] = []
read_off (v ∷ vs) = cond (eqb v 0) [] (v ∷ read_off vs)

abbrev pub read_pages : List (List ℕ) → List ℕ
read_pages [] = []
read_pages (objects ∷ rest) = read_off (halves objects) ++ read_pages rest

-- six objects of the values at a place and after it, with 0 past the end
abbrev pub pair_at : List ℕ → ℕ → ℕ
pair_at list i = get_or list i 0 * 2 ^ 16 + get_or list (i + 1) 0

abbrev pub pairs_from : List ℕ → ℕ → List ℕ
pairs_from list at =
    pair_at list at ∷ pair_at list (at + 2) ∷ pair_at list (at + 4) ∷ pair_at list (at + 6) ∷ pair_at list (at + 8) ∷
    pair_at list (at + 10) ∷ []

-- how the code hands a page over: its objects in six words, and their number
unfoldable pub shown_page : List ℕ → Page
shown_page objects = record { objects = padded objects; count = length objects }
