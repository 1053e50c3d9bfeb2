-- How the records are put: each is a number of so many bytes, the low byte first.
use Rattle.std.specs.Prelude.{◌≡◌, ℕ, zero, suc, ◌+◌, ◌*◌, ◌/◌, ◌%◌, cond, List, [], ◌∷◌, ◌++◌, eqb, length}
use Rattle.std.proofs.lemmas.List.Edits.{sets}
use Rattle.catalogue.specs.Bytes.{mode_kind}

unfoldable pub low_first : ℕ → ℕ → List ℕ
low_first zero number = []
low_first (suc size) number = number % 256 ∷ low_first size (number / 256)

-- a mode's record is its kind and its word; an object's is the word alone
abbrev pub mode_size : ℕ
mode_size = 5

abbrev pub object_size : ℕ
object_size = 4

unfoldable pub word_number : ℕ → ℕ → ℕ
word_number size word = cond (eqb size mode_size) (mode_kind + word * 256) word

unfoldable pub words_bytes : ℕ → List ℕ → List ℕ
words_bytes size [] = []
words_bytes size (word ∷ words) = low_first size (word_number size word) ++ words_bytes size words

-- what putting promises: the place behind the bytes, and the whole buffer
pub record Put (out : List ℕ) (at : ℕ) (bytes : List ℕ) (behind : ℕ) (after : List ℕ) : Type 0 where
  pub ends : behind ≡ at + length bytes
  pub stored : after ≡ sets out at bytes
