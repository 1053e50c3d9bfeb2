-- What mending a catalogue promises, over the numbers that are lent.
use Rattle.std.specs.Prelude.{◌≡◌, ℕ, ◌≤◌, List, [], ◌∷◌}
use Rattle.laws.specs.Lent.{Lent, lent, left}
use Rattle.mending.specs.Mending.{mended_number, mended_offset, mending_of}
use Rattle.mending.specs.Mending.{Mended}
use Rattle.mending.specs.Mending.{Refused, Sound, Partial}
use Rattle.mending.specs.declared.keeping.Kept.{Kept}
use Rattle.controller.specs.CatalogueReading.{with_offset}

-- 0 for a sound file alone; of a partial one the fault's number and offset; of a refused one the refusal's number
unfoldable pub number_given : Mended → ℕ
number_given mended = with_offset (mended_number mended) (mended_offset mended)

-- SVIDs, modes in all, and the bytes of what comes out
abbrev pub kept_numbers : Kept → List ℕ
kept_numbers kept = kept.svids ∷ kept.modes ∷ kept.length ∷ []

-- so few of each
abbrev pub KeptFits : Kept → Type 0
KeptFits kept = (kept.svids ≤ 72) × (kept.modes ≤ 432) × (kept.length ≤ 2402)

-- a refusal leaves what was there
unfoldable pub kept_given : Mended → List ℕ → List ℕ
kept_given (Refused number) before = before
kept_given (Sound kept) before = kept_numbers kept
kept_given (Partial fault kept) before = kept_numbers kept

-- the number and the offset, the whole buffer afterwards, and what is kept
pub record MendCall (bytes : List ℕ) (result : ℕ) (out kept : Lent (List ℕ)) : Type 0 where
  pub result_is : result ≡ number_given (mending_of bytes (lent out)).0
  pub buffer_is : left out ≡ (mending_of bytes (lent out)).1
  pub kept_are : left kept ≡ kept_given (mending_of bytes (lent out)).0 (lent kept)
