-- How the words of a sound file are put: what stands where, by what a walk has noted.
use Rattle.std.specs.Prelude.{◌≡◌, ℕ, zero, suc, ◌+◌, ◌*◌, List, [], ◌∷◌, ◌++◌, length, get_or, drop}
use Rattle.messages.specs.Layout.{objects_of}
use Rattle.laptop.specs.Catalogue.{Entry}
use Rattle.catalogue.specs.Bytes.{end_kind, entries_bytes, Each, EntryFits}
use Rattle.judging.specs.Judging.{noted}
use Rattle.judging.specs.Walking.{numbers_of}
use Rattle.judging.specs.declared.walk.Walk.{Walk}

-- the words of so many mode records from an offset on, each behind its kind
unfoldable pub words_from : List ℕ → ℕ → ℕ → List ℕ
words_from bytes at zero = []
words_from bytes at (suc number) = get_or (objects_of (drop (at + 1) bytes)) 0 0 ∷ words_from bytes (at + 5) number

-- the entries that stand behind the identity of a sound file, as a walk has noted them
pub record Standing (entries : List Entry) (bytes : List ℕ) (walk : Walk) (numbers : List ℕ) : Type 0 where
  pub count_is : walk.count ≡ length entries
  pub numbers_are : numbers ≡ noted (numbers_of entries)
  pub bytes_are : drop (1 + walk.extent * 4) bytes ≡ entries_bytes entries ++ end_kind ∷ []
  pub fits : Each EntryFits entries
