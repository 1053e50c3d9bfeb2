-- What reading a catalogue and finding a stretch promise, over the numbers that are lent.
use Rattle.std.specs.Prelude.{◌≡◌, ℕ, ◌+◌, ◌*◌, List, [], ◌∷◌, length}
use Rattle.laws.specs.Lent.{Lent, lent, left, accepted}
use Rattle.judging.specs.Judging.{judgement_of}
use Rattle.rebuilding.specs.Rebuilding.{Arrays, read_as, read_into}
use Rattle.rebuilding.specs.Rebuilding.{Rebuilt}
use Rattle.stretches.specs.Stretches.{stretch_in}
use Rattle.stretches.specs.Stretches.{Place}

-- the refusal number in the low eight bits, and the offset above them
abbrev pub with_offset : ℕ → ℕ → ℕ
with_offset number at = number + at * 256

-- identity objects, SVIDs, modes in all
abbrev pub sizes_of : Rebuilt → List ℕ
sizes_of read = read.extent ∷ read.count ∷ read.modes ∷ []

abbrev pub arrays_of : List ℕ → List ℕ → List ℕ → List ℕ → Arrays
arrays_of svids modes identity run = record { identity = identity; svids = svids; numbers = modes; run = run }

-- the number and the offset, on acceptance the sizes, and the arrays and the run
abbrev pub read_of : List ℕ → List ℕ → Rebuilt
read_of bytes run = read_as (length run) (judgement_of bytes)

pub record ReadCall (bytes : List ℕ) (result : ℕ) (svids modes identity run sizes : Lent (List ℕ)) : Type 0 where
  pub result_is : result ≡ with_offset (read_of bytes (lent run)).refusal (read_of bytes (lent run)).at
  pub sizes_are : left sizes ≡ accepted (read_of bytes (lent run)).refusal (sizes_of (read_of bytes (lent run))) (lent sizes)
  pub arrays_are : arrays_of (left svids) (left modes) (left identity) (left run) ≡
      read_into (judgement_of bytes) (arrays_of (lent svids) (lent modes) (lent identity) (lent run))

-- the number and the offset, and on acceptance the length
abbrev pub place_of : List ℕ → ℕ → Place
place_of bytes svid = stretch_in (judgement_of bytes) svid

pub record StretchCall (bytes : List ℕ) (svid result : ℕ) (bytes_found : Lent ℕ) : Type 0 where
  pub result_is : result ≡ with_offset (place_of bytes svid).refusal (place_of bytes svid).at
  pub length_is : left bytes_found ≡ accepted (place_of bytes svid).refusal (place_of bytes svid).length (lent bytes_found)
