-- A reading as numbers.
use Rattle.std.specs.Prelude.{ℕ, List, ◌∷◌, length}
use Rattle.laws.specs.Padded.{padded}
use Rattle.messages.specs.Editions.{edition_number}
use Rattle.messages.specs.Reading.{Outcome, accepted, refused}

-- 0, or the refusal number
unfoldable pub number_of : Outcome → ℕ
number_of (accepted e m) = 0
number_of (refused number) = number

-- edition, SVID, command, type, position, number of objects after the header, six objects; a refusal leaves what was there
unfoldable pub numbers_of : Outcome → List ℕ → List ℕ
numbers_of (accepted e m) into =
    edition_number e ∷ m.head.svid ∷ m.head.command ∷ m.head.kind ∷ m.head.position ∷ length m.objects ∷ padded m.objects
numbers_of (refused number) into = into
