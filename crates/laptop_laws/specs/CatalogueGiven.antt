-- When writing the catalogue is refused by a number (01, "Refusal numbers" and "Catalogue bytes"): its lines, in 01's order.
use Rattle.std.specs.Prelude.{List, [], ◌∷◌, ℕ, ◌<◌, length}
use Rattle.laptop.specs.Catalogue.{run_words}
use Rattle.catalogue.specs.Bytes.{catalogue_bytes, least_objects, HeldCatalogue, nothing, holding}
use Rattle.laptop_laws.specs.Given.{Line, ◌when◌}

-- 12: no held catalogue; fewer than three identity objects, which no run reaches, are none
abbrev pub NoneHeld : HeldCatalogue → Type 0
NoneHeld nothing = Unit
NoneHeld (holding c) = length c.identity < least_objects

-- 11: an output buffer too short for the catalogue
abbrev pub TooShortFor : HeldCatalogue → ℕ → Type 0
TooShortFor nothing room = ⊥
TooShortFor (holding c) room = room < length (catalogue_bytes c)

-- 11 for a held run under 432 words comes first, for a short buffer last
abbrev pub catalogue_lines : HeldCatalogue → ℕ → ℕ → List Line
catalogue_lines held words room = 11 when (words < run_words) ∷ 12 when NoneHeld held ∷ 11 when TooShortFor held room ∷ []
