-- A catalogue that is a beginning of another: the same identity, and of its SVIDs the first in order, each with its modes, the last perhaps with fewer.
use Rattle.std.specs.Prelude.{◌≡◌, ℕ, List, [], ◌∷◌, ◌++◌}
use Rattle.laptop.specs.Catalogue.{Entry, Catalogue}

pub record FewerModes (entry whole : Entry) : Type 0 where
  pub svid_same : entry.svid ≡ whole.svid
  pub others : List ℕ
  pub modes_are : whole.modes ≡ entry.modes ++ others

abbrev pub Begins : List Entry → List Entry → Type 0
Begins [] whole = Unit {0}
Begins (entry ∷ entries) [] = ⊥
Begins (entry ∷ []) (first ∷ whole) = FewerModes entry first
Begins (entry ∷ next ∷ entries) (first ∷ whole) = (entry ≡ first) × Begins (next ∷ entries) whole

pub record BeginningOf (whole c : Catalogue) : Type 0 where
  pub identity_same : c.identity ≡ whole.identity
  pub entries_begin : Begins c.entries whole.entries
