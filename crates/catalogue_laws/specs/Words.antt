-- 17 in 02's words: wrong order, repeated item or limit passed.
use Rattle.std.specs.Prelude.{◌≡◌, ℕ, ◌<◌, ◌≤◌, length}
use Rattle.pages.specs.Lists.{most_svids}
use Rattle.pages.specs.Words.{Stands}
use Rattle.laptop.specs.Catalogue.{Catalogue, modes_each}
use Rattle.records.specs.declared.Record.{Record}
use Rattle.records.specs.declared.Record.TheVariants.{Identity, Svid, Mode, End}
use Rattle.judging.specs.Walking.{svids_of, last_number}

-- the last SVID has no modes
abbrev pub Bare : Catalogue → Type 0
Bare c = (0 < length c.entries) × (last_number c.entries ≡ 0)

-- no identity has been passed
abbrev pub NotBegun : Catalogue → Type 0
NotBegun c = length c.identity ≡ 0

-- a record that may not stand behind those that make a catalogue
pub data Wrong (c : Catalogue) : Record → Type 0 where
  identity_again : (objects : ℕ) → 0 < length c.identity → Wrong c (Identity objects)
  svid_first : (svid : ℕ) → NotBegun c → Wrong c (Svid svid)
  svid_behind_bare : (svid : ℕ) → Bare c → Wrong c (Svid svid)
  svid_zero : Wrong c (Svid 0)
  svid_again : (svid : ℕ) → Stands svid (svids_of c.entries) → Wrong c (Svid svid)
  svid_past_most : (svid : ℕ) → most_svids ≤ length c.entries → Wrong c (Svid svid)
  mode_without_svid : (mode : ℕ) → length c.entries ≡ 0 → Wrong c (Mode mode)
  mode_past_six : (mode : ℕ) → modes_each ≤ last_number c.entries → Wrong c (Mode mode)
  end_first : NotBegun c → Wrong c End
  end_behind_bare : Bare c → Wrong c End
