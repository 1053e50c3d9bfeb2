-- A catalogue within 01's limits: 3 to 6 identity objects; at most 72 SVIDs, none 0, all different; 1 to 6 modes each; numbers as wide as the records have them.
use Rattle.std.specs.Prelude.{◌≡◌, true, ℕ, ◌≤◌, length}
use Rattle.pages.specs.Lists.{most_svids, sound_list}
use Rattle.laptop.specs.Catalogue.{Entry, Catalogue, modes_each}
use Rattle.catalogue.specs.Bytes.{least_objects, most_objects, Each, Representable}
use Rattle.judging.specs.Walking.{svids_of}

abbrev pub OneToSix : Entry → Type 0
OneToSix entry = (1 ≤ length entry.modes) × (length entry.modes ≤ modes_each)

pub record Within (c : Catalogue) : Type 0 where
  pub objects_least : least_objects ≤ length c.identity
  pub objects_most : length c.identity ≤ most_objects
  pub svids_sound : sound_list (svids_of c.entries) ≡ true
  pub svids_most : length c.entries ≤ most_svids
  pub modes_each_lem : Each OneToSix c.entries
  pub fits : Representable c

-- a record has at most 25 bytes, those of an identity of six objects; so the walk, which stands before byte 2,402 at each record, never looks past byte 2,426
abbrev pub longest_record : ℕ
longest_record = 25

abbrev pub enough_bytes : ℕ
enough_bytes = 2426
