-- The dock's data and its limits (01, "The dock end").
use Rattle.std.specs.Prelude.{ℕ, ◌-◌, Bool, ◌&&◌, List, ◌++◌, leb, length, take, replicate}
use Rattle.laws.specs.Padded.{padded}
use Rattle.messages.specs.Editions.{ours}
use Rattle.messages.specs.declared.edition.Edition.{Edition}
use Rattle.pages.specs.Lists.{most_svids, sound_list}
use Rattle.dock.specs.declared.Dock.{Dock}
use Rattle.dock.specs.declared.Standing.{Standing}
use Rattle.dock.specs.declared.Standing.TheVariants.{Ready}

-- the SVIDs that the dock lists
abbrev pub listed : Dock → List ℕ
listed d = take d.count d.svids

-- 3 to 6 identity objects; 0 to 72 SVIDs, none 0, all different
unfoldable pub good_identity : ℕ → Bool
good_identity extent = leb 3 extent && leb extent 6

unfoldable pub good_data : List ℕ → List ℕ → Bool
good_data identity svids = good_identity (length identity) && (leb (length svids) most_svids && sound_list svids)

-- a list in the array of 72, zeros behind it
abbrev pub in_array : List ℕ → List ℕ
in_array list = list ++ replicate (most_svids - length list) 0

-- unloaded, the list and the identity are empty; no answer has been sent, so its edition is never seen
unfoldable pub fresh_dock : Dock
fresh_dock =
    record {
      identity = replicate 6 0;
      extent = 0;
      svids = replicate 72 0;
      count = 0;
      page = 0;
      edition = ours;
      standing = Ready;
    }

-- loading leaves the edition
unfoldable pub loaded : Edition → List ℕ → List ℕ → Dock
loaded edition identity svids =
    record {
      identity = padded identity;
      extent = length identity;
      svids = in_array svids;
      count = length svids;
      page = 0;
      edition = edition;
      standing = Ready;
    }

-- one setter for each field that changes
abbrev pub with_page : ℕ → Dock → Dock
with_page p d =
    record {
      identity = d.identity;
      extent = d.extent;
      svids = d.svids;
      count = d.count;
      page = p;
      edition = d.edition;
      standing = d.standing;
    }

abbrev pub with_standing : Standing → Dock → Dock
with_standing s d =
    record {
      identity = d.identity;
      extent = d.extent;
      svids = d.svids;
      count = d.count;
      page = d.page;
      edition = d.edition;
      standing = s;
    }

abbrev pub with_edition : Edition → Dock → Dock
with_edition e d =
    record {
      identity = d.identity;
      extent = d.extent;
      svids = d.svids;
      count = d.count;
      page = d.page;
      edition = e;
      standing = d.standing;
    }
