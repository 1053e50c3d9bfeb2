-- A dock that meets the limits of document 01.
use Rattle.std.specs.Prelude.{◌⊎◌, ◌≡◌, true, ◌/◌, ◌≤◌, length}
use Rattle.messages.specs.Layout.{req}
use Rattle.messages.specs.Requests.{head_for}
use Rattle.messages.specs.Table.{shape, one_to_five}
use Rattle.pages.specs.Lists.{most_svids, sound_list}
use Rattle.pages.specs.Pages.{per_page}
use Rattle.dock.specs.Data.{listed, good_identity}
use Rattle.dock.specs.declared.Dock.{Dock}
use Rattle.dock.specs.declared.Standing.{Standing}
use Rattle.dock.specs.declared.Standing.TheVariants.{Ready, Asking, Sending}

-- a request that waits is one that a message can have: of commands 1 to 5, and a REQ of one object by its row's rules
abbrev pub Asked : Standing → Type 0
Asked Ready = Unit
Asked (Asking r) = (one_to_five r.command ≡ true) × (shape (head_for r req) 1 ≡ true)
Asked (Sending is_page) = Unit

-- identity empty or of 3 to 6 objects, which are there; at most 72 SVIDs, none 0, all different; the page at most n / 12
pub record Sound (d : Dock) : Type 0 where
  pub identity_sound : (d.extent ≡ 0) ⊎ (good_identity d.extent ≡ true)
  pub identity_there : d.extent ≤ length d.identity
  pub count_fits : d.count ≤ most_svids
  pub list_sound : sound_list (listed d) ≡ true
  pub page_fits : d.page ≤ d.count / per_page
  pub asked_sound : Asked d.standing
