-- The dock's state as numbers: what the code makes is the definition, and numbers made of a state give it back.
use mathlib.Core.Path.{◌≡◌, refl}
use mathlib.Core.Bool.{true, false}
use Prim.Native.Nat.{◌<◌}
use lib.ListN.{get_or}
use Rattle.dock.specs.declared.Dock.{Dock}
use Rattle.dock.specs.declared.Standing.{Standing}
use Rattle.dock.specs.declared.Standing.TheVariants.{Ready, Asking, Sending}
use Rattle.controller.specs.Port.{request_from}
use Rattle.controller.specs.Dock.{standing_from, dock_from, standing_numbers, dock_numbers}
use Rattle.controller.proofs.PortNumbers.{byte_again, edition_again}

-- a state whose bytes are bytes, as that of every dock is
abbrev pub StandingFits : Standing → Type 0
StandingFits Ready = Unit
StandingFits (Asking r) = (r.command < 256) × (r.position < 256)
StandingFits (Sending is_page) = Unit

pub record Fits (d : Dock) : Type 0 where
  pub extent_fits : d.extent < 256
  pub count_fits : d.count < 256
  pub page_fits : d.page < 256
  pub standing_fits : StandingFits d.standing

standing_again : (s : Standing) → StandingFits s →
    standing_from (get_or (standing_numbers s) 0 0) (request_from (get_or (standing_numbers s) 1 0) (get_or (standing_numbers s) 2 0) (get_or (standing_numbers s) 3 0)) ≡ s
standing_again Ready h = refl
standing_again (Asking r) h = rw (byte_again r.command h.0, byte_again r.position h.1)
standing_again (Sending true) h = refl
standing_again (Sending false) h = refl

-- numbers made of a state give it back
pub from_numbers : (d : Dock) → Fits d → dock_from (dock_numbers d) d.identity d.svids ≡ d
unfolding dock_from dock_numbers
from_numbers d h =
    rw (byte_again d.extent h.extent_fits, byte_again d.count h.count_fits, byte_again d.page h.page_fits, standing_again d.standing h.standing_fits, edition_again d.edition)
