-- What a well-formed laptop holds is written: into a buffer of 2,402 bytes it is refused only where nothing is held.
use mathlib.Core.Path.{◌≡◌, refl, ap, sym, ◌∙◌}
use mathlib.Core.Bool.{Bool, cond}
use mathlib.Core.List.{List}
use Prim.Native.Nat.{ℕ, ◌≤◌}
use native.Mathlib.Omega.{arith}
use lib.ListN.{length, take, length-take}
use borrow.Author.Tests.{le-ltb}
use Rattle.pages.specs.Lists.{most_svids}
use Rattle.laptop.specs.Catalogue.{Catalogue, run_words, catalogue_in}
use Rattle.laptop.specs.State.{Memory}
use Rattle.std.specs.Prelude.{Option, Some, None}
use Rattle.laptop.specs.declared.Size.{Size}
use Rattle.laptop.specs.declared.Laptop.{Laptop}
use Rattle.laptop_laws.specs.WellFormed.{HeldFits, WellFormed}
use Rattle.catalogue.specs.Bytes.{catalogue_bytes, least_objects, most_objects, most_bytes, held_catalogue, held_refusal, catalogue_refusal}
use Rattle.catalogue.proofs.Laws.{bytes_most}
use Rattle.catalogue.proofs.Lengths.{length_entries, six_modes}
use Rattle.catalogue.proofs.Outcomes.{size_fits}

-- 12 for nothing
abbrev pub nothing_refused : Option Size → ℕ
nothing_refused None = 12
nothing_refused (Some size) = 0

module _ (identity svids modes run : List ℕ) (six : length identity ≡ most_objects) (enough : run_words ≤ length run) (room : ℕ) (long : most_bytes ≤ room) where
  held_written : (held : Option Size) → HeldFits held svids modes → held_refusal (held_catalogue held identity svids modes run) room ≡ nothing_refused held
  unfolding held_refusal
  held_written None fits = refl
  held_written (Some size) fits =
      let c : Catalogue = catalogue_in size identity svids modes run in
      let objects = length-take size.extent identity in
      let few : length c.identity ≤ most_objects = omega (arith, objects) in
      let least : least_objects ≤ length c.identity = omega (arith, objects, fits.extent_least) in
      let most : length c.entries ≤ most_svids = omega (arith, length_entries modes run 0 (take size.count svids), length-take size.count svids, fits.count_fits) in
      let all : length (catalogue_bytes c) ≤ most_bytes = bytes_most c few most (six_modes modes run 0 (take size.count svids)) in
      sym (size_fits (length c.identity) (length (catalogue_bytes c)) room least (omega (arith, all)))

  pub writing_refusal : (held : Option Size) → HeldFits held svids modes →
      catalogue_refusal (held_catalogue held identity svids modes run) (length run) room ≡ nothing_refused held
  unfolding catalogue_refusal
  writing_refusal held fits =
      ap (λ (t : Bool). cond t 11 (held_refusal (held_catalogue held identity svids modes run) room)) (le-ltb _ _ enough) ∙ held_written held fits

pub well_formed_written : (l : Laptop) (m : Memory) → WellFormed l m → length m.held_identity ≡ most_objects → (room : ℕ) → most_bytes ≤ room →
    catalogue_refusal (held_catalogue l.held m.held_identity m.held_svids m.held_modes m.held_run) (length m.held_run) room ≡ nothing_refused l.held
well_formed_written l m fits six room long =
    writing_refusal m.held_identity m.held_svids m.held_modes m.held_run six fits.lent.held_run_size room long l.held fits.held_fits
