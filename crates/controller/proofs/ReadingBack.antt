-- What reading a catalogue and finding a stretch hand over.
use mathlib.Core.Path.{◌≡◌, ap, ◌∙◌}
use mathlib.Core.List.{List}
use Prim.Native.Nat.{ℕ, ◌+◌, ◌≤◌}
use native.Mathlib.Omega.{arith}
use lib.ListN.{length}
use Rattle.laws.specs.Lent.{Lent, lent, left, accepted}
use Rattle.catalogue.specs.Bytes.{most_bytes}
use Rattle.catalogue_laws.proofs.Bounds.{place_most}
use Rattle.rebuilding.specs.Rebuilding.{Arrays, CatalogueRead, Small}
use Rattle.rebuilding.specs.Rebuilding.{Rebuilt}
use Rattle.rebuilding.proofs.Laws.{read_small}
use Rattle.stretches.specs.Stretches.{Place}
use Rattle.stretches.proofs.Fitting.{stretch_end}
use Rattle.controller.specs.CatalogueReading.{with_offset, sizes_of, arrays_of, ReadCall, place_of, StretchCall}
use Rattle.controller.proofs.Accepting.{accepted_written, accepted_kept}

pub small : {bytes : List ℕ} {before after : Arrays} {read : Rebuilt} → CatalogueRead bytes before read after → Small read
small {bytes} {before} is = rw is.result_is (read_small bytes (length before.run))

module _ (bytes : List ℕ) (svids modes identity run : Lent (List ℕ)) (read : Rebuilt)
    (is : CatalogueRead bytes (arrays_of (lent svids) (lent modes) (lent identity) (lent run)) read (arrays_of (left svids) (left modes) (left identity) (left run)))
    (result : ℕ) (er : result ≡ with_offset read.refusal read.at) (sizes : Lent (List ℕ)) where
  call : left sizes ≡ accepted read.refusal (sizes_of read) (lent sizes) → ReadCall bytes result svids modes identity run sizes
  call es = record {
    result_is = er ∙ ap (λ (r : Rebuilt). with_offset r.refusal r.at) is.result_is;
    sizes_are = es ∙ ap (λ (r : Rebuilt). accepted r.refusal (sizes_of r) (lent sizes)) is.result_is;
    arrays_are = is.arrays_are;
  }

  pub read_accepted : read.refusal ≡ 0 → left sizes ≡ sizes_of read → ReadCall bytes result svids modes identity run sizes
  read_accepted z es = call (es ∙ accepted_written read.refusal (sizes_of read) (lent sizes) z)

  pub read_refused : (read.refusal ≡ 0 → ⊥) → left sizes ≡ lent sizes → ReadCall bytes result svids modes identity run sizes
  read_refused other es = call (es ∙ accepted_kept read.refusal (sizes_of read) (lent sizes) other)

module _ (bytes : List ℕ) (svid : ℕ) {place : Place} (is : place ≡ place_of bytes svid) where
  pub place_small : place.at + place.length ≤ most_bytes
  place_small = omega (arith, ap (λ (p : Place). p.at + p.length) is, stretch_end bytes svid, place_most bytes)

  module _ (result : ℕ) (er : result ≡ with_offset place.refusal place.at) (found : Lent ℕ) where
    found_call : left found ≡ accepted place.refusal place.length (lent found) → StretchCall bytes svid result found
    found_call es = record {
      result_is = er ∙ ap (λ (p : Place). with_offset p.refusal p.at) is;
      length_is = es ∙ ap (λ (p : Place). accepted p.refusal p.length (lent found)) is;
    }

    pub stretch_accepted : place.refusal ≡ 0 → left found ≡ place.length → StretchCall bytes svid result found
    stretch_accepted z es = found_call (es ∙ accepted_written place.refusal place.length (lent found) z)

    pub stretch_refused : (place.refusal ≡ 0 → ⊥) → left found ≡ lent found → StretchCall bytes svid result found
    stretch_refused other es = found_call (es ∙ accepted_kept place.refusal place.length (lent found) other)
