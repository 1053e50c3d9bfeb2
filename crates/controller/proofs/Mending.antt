-- What mending a catalogue hands over, by what is given back.
use mathlib.Core.Path.{◌≡◌, ap, sym, ◌∙◌}
use mathlib.Core.List.{List}
use Prim.Native.Nat.{ℕ, ◌≤◌}
use Rattle.laws.specs.Lent.{Lent, lent, left}
use Rattle.mending.specs.Mending.{mending_of}
use Rattle.mending.specs.Mending.{Fault}
use Rattle.mending.specs.Mending.{Mended}
use Rattle.mending.specs.Mending.{Refused, Sound, Partial}
use Rattle.mending.specs.declared.keeping.Kept.{Kept}
use Rattle.mending.proofs.Small.{KeptSmall, Small, mending_small}
use Rattle.controller.specs.CatalogueReading.{with_offset}
use Rattle.controller.specs.CatalogueMending.{number_given, kept_numbers, KeptFits, kept_given, MendCall}

-- each number fits
numbers_small : {kept : Kept} → KeptSmall kept → KeptFits kept
numbers_small s = (s.svids_most, s.modes_most, s.length_most)

module _ (bytes before after : List ℕ) (mended : Mended) (is : (mended, after) ≡ mending_of bytes before) where
  small : (m : Mended) → mended ≡ m → Small m
  small m e = rw (sym e ∙ ap (λ (p : Mended × List ℕ). p.0) is) (mending_small bytes before)

  pub sound_small : (kept : Kept) → mended ≡ Sound kept → KeptFits kept
  sound_small kept e = numbers_small (small (Sound kept) e)

  module _ (fault : Fault) (kept : Kept) (e : mended ≡ Partial fault kept) where
    pub partial_small : KeptFits kept
    partial_small = numbers_small (small (Partial fault kept) e).1

    pub fault_near : fault.at ≤ 2402
    fault_near = (small (Partial fault kept) e).0

-- the ways out
module _ (bytes : List ℕ) (out kept : Lent (List ℕ)) (mended : Mended) (is : (mended, left out) ≡ mending_of bytes (lent out)) (result : ℕ) where
  call : result ≡ number_given mended → left kept ≡ kept_given mended (lent kept) → MendCall bytes result out kept
  call er ek = record {
    result_is = er ∙ ap (λ (p : Mended × List ℕ). number_given p.0) is;
    buffer_is = ap (λ (p : Mended × List ℕ). p.1) is;
    kept_are = ek ∙ ap (λ (p : Mended × List ℕ). kept_given p.0 (lent kept)) is;
  }

  by : (m : Mended) → mended ≡ m → result ≡ number_given m → left kept ≡ kept_given m (lent kept) → MendCall bytes result out kept
  by m e er ek = call (er ∙ ap number_given (sym e)) (ek ∙ ap (λ (x : Mended). kept_given x (lent kept)) (sym e))

  pub mend_refused : (number : ℕ) → mended ≡ Refused number → result ≡ with_offset number 0 → left kept ≡ lent kept → MendCall bytes result out kept
  unfolding number_given kept_given
  mend_refused number e er ek = by (Refused number) e er ek

  pub mend_sound : (found : Kept) → mended ≡ Sound found → result ≡ 0 → left kept ≡ kept_numbers found → MendCall bytes result out kept
  unfolding number_given kept_given
  mend_sound found e er ek = by (Sound found) e er ek

  pub mend_partial : (fault : Fault) (found : Kept) → mended ≡ Partial fault found →
      result ≡ with_offset fault.number fault.at → left kept ≡ kept_numbers found → MendCall bytes result out kept
  unfolding number_given kept_given
  mend_partial fault found e er ek = by (Partial fault found) e er ek
