-- The ways out of writing a catalogue.
use mathlib.Core.Path.{◌≡◌, refl, ap, ap₂, sym, ◌∙◌}
use mathlib.Core.Bool.{Bool, true, false, cond}
use mathlib.Core.List.{List}
use Prim.Native.Nat.{ℕ, ◌<◌, ◌≤◌}
use native.Mathlib.Omega.{arith}
use lib.Dec.{ltb}
use lib.ListN.{length, take}
use lib.Seq.{sets}
use borrow.Author.Tests.{ne_eqb, lt-ltb, le-ltb, ltb-false}
use Rattle.laws.proofs.Stores.{sets_front}
use Rattle.laptop.specs.Catalogue.{Catalogue, run_words}
use Rattle.std.specs.Prelude.{Option, Some, None}
use Rattle.laptop.specs.declared.Size.{Size}
use Rattle.catalogue.specs.Bytes.{Bytes, catalogue_bytes, catalogue_of, least_objects, HeldCatalogue, nothing, holding, held_catalogue, size_refusal, held_refusal, catalogue_refusal, held_bytes, written_bytes, written_into, CatalogueWritten}

module _ (extent bytes room : ℕ) where
  pub size_few : extent < least_objects → 12 ≡ size_refusal extent bytes room
  unfolding size_refusal
  size_few few = simp (lt-ltb _ _ few)

  pub size_short : least_objects ≤ extent → room < bytes → 11 ≡ size_refusal extent bytes room
  unfolding size_refusal
  size_short enough short = simp (le-ltb _ _ enough, lt-ltb _ _ short)

  pub size_fits : least_objects ≤ extent → bytes ≤ room → 0 ≡ size_refusal extent bytes room
  unfolding size_refusal
  size_fits enough fits = simp (le-ltb _ _ enough, le-ltb _ _ fits)

  -- what is not refused has enough extent, and room
  pub size_taken : size_refusal extent bytes room ≡ 0 → (least_objects ≤ extent) × (bytes ≤ room)
  unfolding size_refusal
  size_taken = go (ltb extent least_objects) (ltb room bytes) (ltb-false extent least_objects) (ltb-false room bytes)
    where
      go : (few short : Bool) → (few ≡ false → least_objects ≤ extent) → (short ≡ false → bytes ≤ room) →
          ◌≡◌ {A = ℕ} (cond few 12 (cond short 11 0)) 0 → (least_objects ≤ extent) × (bytes ≤ room)
      go true short enough fits e = absurd (omega (arith, e))
      go false true enough fits e = absurd (omega (arith, e))
      go false false enough fits e = (enough refl, fits refl)

module _ (held : HeldCatalogue) (words : ℕ) (out : List ℕ) where
  pub write_few : (result : Bytes) → words < run_words → result ≡ record { refusal = 11; length = 0 } → CatalogueWritten held words out result out
  unfolding catalogue_refusal written_bytes written_into
  write_few result few e = let t = lt-ltb _ _ few in record { result_is = simp t e; buffer_is = simp t }

  pub write_nothing : (result : Bytes) → run_words ≤ words → held ≡ nothing → result ≡ record { refusal = 12; length = 0 } →
      CatalogueWritten held words out result out
  unfolding held_refusal catalogue_refusal written_bytes written_into
  write_nothing result enough h e = let t = le-ltb _ _ enough in record { result_is = simp (t, h) e; buffer_is = simp (t, h) }

  module _ (c : Catalogue) (enough : run_words ≤ words) (h : held ≡ holding c) (n : ℕ) (all : n ≡ length (catalogue_bytes c)) where
    number_is : (k : ℕ) → k ≡ size_refusal (length c.identity) n (length out) → catalogue_refusal held words (length out) ≡ k
    unfolding held_refusal catalogue_refusal
    number_is k e =
        ap₂ (λ (few : Bool) (of : HeldCatalogue). cond few 11 (held_refusal of (length out))) (le-ltb _ _ enough) h ∙
        ap (λ (bytes : ℕ). size_refusal (length c.identity) bytes (length out)) (sym all) ∙ sym e

    pub write_refused : (k : ℕ) → k ≡ size_refusal (length c.identity) n (length out) → (k ≡ 0 → ⊥) →
        (result : Bytes) → result ≡ record { refusal = k; length = 0 } → CatalogueWritten held words out result out
    unfolding written_bytes written_into
    write_refused k e other result r =
        let t = ne_eqb _ _ other in
        let number = number_is k e in
        record { result_is = simp (number, t) r; buffer_is = simp (number, t) }

    pub write_whole : 0 ≡ size_refusal (length c.identity) n (length out) →
        (after : List ℕ) → after ≡ sets out 0 (catalogue_bytes c) → CatalogueWritten held words out (record { refusal = 0; length = n }) after
    unfolding held_bytes written_bytes written_into
    write_whole none after a =
        let number = number_is 0 none in
        let fits : length (catalogue_bytes c) ≤ length out = omega (arith, all, (size_taken (length c.identity) n (length out) (sym none)).1) in
        let bytes : held_bytes held ≡ catalogue_bytes c = ap held_bytes h in
        record { result_is = simp (number, bytes, all); buffer_is = simp (number, bytes) (a ∙ sets_front out (catalogue_bytes c) fits) }

module _ (held : Option Size) (identity svids modes run : List ℕ) where
  pub held_nothing : held ≡ None → held_catalogue held identity svids modes run ≡ nothing
  held_nothing e = ap (λ (h : Option Size). held_catalogue h identity svids modes run) e

  pub held_holding : (size : Size) → held ≡ Some size → (objects list : List ℕ) →
      objects ≡ take size.extent identity → list ≡ take size.count svids →
      held_catalogue held identity svids modes run ≡ holding (catalogue_of objects list modes run)
  held_holding size e objects list eo el =
      ap (λ (h : Option Size). held_catalogue h identity svids modes run) e ∙
      ap₂ (λ (o : List ℕ) (l : List ℕ). holding (catalogue_of o l modes run)) (sym eo) (sym el)
