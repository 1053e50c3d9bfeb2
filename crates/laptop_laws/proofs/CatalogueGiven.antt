-- Writing the catalogue is refused by a number exactly when 01's line says.
use mathlib.Core.Logic.{◌↔◌, inl}
use mathlib.Core.Path.{◌≡◌, refl, ap, sym, ◌∙◌, subst}
use mathlib.Core.List.{List, [], ◌∷◌}
use Prim.Native.Nat.{ℕ, ◌<◌}
use native.Mathlib.Omega.{arith}
use lib.Dec.{ltb}
use lib.ListN.{length}
use Rattle.laptop.specs.Catalogue.{run_words}
use Rattle.catalogue.specs.Bytes.{catalogue_bytes, least_objects, HeldCatalogue, nothing, holding, size_refusal, held_refusal, catalogue_refusal, CatalogueWritten}
use Rattle.catalogue.specs.Bytes.{Bytes}
use Rattle.laptop_laws.specs.CatalogueGiven.{NoneHeld, TooShortFor, catalogue_lines}
use Rattle.laptop_laws.specs.Given.{◌when◌, First}
use Rattle.laptop_laws.proofs.First.{tells_ltb, first_test, first_only, none_first}

held_first : (held : HeldCatalogue) (room : ℕ) → First (12 when NoneHeld held ∷ 11 when TooShortFor held room ∷ []) (held_refusal held room)
unfolding held_refusal size_refusal
held_first nothing room = inl (tt, refl)
held_first (holding c) room =
    first_test (ltb (length c.identity) least_objects) 12 _ (11 when (room < length (catalogue_bytes c)) ∷ []) _ (tells_ltb (length c.identity) least_objects)
    (λ e. first_test (ltb room (length (catalogue_bytes c))) 11 _ [] 0 (tells_ltb room (length (catalogue_bytes c))) (λ f. refl))

catalogue_first : (held : HeldCatalogue) (words room : ℕ) → First (catalogue_lines held words room) (catalogue_refusal held words room)
unfolding catalogue_refusal
catalogue_first held words room =
    first_test (ltb words run_words) 11 _ (12 when NoneHeld held ∷ 11 when TooShortFor held room ∷ []) _ (tells_ltb words run_words) (λ e. held_first held room)

-- a result that writing promises has a number exactly when the number's line is the first that holds, and 0 exactly when none holds
pub catalogue_given_exactly : (held : HeldCatalogue) (words : ℕ) (out : List ℕ) (result : Bytes) (after : List ℕ) →
    CatalogueWritten held words out result after → (number : ℕ) → (result.refusal ≡ number) ↔ First (catalogue_lines held words (length out)) number
catalogue_given_exactly held words out result after w number =
    let is : result.refusal ≡ catalogue_refusal held words (length out) = ap (λ (b : Bytes). b.refusal) w.result_is in
    let first = catalogue_first held words (length out) in (
      λ e. subst (First (catalogue_lines held words (length out))) (sym is ∙ e) first,
      λ g. is ∙ first_only (catalogue_lines held words (length out)) (catalogue_refusal held words (length out)) number first g,
    )

-- 4 is withdrawn, and here too no line has it
pub catalogue_never_four : (held : HeldCatalogue) (words room : ℕ) → catalogue_refusal held words room ≡ 4 → ⊥
catalogue_never_four held words room e =
    none_first 4 (catalogue_lines held words room) (λ z. omega arith) (omega arith) (subst (First (catalogue_lines held words room)) e (catalogue_first held words room))
