-- The answers that a gathering needs are all different.
use mathlib.Core.Path.{◌≡◌, refl, ap, sym, ◌∙◌}
use mathlib.Core.Bool.{Bool, true, false, cond, false≢true}
use mathlib.Core.List.{List, [], ◌∷◌, ◌++◌}
use Prim.Native.Nat.{ℕ, ◌+◌, ◌*◌, ◌/◌, ◌^◌, ◌<◌, ◌≤◌}
use native.Mathlib.Omega.{arith}
use lib.Dec.{leb, ltb, eqb}
use lib.ListN.{length, get_or, take}
use lib.Seq.{get_or-drop}
use borrow.Author.Tests.{eqb-true, eqb-false, eq-eqb, ne_eqb, ltb-true, ltb-false}
use Rattle.laws.specs.Bounded.{Below}
use Rattle.messages.specs.Layout.{Message}
use Rattle.pages.specs.Lists.{sound_list}
use Rattle.pages.specs.Pages.{halves, ending, values, page, remaining}
use Rattle.pages.proofs.Laws.{page_values}
use Rattle.pages.proofs.Words.{places_differ}
use Rattle.taking.specs.Taking.{same_list}
use Rattle.taking.proofs.Gathering.{same_lists, same_self}
use Rattle.laptop_laws.proofs.Behind.{below}
use Rattle.link.specs.Needed.{page_answer, modes_answer, same_message}

-- a message is the same as itself
pub same_message_lem : (m : Message) → same_message m m ≡ true
unfolding same_message
same_message_lem m =
    rw (eq-eqb m.head.command m.head.command refl, eq-eqb m.head.kind m.head.kind refl, eq-eqb m.head.svid m.head.svid refl, eq-eqb m.head.position m.head.position refl)
    (same_self m.objects)

-- page p begins with SVID 12 p + 1, or with a zero behind the end
first_value : (rest : List ℕ) → get_or (values rest) 0 0 ≡ get_or rest 0 0
unfolding values
first_value [] = refl
first_value (x ∷ rest) = go (leb 12 (length (x ∷ rest)))
  where
    go : (b : Bool) → get_or (cond b (take 12 (x ∷ rest)) ((x ∷ rest) ++ ending (length (x ∷ rest)))) 0 0 ≡ x
    go true = refl
    go false = refl

module _ (list : List ℕ) (fit : Below (2 ^ 16) list) (sound : sound_list list ≡ true) where
  page_begins : (p : ℕ) → get_or (halves (page list p)) 0 0 ≡ get_or list (p * 12) 0
  page_begins p =
      ap (λ (v : List ℕ). get_or v 0 0) (page_values list p fit) ∙ first_value (remaining list p) ∙ get_or-drop (p * 12) list 0 0 ∙
      ap (λ (k : ℕ). get_or list k 0) (plain (p * 12))
    where
      plain : (k : ℕ) → k + 0 ≡ k
      plain k = omega arith

  pages_differ : (i j : ℕ) → i < j → j ≤ length list / 12 → page list i ≡ page list j → ⊥
  pages_differ i j less h e =
      places_differ list sound (i * 12) (j * 12) (omega arith) (omega arith)
      (sym (page_begins i) ∙ ap (λ (x : List ℕ). get_or (halves x) 0 0) e ∙ page_begins j)

  pub same_page : (i j : ℕ) → i ≤ length list / 12 → j ≤ length list / 12 → same_message (page_answer list i) (page_answer list j) ≡ eqb i j
  unfolding same_message
  same_page i j hi hj = go (same_list (page list i) (page list j)) (eqb i j) refl refl
    where
      apart : (eqb i j ≡ false) → page list i ≡ page list j → ⊥
      apart n e = order (ltb i j) refl
        where
          order : (b : Bool) → ltb i j ≡ b → ⊥
          order true b = pages_differ i j (ltb-true i j b) hj e
          order false b = pages_differ j i (below j i (omega (arith, ltb-false i j b)) (λ s. eqb-false i j n (sym s))) hi (sym e)

      go : (b c : Bool) → same_list (page list i) (page list j) ≡ b → eqb i j ≡ c → same_list (page list i) (page list j) ≡ eqb i j
      go true true e f = e ∙ sym f
      go false false e f = e ∙ sym f
      go true false e f = absurd (apart f (same_lists (page list i) (page list j) e))
      go false true e f =
          absurd (false≢true (sym e ∙ ap (λ (k : ℕ). same_list (page list i) (page list k)) (sym (eqb-true i j f)) ∙ same_self (page list i)))

  pub same_modes : (modes_of : ℕ → List ℕ) (i j : ℕ) → i < length list → j < length list →
      same_message (modes_answer modes_of (get_or list i 0)) (modes_answer modes_of (get_or list j 0)) ≡ eqb i j
  unfolding same_message
  same_modes modes_of i j hi hj = go (eqb i j) refl
    where
      go : (b : Bool) → eqb i j ≡ b → same_message (modes_answer modes_of (get_or list i 0)) (modes_answer modes_of (get_or list j 0)) ≡ eqb i j
      go true e =
          ap (λ (k : ℕ). same_message (modes_answer modes_of (get_or list i 0)) (modes_answer modes_of (get_or list k 0))) (sym (eqb-true i j e)) ∙
          same_message_lem (modes_answer modes_of (get_or list i 0)) ∙ sym e
      go false e = rw (ne_eqb (get_or list i 0) (get_or list j 0) apart) (sym e)
        where
          order : (b : Bool) → ltb i j ≡ b → get_or list i 0 ≡ get_or list j 0 → ⊥
          order true b f = places_differ list sound i j (ltb-true i j b) hi f
          order false b f = places_differ list sound j i (below j i (omega (arith, ltb-false i j b)) (λ s. eqb-false i j e (sym s))) hj (sym f)

          apart : get_or list i 0 ≡ get_or list j 0 → ⊥
          apart f = order (ltb i j) refl f
