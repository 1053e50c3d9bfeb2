-- A stretch is the only one, and what its refusal says: any fault of the file first, then 12, for an SVID that a sound file does not list.
use mathlib.Core.Logic.{◌↔◌, ◌⊎◌, inl, inr}
use mathlib.Core.Path.{◌≡◌, refl, ap, ap₂, sym, ◌∙◌}
use mathlib.Core.Bool.{Bool, true, false, cond, ◌||◌}
use mathlib.Core.List.{List, [], ◌∷◌}
use Prim.Native.Nat.{ℕ, ◌+◌, ◌≤◌}
use native.Mathlib.Omega.{arith}
use lib.Dec.{eqb}
use lib.ListN.{length}
use borrow.Author.Tests.{eqb-true, eqb-false, eq-eqb, ne_eqb}
use denote.Ref.{Bor}
use Rattle.laws.proofs.Tight.{one_value}
use Rattle.pages.specs.Lists.{is_in}
use Rattle.laptop.specs.Catalogue.{Entry}
use Rattle.catalogue.specs.Bytes.{modes_bytes, entry_bytes}
use Rattle.judging.specs.Judging.{Judgement, judgement_of}
use Rattle.judging.specs.Walking.{svids_of}
use Rattle.catalogue_laws.proofs.Given.{only_these as file_only_these}
use Rattle.stretches.specs.Stretches.{not_listed, svid_size, refused_at, place_in, entries_at, stretch_in, Stretched}
use Rattle.stretches.specs.Stretches.{Place}
use Rattle.stretches.specs.Stretches.{Stretch}

-- a place that the promise allows is the only one
pub find_only : (bytes : List ℕ) (svid : ℕ) (result result' : Place) → result ≡ stretch_in (judgement_of bytes) svid → result' ≡ stretch_in (judgement_of bytes) svid →
    result ≡ result'
find_only bytes svid result result' e e' = one_value e e'

-- and so is a stretch: its part has the same bytes and lies in the same place. The promise leaves out the ghost name of the part's reference, which no program sees
pub stretch_only : (bytes : Bor (List ℕ)) (svid : ℕ) (result result' : Stretch) → Stretched bytes svid result → Stretched bytes svid result' →
    (result.refusal ≡ result'.refusal) × (result.at ≡ result'.at) × (result.part.now ≡ result'.part.now) × (result.part.ref_ptr ≡ result'.part.ref_ptr)
stretch_only bytes svid result result' s s' =
    let p = s.part_is in
    let p' = s'.part_is in (
      one_value s.refusal_is s'.refusal_is,
      one_value s.at_is s'.at_is,
      one_value p.bytes_are p'.bytes_are,
      ap₂ (λ (block : ℕ) (offset : ℕ). (block, offset)) (one_value p.block_is p'.block_is) (one_value p.offset_is p'.offset_is),
    )

module _ (bytes : List ℕ) (svid : ℕ) where
  abbrev j : Judgement
  j = judgement_of bytes

  -- any fault comes first,
  pub fault_first : (j.refusal ≡ 0 → ⊥) → stretch_in j svid ≡ refused_at j.refusal j.at
  unfolding stretch_in
  fault_first fault = simp (ne_eqb j.refusal 0 fault)

  -- and a sound file tells the place among its entries
  pub sound_place : j.refusal ≡ 0 → stretch_in j svid ≡ place_in svid (entries_at j.catalogue) j.catalogue.entries
  unfolding stretch_in
  sound_place accepted = simp (eq-eqb j.refusal 0 accepted)

-- among entries 12 says that none has the SVID
place_refusal : (svid at : ℕ) (entries : List Entry) → (place_in svid at entries).refusal ≡ cond (is_in svid (svids_of entries)) 0 not_listed
unfolding place_in is_in svids_of
place_refusal svid at [] = refl
place_refusal svid at (entry ∷ entries) = go (eqb entry.svid svid) (place_refusal svid (at + length (entry_bytes entry)) entries)
  where
    go : (t : Bool) → (place_in svid (at + length (entry_bytes entry)) entries).refusal ≡ cond (is_in svid (svids_of entries)) 0 not_listed →
        (cond t (record { refusal = 0; at = at + svid_size; length = length (modes_bytes entry.modes) }) (place_in svid (at + length (entry_bytes entry)) entries)).refusal ≡
        cond (t || is_in svid (svids_of entries)) 0 not_listed
    go true further = refl
    go false further = further

-- 12 is the number of no fault: it says that the file is sound, and the SVID is not in it
pub not_listed_exactly : (bytes : List ℕ) (svid : ℕ) →
    ((stretch_in (judgement_of bytes) svid).refusal ≡ not_listed) ↔
    (((judgement_of bytes).refusal ≡ 0) × (is_in svid (svids_of (judgement_of bytes).catalogue.entries) ≡ false))
not_listed_exactly bytes svid = (λ e. go e (eqb j.refusal 0) refl, λ both. told both.0 ∙ ap (λ (t : Bool). cond t 0 not_listed) both.1)
  where
    j : Judgement
    j = judgement_of bytes

    told : j.refusal ≡ 0 → (stretch_in j svid).refusal ≡ cond (is_in svid (svids_of j.catalogue.entries)) 0 not_listed
    told accepted =
        ap (λ (p : Place). p.refusal) (sound_place bytes svid accepted) ∙ place_refusal svid (entries_at j.catalogue) j.catalogue.entries

    no_fault : (number : ℕ) → number ≡ not_listed → (number ≡ 0) ⊎ ((15 ≤ number) × (number ≤ 18)) → ⊥
    no_fault number e (inl z) = omega arith
    no_fault number e (inr z) = omega arith

    none : (t : Bool) → cond t 0 not_listed ≡ not_listed → t ≡ false
    none true e = absurd (omega (arith, e))
    none false e = refl

    go : (stretch_in j svid).refusal ≡ not_listed → (t : Bool) → eqb j.refusal 0 ≡ t →
        (j.refusal ≡ 0) × (is_in svid (svids_of j.catalogue.entries) ≡ false)
    go e true f = let accepted = eqb-true j.refusal 0 f in (accepted, none _ (sym (told accepted) ∙ e))
    go e false f =
        let fault = ap (λ (p : Place). p.refusal) (fault_first bytes svid (eqb-false j.refusal 0 f)) in
        absurd (no_fault j.refusal (sym fault ∙ e) (file_only_these bytes))

-- there are no other numbers than 12 and 15 to 18
pub only_these : (bytes : List ℕ) (svid : ℕ) → let number : ℕ = (stretch_in (judgement_of bytes) svid).refusal in
    (number ≡ 0) ⊎ (number ≡ not_listed) ⊎ ((15 ≤ number) × (number ≤ 18))
unfolding stretch_in
only_these bytes svid = go (eqb j.refusal 0) (file_only_these bytes)
  where
    j : Judgement
    j = judgement_of bytes

    listed : (t : Bool) → let number : ℕ = cond t 0 not_listed in (number ≡ 0) ⊎ (number ≡ not_listed) ⊎ ((15 ≤ number) × (number ≤ 18))
    listed true = inl refl
    listed false = inr (inl refl)

    place : (at : ℕ) (entries : List Entry) → let number : ℕ = (place_in svid at entries).refusal in
        (number ≡ 0) ⊎ (number ≡ not_listed) ⊎ ((15 ≤ number) × (number ≤ 18))
    place at entries = rw (place_refusal svid at entries) (listed (is_in svid (svids_of entries)))

    go : (t : Bool) → (j.refusal ≡ 0) ⊎ ((15 ≤ j.refusal) × (j.refusal ≤ 18)) →
        let number : ℕ = (cond t (place_in svid (entries_at j.catalogue) j.catalogue.entries) (refused_at j.refusal j.at)).refusal in
        (number ≡ 0) ⊎ (number ≡ not_listed) ⊎ ((15 ≤ number) × (number ≤ 18))
    go true fault = place (entries_at j.catalogue) j.catalogue.entries
    go false (inl none) = inl none
    go false (inr fault) = inr (inr fault)
