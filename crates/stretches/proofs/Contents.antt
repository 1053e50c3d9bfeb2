-- What a stretch holds: all the mode records of its SVID and nothing else, and at least one of them.
use mathlib.Core.Logic.{◌↔◌}
use mathlib.Core.Path.{◌≡◌, refl, ap, sym, ◌∙◌}
use mathlib.Core.Bool.{Bool, true, false, cond, ◌||◌, false≢true}
use mathlib.Core.List.{List, [], ◌∷◌, ◌++◌, append_assoc}
use Prim.Native.Nat.{ℕ, ◌+◌}
use native.Mathlib.Omega.{arith}
use lib.Dec.{eqb}
use lib.ListN.{length, take, drop, length-append}
use lib.Seq.{drop_at, take-append_seam}
use borrow.Author.Tests.{eqb-true, eqb-false, eq-eqb}
use Rattle.laws.specs.Bounded.{Below}
use Rattle.messages.specs.Layout.{bytes_of}
use Rattle.messages.proofs.Objects.{length_bytes}
use Rattle.pages.specs.Lists.{is_in, sound_list}
use Rattle.laptop.specs.Catalogue.{Entry, Catalogue}
use Rattle.catalogue.specs.Bytes.{end_kind, svid_bytes, modes_bytes, entry_bytes, entries_bytes, catalogue_bytes, Each}
use Rattle.catalogue.proofs.Lengths.{length_modes}
use Rattle.judging.specs.Judging.{Judgement, judgement_of}
use Rattle.judging.specs.Walking.{svids_of}
use Rattle.judging.proofs.Entries.{svids_append}
use Rattle.catalogue_laws.specs.Within.{OneToSix}
use Rattle.catalogue_laws.proofs.Limits.{accepted_within}
use Rattle.catalogue_laws.proofs.Passing.{entries_append}
use Rattle.catalogue_laws.proofs.ReadWrite.{sound_new}
use Rattle.catalogue_laws.proofs.WriteRead.{write_read}
use Rattle.stretches.specs.Stretches.{svid_size, place_in, entries_at, stretch_in}
use Rattle.stretches.specs.Stretches.{Place}
use Rattle.stretches.proofs.Laws.{fault_first, sound_place}

-- the modes behind an offset
abbrev modes_place : ℕ → Entry → Place
modes_place at entry = record { refusal = 0; at = at; length = length (modes_bytes entry.modes) }

-- entries with other SVIDs are passed over
place_behind : (at : ℕ) (before : List Entry) (entry : Entry) (behind : List Entry) → is_in entry.svid (svids_of before) ≡ false →
    place_in entry.svid at (before ++ entry ∷ behind) ≡ modes_place (at + length (entries_bytes before) + svid_size) entry
unfolding place_in is_in svids_of entries_bytes
place_behind at [] entry behind new =
    let e : at + svid_size ≡ at + 0 + svid_size = omega arith in
    simp (eq-eqb entry.svid entry.svid refl) (ap (λ (n : ℕ). modes_place n entry) e)
place_behind at (first ∷ before) entry behind new =
    go (eqb first.svid entry.svid) new (place_behind (at + length (entry_bytes first)) before entry behind)
  where
    further : Place
    further = place_in entry.svid (at + length (entry_bytes first)) (before ++ entry ∷ behind)

    go : (t : Bool) → (t || is_in entry.svid (svids_of before)) ≡ false →
        (is_in entry.svid (svids_of before) ≡ false → further ≡ modes_place (at + length (entry_bytes first) + length (entries_bytes before) + svid_size) entry) →
        cond t (modes_place (at + svid_size) first) further ≡ modes_place (at + length (entry_bytes first ++ entries_bytes before) + svid_size) entry
    go true e is = absurd (false≢true (sym e))
    go false e is = is e ∙ ap (λ (n : ℕ). modes_place n entry) (omega (arith, length-append (entry_bytes first) (entries_bytes before)))

-- what stands before an SVID's modes, and what behind them
before_modes : Catalogue → List Entry → Entry → List ℕ
before_modes c before entry = length c.identity ∷ bytes_of c.identity ++ (entries_bytes before ++ svid_bytes entry.svid)

length_before : (c : Catalogue) (before : List Entry) (entry : Entry) →
    length (before_modes c before entry) ≡ entries_at c + length (entries_bytes before) + svid_size
unfolding before_modes svid_bytes
length_before c before entry =
    omega (
      arith,
      length-append (bytes_of c.identity) (entries_bytes before ++ svid_bytes entry.svid),
      length-append (entries_bytes before) (svid_bytes entry.svid),
      length_bytes c.identity,
    )

modes_parts : (c : Catalogue) (before : List Entry) (entry : Entry) (behind : List Entry) → c.entries ≡ before ++ entry ∷ behind →
    catalogue_bytes c ≡ before_modes c before entry ++ (modes_bytes entry.modes ++ (entries_bytes behind ++ end_kind ∷ []))
unfolding before_modes catalogue_bytes entries_bytes entry_bytes
modes_parts c before entry behind are =
    ap (λ (l : List ℕ). (length c.identity ∷ bytes_of c.identity ++ l) ++ end_kind ∷ []) (ap entries_bytes are ∙ entries_append before (entry ∷ behind)) ∙
    regrouped (length c.identity ∷ bytes_of c.identity) (entries_bytes before) (svid_bytes entry.svid) (modes_bytes entry.modes) (entries_bytes behind) (end_kind ∷ [])
  where
    regrouped : (p q r s t u : List ℕ) → (p ++ (q ++ ((r ++ s) ++ t))) ++ u ≡ (p ++ (q ++ r)) ++ (s ++ (t ++ u))
    regrouped p q r s t u = simp append_assoc

part_between : (bytes front part rest : List ℕ) (n : ℕ) → bytes ≡ front ++ (part ++ rest) → length front ≡ n → take (length part) (drop n bytes) ≡ part
part_between bytes front part rest n e size =
    ap (take (length part)) (ap (drop n) e ∙ drop_at front (part ++ rest) n size) ∙ take-append_seam part rest

-- the stretch of an SVID holds exactly its mode records, with their kinds
pub stretch_modes : (bytes : List ℕ) → Below 256 bytes → (judgement_of bytes).refusal ≡ 0 → (before : List Entry) (entry : Entry) (behind : List Entry) →
    (judgement_of bytes).catalogue.entries ≡ before ++ entry ∷ behind →
    let s = stretch_in (judgement_of bytes) entry.svid in
    (s.refusal ≡ 0) × (take s.length (drop s.at bytes) ≡ modes_bytes entry.modes)
unfolding svids_of
stretch_modes bytes b accepted before entry behind are =
    let c : Catalogue = (judgement_of bytes).catalogue in
    let sound : sound_list (svids_of before ++ entry.svid ∷ svids_of behind) ≡ true =
    ap sound_list (sym (svids_append before (entry ∷ behind)) ∙ ap svids_of (sym are)) ∙ (accepted_within bytes b accepted).svids_sound in
    let place : stretch_in (judgement_of bytes) entry.svid ≡ modes_place (entries_at c + length (entries_bytes before) + svid_size) entry =
    sound_place bytes entry.svid accepted ∙ ap (place_in entry.svid (entries_at c)) are ∙
    place_behind (entries_at c) before entry behind (sound_new (svids_of before) (svids_of behind) entry.svid sound) in (
      ap (λ (p : Place). p.refusal) place,
      ap (λ (p : Place). take p.length (drop p.at bytes)) place ∙
          part_between bytes (before_modes c before entry) (modes_bytes entry.modes) (entries_bytes behind ++ end_kind ∷ []) _
          (sym (write_read bytes b accepted) ∙ modes_parts c before entry behind are) (length_before c before entry),
    )

-- where each SVID has a mode, a place among entries has no bytes exactly when none has the SVID
abbrev EmptyExactly : Place → Type 0
EmptyExactly place = (place.length ≡ 0) ↔ (place.refusal ≡ 0 → ⊥)

place_empty : (svid at : ℕ) (entries : List Entry) → Each OneToSix entries → EmptyExactly (place_in svid at entries)
unfolding place_in
place_empty svid at [] each = (λ e z. omega (arith, z), λ refused. refl)
place_empty svid at (entry ∷ entries) each = go (eqb entry.svid svid) (place_empty svid (at + length (entry_bytes entry)) entries each.1)
  where
    go : (t : Bool) → EmptyExactly (place_in svid (at + length (entry_bytes entry)) entries) →
        EmptyExactly (cond t (modes_place (at + svid_size) entry) (place_in svid (at + length (entry_bytes entry)) entries))
    go true further = (λ e z. omega (arith, e, length_modes entry.modes, each.0.0), λ refused. absurd (refused refl))
    go false further = further

-- a stretch has no bytes exactly when it is refused
pub empty_exactly : (bytes : List ℕ) → Below 256 bytes → (svid : ℕ) →
    ((stretch_in (judgement_of bytes) svid).length ≡ 0) ↔ ((stretch_in (judgement_of bytes) svid).refusal ≡ 0 → ⊥)
empty_exactly bytes b svid = go (eqb j.refusal 0) refl
  where
    j : Judgement
    j = judgement_of bytes

    go : (t : Bool) → eqb j.refusal 0 ≡ t → EmptyExactly (stretch_in j svid)
    go true e =
        let accepted = eqb-true j.refusal 0 e in
        rw (sound_place bytes svid accepted) (place_empty svid (entries_at j.catalogue) j.catalogue.entries (accepted_within bytes b accepted).modes_each_lem)
    go false e = let fault = eqb-false j.refusal 0 e in rw (fault_first bytes svid fault) (λ none. fault, λ refused. refl)
