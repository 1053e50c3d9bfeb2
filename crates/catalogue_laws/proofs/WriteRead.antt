-- Accepted bytes, written again, are the same bytes.
use mathlib.Core.Path.{◌≡◌, refl, ap, sym, ◌∙◌}
use mathlib.Core.List.{List, [], ◌∷◌, ◌++◌}
use Prim.Native.Nat.{ℕ, ◌<◌}
use native.Mathlib.Omega.{arith}
use lib.ListN.{length, take, drop, length-drop, take-append-drop}
use lib.Seq.{take-add}
use Rattle.laws.specs.Bounded.{Below}
use Rattle.laptop.specs.Catalogue.{Catalogue}
use Rattle.catalogue.specs.Bytes.{end_kind, entries_bytes, catalogue_bytes}
use Rattle.records.specs.Records.{found_in}
use Rattle.records.specs.Records.{Whole}
use Rattle.records.specs.declared.Record.{Record}
use Rattle.records.specs.declared.Record.TheVariants.{Identity, Svid, Mode, End}
use Rattle.records.proofs.Laws.{IsWhole, whole, Told, told}
use Rattle.records.proofs.Laws.Told.{identity, svid, mode, end}
use Rattle.judging.specs.Judging.{judgement_of}
use Rattle.judging.specs.Walking.{svids_of, walk_of}
use Rattle.judging.proofs.Following.{ended_closed}
use Rattle.catalogue_laws.specs.Given.{Passed}
use Rattle.catalogue_laws.specs.Given.Passed.{front, behind}
use Rattle.catalogue_laws.proofs.Accepted.{accepted_ended}
use Rattle.catalogue_laws.proofs.Below.{drop_below}
use Rattle.catalogue_laws.proofs.Passing.{passed_bytes, Begun, passed_more}
use Rattle.catalogue_laws.proofs.Words.{right_exactly}

-- what was passed is the front of the bytes
pub passed_bytes_lem : {bytes : List ℕ} {at : ℕ} {c : Catalogue} → Below 256 bytes → Passed bytes at c → (passed_bytes c ≡ take at bytes) × Begun c
unfolding passed_bytes entries_bytes
passed_bytes_lem b front = (refl, λ none. refl)
passed_bytes_lem {bytes} b (behind {at} {c} p r n e right more) =
    let before = passed_bytes_lem b p in
    let one = passed_more at c (drop at bytes) r n (drop_below 256 at bytes b) before.1 e ((right_exactly at c r).1 right) more in
    (one.bytes_are ∙ ap (λ (l : List ℕ). l ++ take n (drop at bytes)) before.0 ∙ sym (take-add at n bytes), one.begun)

-- the end behind it makes a catalogue's bytes
pub passed_ended : (c : Catalogue) → 0 < length c.identity → passed_bytes c ++ end_kind ∷ [] ≡ catalogue_bytes c
unfolding passed_bytes catalogue_bytes
passed_ended c begun = go c.identity begun
  where
    go : (objects : List ℕ) → 0 < length objects →
        passed_bytes (record { identity = objects; entries = c.entries }) ++ end_kind ∷ [] ≡ catalogue_bytes (record { identity = objects; entries = c.entries })
    go [] begun = absurd (omega arith)
    go (object ∷ objects) begun = refl

-- where an end record is all that is left, its kind is
end_byte : (bytes : List ℕ) (n : ℕ) → found_in bytes ≡ Whole End n → length bytes ≡ n → bytes ≡ end_kind ∷ []
end_byte bytes n found all = go (told w.kind w.rest w.known)
  where
    w : IsWhole bytes End n
    w = whole bytes End n found

    never : (r : Record) → End ≡ r → (End ≡ r → ◌≡◌ {A = ℕ} 0 1) → bytes ≡ end_kind ∷ []
    never r e other = absurd (omega (arith, other e))

    empty : (l : List ℕ) → length l ≡ 0 → l ≡ []
    empty [] e = refl
    empty (x ∷ l) e = absurd (omega (arith, e))

    go : Told w.kind w.rest → bytes ≡ end_kind ∷ []
    go (identity i e l) = never (Identity w.kind) (w.record_is ∙ e) (λ h. cc)
    go (svid k e l) = never (Svid _) (w.record_is ∙ e) (λ h. cc)
    go (mode k e l) = never (Mode _) (w.record_is ∙ e) (λ h. cc)
    go (end k e l) =
        let none : w.rest ≡ [] = empty w.rest (omega (arith, w.length_is, l, all, ap length w.bytes_are)) in
        w.bytes_are ∙ ap (λ (x : ℕ). x ∷ w.rest) k ∙ ap (λ (x : List ℕ). end_kind ∷ x) none

pub write_read : (bytes : List ℕ) → Below 256 bytes → (judgement_of bytes).refusal ≡ 0 → catalogue_bytes (judgement_of bytes).catalogue ≡ bytes
unfolding walk_of
write_read bytes b accepted =
    let c = (judgement_of bytes).catalogue in
    let e = accepted_ended bytes accepted in
    let begun = (ended_closed (walk_of e.place c) (svids_of c.entries) ((right_exactly e.place c End).1 e.right)).0 in
    let rest : drop e.place bytes ≡ end_kind ∷ [] =
    end_byte (drop e.place bytes) e.size e.end_is (omega (arith, length-drop e.place bytes, e.behind, e.all)) in
    sym (passed_ended c begun) ∙ ap (λ (l : List ℕ). l ++ end_kind ∷ []) (passed_bytes_lem b e.passed).0 ∙
    ap (λ (l : List ℕ). take e.place bytes ++ l) (sym rest) ∙ take-append-drop e.place bytes
