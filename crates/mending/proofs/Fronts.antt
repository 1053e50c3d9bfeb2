-- The refusals in 02's words: 19 exactly where no whole identity stands at the front, then 11 exactly where the buffer is shorter than what comes out.
use mathlib.Core.Logic.{◌↔◌}
use mathlib.Core.Path.{◌≡◌, refl, ap, sym, ◌∙◌}
use mathlib.Core.Bool.{Bool, true, false, false≢true}
use mathlib.Core.List.{List}
use Prim.Native.Nat.{ℕ, ◌+◌, ◌<◌, ◌≤◌}
use native.Mathlib.Omega.{arith}
use lib.Dec.{eqb}
use lib.ListN.{length, drop}
use borrow.Author.Tests.{eqb-true, eqb-false}
use Rattle.laptop.specs.Catalogue.{Catalogue}
use Rattle.catalogue.specs.Bytes.{least_objects}
use Rattle.records.specs.Records.{found_in}
use Rattle.records.specs.Records.{Whole}
use Rattle.records.specs.declared.Record.{Record}
use Rattle.records.specs.declared.Record.TheVariants.{Identity, Svid, Mode, End}
use Rattle.records.proofs.Bodies.{identity_bounds}
use Rattle.records.proofs.Laws.{IsWhole, whole, Told, told}
use Rattle.records.proofs.Laws.Told.{identity, svid, mode, end}
use Rattle.judging.specs.Judging.{Judgement, nothing_yet, judgement_of}
use Rattle.judging.specs.Noting.{walk_behind}
use Rattle.judging.specs.Walking.{walk_of, added}
use Rattle.judging.specs.declared.walk.Walk.{Walk}
use Rattle.judging.proofs.Walks.{behind_walk}
use Rattle.catalogue_laws.specs.Given.{Passed}
use Rattle.catalogue_laws.specs.Given.Passed.{front, behind}
use Rattle.catalogue_laws.specs.Words.{Wrong}
use Rattle.catalogue_laws.specs.Words.Wrong.{identity_again, svid_first, mode_without_svid}
use Rattle.catalogue_laws.proofs.Words.{right_exactly}
use Rattle.mending.specs.Mending.{no_identity, short_buffer, kept_bytes, mend_refusal}
use Rattle.mending.specs.Words.{AtFront}
use Rattle.mending.proofs.Front.{stood}
use Rattle.mending.proofs.Growing.{passed_grows}
use Rattle.mending.proofs.Laws.{Goes, none, short, goes}
use Rattle.mending.proofs.Outcomes.{refusal_none, refusal_short}

-- an identity has at least three objects
objects_least : (bytes : List ℕ) (objects n : ℕ) → found_in bytes ≡ Whole (Identity objects) n → least_objects ≤ objects
objects_least bytes objects n found = go (told w.kind w.rest w.known)
  where
    w : IsWhole bytes (Identity objects) n
    w = whole bytes (Identity objects) n found

    never : (r : Record) → Identity objects ≡ r → (Identity objects ≡ r → ◌≡◌ {A = ℕ} 0 1) → least_objects ≤ objects
    never r e other = absurd (omega (arith, other e))

    go : Told w.kind w.rest → least_objects ≤ objects
    go (identity i e l) =
        let is : Identity objects ≡ Identity w.kind = w.record_is ∙ e in
        let same : objects ≡ w.kind = cc in
        omega (arith, same, (identity_bounds w.kind i).0)
    go (svid k e l) = never (Svid _) (w.record_is ∙ e) (λ h. cc)
    go (mode k e l) = never (Mode _) (w.record_is ∙ e) (λ h. cc)
    go (end k e l) = never End (w.record_is ∙ e) (λ h. cc)

-- they are the catalogue's behind it
module _ (at : ℕ) (c : Catalogue) (bytes : List ℕ) (objects n : ℕ) (found : found_in bytes ≡ Whole (Identity objects) n) (right : Wrong c (Identity objects) → ⊥) where
  identity_some : 0 < length (added c (Identity objects) bytes).identity
  unfolding walk_behind walk_of
  identity_some =
      let is = ap (λ (w : Walk). w.extent) (behind_walk at c bytes (Identity objects) n found ((right_exactly at c (Identity objects)).1 right)).walk_is in
      omega (arith, is, objects_least bytes objects n found)

-- before an identity nothing was passed
nothing_passed : {bytes : List ℕ} {at : ℕ} {c : Catalogue} → Passed bytes at c → length c.identity ≡ 0 → (at ≡ 0) × (length c.entries ≡ 0)
unfolding added
nothing_passed front e = (refl, refl)
nothing_passed {bytes} (behind {at} {c} p (Identity objects) n found right more) e =
    absurd (omega (arith, identity_some at c (drop at bytes) objects n found right, e))
nothing_passed (behind {at} {c} p (Svid number) n found right more) e = absurd (right (svid_first number e))
nothing_passed (behind {at} {c} p (Mode word) n found right more) e = absurd (right (mode_without_svid word (nothing_passed p e).1))
nothing_passed (behind {at} {c} p End n found right more) e = absurd (false≢true (sym more))

-- where there is an identity, it stands at the front
begun_front : {bytes : List ℕ} {at : ℕ} {c : Catalogue} → Passed bytes at c → 0 < length c.identity → AtFront bytes
unfolding added
begun_front front some = absurd (omega arith)
begun_front {bytes} (behind {at} {c} p (Identity objects) n found right more) some = by (eqb (length c.identity) 0) refl
  where
    by : (b : Bool) → eqb (length c.identity) 0 ≡ b → AtFront bytes
    by true t = record { objects = objects; size = n; is = ap (λ (k : ℕ). found_in (drop k bytes)) (sym (nothing_passed p (eqb-true _ _ t)).0) ∙ found }
    by false t = let any : length c.identity ≡ 0 → ⊥ = eqb-false _ _ t in absurd (right (identity_again objects (omega (arith, any))))
begun_front (behind p (Svid number) n found right more) some = begun_front p some
begun_front (behind p (Mode word) n found right more) some = begun_front p some
begun_front (behind p End n found right more) some = absurd (false≢true (sym more))

module _ (bytes : List ℕ) where
  abbrev j : Judgement
  j = judgement_of bytes

  front_begun : AtFront bytes → 0 < length j.catalogue.identity
  front_begun f =
      let right : Wrong nothing_yet (Identity f.objects) → ⊥ = first in
      let p : Passed bytes (0 + f.size) (added nothing_yet (Identity f.objects) bytes) = behind front (Identity f.objects) f.size f.is right refl in
      let some = identity_some 0 nothing_yet bytes f.objects f.size f.is right in
      omega (arith, some, ap length ((passed_grows bytes p).identity_stays some))
    where
      first : Wrong nothing_yet (Identity f.objects) → ⊥
      first (identity_again objects more) = omega arith

  -- the catalogue has an identity exactly where one stands whole at the front
  pub identity_exactly : (0 < length j.catalogue.identity) ↔ AtFront bytes
  identity_exactly = (begun_front (stood bytes).passed, front_begun)

  pub refused_19_exactly : (room : ℕ) → (mend_refusal j room ≡ no_identity) ↔ (AtFront bytes → ⊥)
  refused_19_exactly room = (λ e f. no (goes j room) e (front_begun f), λ never. refusal_none j room (by (eqb (length j.catalogue.identity) 0) refl never))
    where
      no : {number : ℕ} → Goes j room number → number ≡ no_identity → 0 < length j.catalogue.identity → ⊥
      no (none z) e some = omega arith
      no (short s l) e some = omega arith
      no (Goes.whole s l) e some = omega arith

      by : (b : Bool) → eqb (length j.catalogue.identity) 0 ≡ b → (AtFront bytes → ⊥) → length j.catalogue.identity ≡ 0
      by true t never = eqb-true _ _ t
      by false t never =
          let some : length j.catalogue.identity ≡ 0 → ⊥ = eqb-false _ _ t in
          absurd (never (begun_front (stood bytes).passed (omega (arith, some))))

  pub refused_11_exactly : (room : ℕ) → (mend_refusal j room ≡ short_buffer) ↔ (AtFront bytes × (room < length (kept_bytes j)))
  refused_11_exactly room =
      (shown (goes j room), λ both. refusal_short j room (λ z. omega (arith, z, front_begun both.0)) both.1)
    where
      shown : {number : ℕ} → Goes j room number → number ≡ short_buffer → AtFront bytes × (room < length (kept_bytes j))
      shown (none z) e = absurd (omega arith)
      shown (short s l) e = (begun_front (stood bytes).passed s, l)
      shown (Goes.whole s l) e = absurd (omega arith)
