-- What mending comes to: what comes out is accepted, only a sound file is called sound, and it comes out the same.
use mathlib.Core.Logic.{◌⊎◌, inl, inr}
use mathlib.Core.Path.{◌≡◌, refl, ap, ap₂, sym, ◌∙◌}
use mathlib.Core.Bool.{Bool, true, false, cond}
use mathlib.Core.List.{List}
use Prim.Native.Nat.{ℕ, ◌<◌, ◌≤◌}
use native.Mathlib.Omega.{arith}
use lib.Dec.{ltb, eqb}
use lib.ListN.{length, take}
use borrow.Author.Tests.{eqb-true, eqb-false, eq-eqb, ltb-true, ltb-false}
use Rattle.laws.specs.Bounded.{Below}
use Rattle.laptop.specs.Catalogue.{Entry, Catalogue}
use Rattle.catalogue.specs.Bytes.{catalogue_bytes, written_into}
use Rattle.judging.specs.Judging.{Judgement, judgement_of}
use Rattle.judging.specs.Walking.{all_modes}
use Rattle.catalogue_laws.specs.Within.{Within, enough_bytes}
use Rattle.catalogue_laws.proofs.Front.{front_decides}
use Rattle.catalogue_laws.proofs.Limits.{accepted_within}
use Rattle.catalogue_laws.proofs.WriteRead.{write_read}
use Rattle.mending.specs.Mending.{no_identity, short_buffer, kept_of, kept_bytes, mend_refusal, report_of, fault_of, outcome_of, mended_number, mended_as, mended_bytes, mending_of}
use Rattle.mending.specs.Mending.{Mended}
use Rattle.mending.specs.Mending.{Refused, Sound, Partial}
use Rattle.mending.specs.declared.keeping.Kept.{Kept}
use Rattle.mending.proofs.Outcomes.{refusal_none, refusal_short, refusal_whole, mending_refused, mending_whole}
use Rattle.mending.proofs.Within.{nothing_left_out, mended_within, mended_accepted}

-- nothing of a catalogue within the limits is left out
kept_whole : (c : Catalogue) → Within c → kept_of c ≡ c
unfolding kept_of
kept_whole c w = ap (λ (l : List Entry). record { identity = c.identity; entries = l }) (nothing_left_out c.entries w.modes_each_lem)

-- a sound file comes out the same
module _ (bytes : List ℕ) (b : Below 256 bytes) (sound : (judgement_of bytes).refusal ≡ 0) where
  sound_begun : length (judgement_of bytes).catalogue.identity ≡ 0 → ⊥
  sound_begun none = omega (arith, (accepted_within bytes b sound).objects_least, none)

  pub sound_same : kept_bytes (judgement_of bytes) ≡ bytes
  unfolding kept_bytes
  sound_same = ap catalogue_bytes (kept_whole (judgement_of bytes).catalogue (accepted_within bytes b sound)) ∙ write_read bytes b sound

  pub sound_mended : (out : List ℕ) → length bytes ≤ length out → mending_of bytes out ≡ (Sound (report_of (judgement_of bytes)), written_into out bytes)
  unfolding outcome_of
  sound_mended out room =
      mending_whole bytes out (refusal_whole (judgement_of bytes) (length out) sound_begun (omega (arith, ap length sound_same))) ∙
      ap₂ pair (ap (λ (t : Bool). cond t (Sound (report_of j)) (Partial (fault_of j) (report_of j))) (eq-eqb j.refusal 0 sound)) (ap (written_into out) sound_same)
    where
      j : Judgement
      j = judgement_of bytes

      pair : Mended → List ℕ → Mended × List ℕ
      pair m l = (m, l)

-- what comes out, mended again, comes out the same and is called sound, with the numbers that were reported
module _ (bytes : List ℕ) (b : Below 256 bytes) (begun : 0 < length (judgement_of bytes).catalogue.identity) where
  abbrev j : Judgement
  j = judgement_of bytes

  abbrev again : Judgement
  again = judgement_of (kept_bytes j)

  pub accepted_again : again.refusal ≡ 0
  accepted_again = ap (λ (x : Judgement). x.refusal) (mended_accepted bytes b begun)

  catalogue_again : again.catalogue ≡ kept_of j.catalogue
  catalogue_again = ap (λ (x : Judgement). x.catalogue) (mended_accepted bytes b begun)

  kept_again : kept_of again.catalogue ≡ kept_of j.catalogue
  kept_again = ap kept_of catalogue_again ∙ kept_whole (kept_of j.catalogue) (mended_within bytes b begun)

  pub bytes_again : kept_bytes again ≡ kept_bytes j
  unfolding kept_bytes
  bytes_again = ap catalogue_bytes kept_again

  -- the report's numbers are those of the file that comes out
  pub report_true : report_of j ≡ record {
    svids = length again.catalogue.entries;
    modes = all_modes again.catalogue.entries;
    length = length (kept_bytes j);
  }
  unfolding report_of
  report_true = ap (λ (c : Catalogue). counted c.entries) (sym catalogue_again)
    where
      counted : List Entry → Kept
      counted entries = record { svids = length entries; modes = all_modes entries; length = length (kept_bytes j) }

  report_again : report_of again ≡ report_of j
  unfolding report_of kept_bytes
  report_again = ap counted kept_again
    where
      counted : Catalogue → Kept
      counted c = record { svids = length c.entries; modes = all_modes c.entries; length = length (catalogue_bytes c) }

  pub mended_again : (out : List ℕ) → length (kept_bytes j) ≤ length out → mending_of (kept_bytes j) out ≡ (Sound (report_of j), written_into out (kept_bytes j))
  unfolding outcome_of kept_of
  mended_again out room =
      mending_whole (kept_bytes j) out (refusal_whole again (length out) some (omega (arith, ap length bytes_again))) ∙
      ap₂ pair (ap (λ (t : Bool). cond t (Sound (report_of again)) (Partial (fault_of again) (report_of again))) (eq-eqb again.refusal 0 accepted_again) ∙ ap Sound report_again)
      (ap (written_into out) bytes_again)
    where
      some : length again.catalogue.identity ≡ 0 → ⊥
      some none = omega (arith, begun, none, ap (λ (c : Catalogue). length c.identity) catalogue_again)

      pair : Mended → List ℕ → Mended × List ℕ
      pair m l = (m, l)

-- how mending goes: refused 19, refused 11, or by the fault
pub data Goes (j : Judgement) (room : ℕ) : ℕ → Type 0 where
  none : length j.catalogue.identity ≡ 0 → Goes j room no_identity
  short : 0 < length j.catalogue.identity → room < length (kept_bytes j) → Goes j room short_buffer
  whole : 0 < length j.catalogue.identity → length (kept_bytes j) ≤ room → Goes j room 0

pub goes : (j : Judgement) (room : ℕ) → Goes j room (mend_refusal j room)
goes j room = by (eqb (length j.catalogue.identity) 0) (ltb room (length (kept_bytes j))) refl refl
  where
    by : (n s : Bool) → eqb (length j.catalogue.identity) 0 ≡ n → ltb room (length (kept_bytes j)) ≡ s → Goes j room (mend_refusal j room)
    by true s en es = rw (refusal_none j room (eqb-true _ _ en)) (none (eqb-true _ _ en))
    by false true en es =
        let some : length j.catalogue.identity ≡ 0 → ⊥ = eqb-false _ _ en in
        rw (refusal_short j room some (ltb-true _ _ es)) (short (omega (arith, some)) (ltb-true _ _ es))
    by false false en es =
        let some : length j.catalogue.identity ≡ 0 → ⊥ = eqb-false _ _ en in
        rw (refusal_whole j room some (ltb-false _ _ es)) (whole (omega (arith, some)) (ltb-false _ _ es))

-- only a sound file is called sound
pub only_sound : (bytes out : List ℕ) (kept : Kept) → (mending_of bytes out).0 ≡ Sound kept → (judgement_of bytes).refusal ≡ 0
unfolding outcome_of
only_sound bytes out kept e = by (mend_refusal j (length out)) (goes j (length out)) refl
  where
    j : Judgement
    j = judgement_of bytes

    never : (number : ℕ) → (number ≡ 0 → ⊥) → mend_refusal j (length out) ≡ number → j.refusal ≡ 0
    never number other is =
        let z : Refused number ≡ Sound kept = sym (ap (λ (p : Mended × List ℕ). p.0) (mending_refused bytes out number other is)) ∙ e in
        absurd (let y : ◌≡◌ {A = ℕ} 0 1 = cc in omega arith)

    told : (t : Bool) → eqb j.refusal 0 ≡ t → cond t (Sound (report_of j)) (Partial (fault_of j) (report_of j)) ≡ Sound kept → j.refusal ≡ 0
    told true t h = eqb-true _ _ t
    told false t h = absurd (let y : ◌≡◌ {A = ℕ} 0 1 = cc in omega arith)

    by : (number : ℕ) → Goes j (length out) number → mend_refusal j (length out) ≡ number → j.refusal ≡ 0
    by number (none n) is = never no_identity (λ z. omega (arith, z)) is
    by number (short n s) is = never short_buffer (λ z. omega (arith, z)) is
    by number (whole n s) is = told (eqb j.refusal 0) refl (sym (ap (λ (p : Mended × List ℕ). p.0) (mending_whole bytes out is)) ∙ e)

-- the numbers: 19, 11, or that of the fault, 0 for none
pub number_given_lem : (bytes out : List ℕ) →
    (mended_number (mending_of bytes out).0 ≡ no_identity) ⊎ ((mended_number (mending_of bytes out).0 ≡ short_buffer) ⊎ (mended_number (mending_of bytes out).0 ≡ (judgement_of bytes).refusal))
unfolding outcome_of
number_given_lem bytes out = by (mend_refusal j (length out)) (goes j (length out)) refl
  where
    j : Judgement
    j = judgement_of bytes

    number : Mended × List ℕ → ℕ
    number p = mended_number p.0

    told : (t : Bool) → eqb j.refusal 0 ≡ t → mended_number (cond t (Sound (report_of j)) (Partial (fault_of j) (report_of j))) ≡ j.refusal
    told true t = sym (eqb-true _ _ t)
    told false t = refl

    by : (n : ℕ) → Goes j (length out) n → mend_refusal j (length out) ≡ n →
        (number (mending_of bytes out) ≡ no_identity) ⊎ ((number (mending_of bytes out) ≡ short_buffer) ⊎ (number (mending_of bytes out) ≡ j.refusal))
    by n (none z) is = inl (ap number (mending_refused bytes out no_identity (λ e. omega (arith, e)) is))
    by n (short z s) is = inr (inl (ap number (mending_refused bytes out short_buffer (λ e. omega (arith, e)) is)))
    by n (whole z s) is = inr (inr (ap number (mending_whole bytes out is) ∙ told (eqb j.refusal 0) refl))

-- two results that the promise allows are equal, with the whole buffer
pub mend_only : (bytes out : List ℕ) (result other : Mended) (after after' : List ℕ) → (result, after) ≡ mending_of bytes out → (other, after') ≡ mending_of bytes out →
    (result ≡ other) × (after ≡ after')
mend_only bytes out result other after after' m m' =
    let same : ◌≡◌ {A = Mended × List ℕ} (result, after) (other, after') = m ∙ sym m' in
    (ap (λ (p : Mended × List ℕ). p.0) same, ap (λ (p : Mended × List ℕ). p.1) same)

-- what lies past byte 2,426 never matters
pub front_mended : (bytes out : List ℕ) → mending_of (take enough_bytes bytes) out ≡ mending_of bytes out
unfolding mending_of
front_mended bytes out = ap mended (front_decides bytes)
  where
    mended : Judgement → Mended × List ℕ
    mended j = (mended_as j (length out), written_into out (mended_bytes j (length out)))
