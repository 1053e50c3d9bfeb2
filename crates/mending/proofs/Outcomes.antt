-- The ways out of mending.
use mathlib.Core.Path.{◌≡◌, ap, ap₂, sym, ◌∙◌}
use mathlib.Core.Bool.{Bool, cond}
use mathlib.Core.List.{List, [], ◌∷◌, ◌++◌}
use Prim.Native.Nat.{ℕ, ◌-◌, ◌<◌, ◌≤◌}
use native.Mathlib.Omega.{arith}
use lib.Dec.{ltb, eqb}
use lib.ListN.{length, take}
use lib.Seq.{sets}
use borrow.Author.Tests.{eq-eqb, ne_eqb, lt-ltb, le-ltb}
use Rattle.laws.specs.Bounded.{Below}
use Rattle.laws.proofs.Stores.{sets_front}
use Rattle.catalogue.specs.Bytes.{end_kind, written_into}
use Rattle.judging.specs.Judging.{Judgement, judgement_of, FileJudged}
use Rattle.judging.specs.Walking.{walk_of}
use Rattle.judging.specs.Judging.{Judged}
use Rattle.judging.specs.declared.walk.Walk.{Walk}
use Rattle.catalogue_laws.proofs.Bounds.{bounds}
use Rattle.catalogue_laws.proofs.Judged.{number_is, walk_is}
use Rattle.mending.specs.Keeping.{kept_by_of}
use Rattle.mending.specs.Mending.{no_identity, short_buffer, kept_bytes, mend_refusal, report_of, outcome_of, mended_as, mended_bytes, mending_of}
use Rattle.mending.specs.Mending.{Mended}
use Rattle.mending.specs.Mending.{Refused, Sound, Partial}
use Rattle.mending.specs.declared.keeping.Kept.{Kept}
use Rattle.mending.proofs.Counting.{kept_is}
use Rattle.mending.proofs.Front.{kept_size, kept_within, kept_front}

-- by the number of the fault
module _ (number at : ℕ) (kept : Kept) where
  abbrev told : Bool → Mended
  told b = cond b (Sound kept) (Partial (record { number = number; at = at }) kept)

-- by the refusal
module _ (j : Judgement) (room : ℕ) where
  pub refusal_none : length j.catalogue.identity ≡ 0 → mend_refusal j room ≡ no_identity
  unfolding mend_refusal
  refusal_none e = ap (λ (b : Bool). cond b no_identity (cond (ltb room (length (kept_bytes j))) short_buffer 0)) (eq-eqb _ _ e)

  module _ (begun : length j.catalogue.identity ≡ 0 → ⊥) where
    pub refusal_short : room < length (kept_bytes j) → mend_refusal j room ≡ short_buffer
    unfolding mend_refusal
    refusal_short less = ap₂ (λ (b : Bool) (s : Bool). cond b no_identity (cond s short_buffer 0)) (ne_eqb _ _ begun) (lt-ltb _ _ less)

    pub refusal_whole : length (kept_bytes j) ≤ room → mend_refusal j room ≡ 0
    unfolding mend_refusal
    refusal_whole enough = ap₂ (λ (b : Bool) (s : Bool). cond b no_identity (cond s short_buffer 0)) (ne_eqb _ _ begun) (le-ltb _ _ enough)

module _ (bytes out : List ℕ) where
  abbrev judged : Judgement
  judged = judgement_of bytes

  abbrev room : ℕ
  room = length out

  abbrev gives : ℕ → Bool → Mended × List ℕ
  gives number whole = (cond whole (outcome_of judged) (Refused number), written_into out (cond whole (kept_bytes judged) []))

  given : (number : ℕ) → mend_refusal judged room ≡ number → mending_of bytes out ≡ gives number (eqb number 0)
  unfolding mending_of mended_as mended_bytes
  given number e = ap (λ (n : ℕ). gives n (eqb n 0)) e

  -- a refusal writes nothing
  pub mending_refused : (number : ℕ) → (number ≡ 0 → ⊥) → mend_refusal judged room ≡ number → mending_of bytes out ≡ (Refused number, out)
  unfolding written_into
  mending_refused number other e = given number e ∙ ap (gives number) (ne_eqb number 0 other)

  pub mending_whole : mend_refusal judged room ≡ 0 → mending_of bytes out ≡ (outcome_of judged, written_into out (kept_bytes judged))
  mending_whole e = given 0 e

  -- by what judging hands over
  module _ {result : Judged} {svids numbers : List ℕ} (file : FileJudged bytes result svids numbers) where
    kept_by : kept_by_of result.walk ≡ report_of judged
    kept_by = ap kept_by_of (walk_is file) ∙ kept_is judged.at judged

    extent_is : result.walk.extent ≡ length judged.catalogue.identity
    unfolding walk_of
    extent_is = ap (λ (w : Walk). w.extent) (walk_is file)

    pub size_is : (kept_by_of result.walk).length ≡ length (kept_bytes judged)
    unfolding report_of
    size_is = ap (λ (k : Kept). k.length) kept_by

    pub kept_bounds : (result.walk.extent ≤ 6) × (result.walk.count ≤ 72) × (result.walk.modes ≤ 432)
    unfolding walk_of
    kept_bounds =
        let most = bounds bytes in (
          omega (arith, extent_is, most.objects_most),
          omega (arith, ap (λ (w : Walk). w.count) (walk_is file), most.svids_most),
          omega (arith, ap (λ (w : Walk). w.modes) (walk_is file), most.modes_most),
        )

    pub mend_none : result.walk.extent ≡ 0 → (Refused no_identity, out) ≡ mending_of bytes out
    mend_none none = sym (mending_refused no_identity (λ z. omega (arith, z)) (refusal_none judged room (sym extent_is ∙ none)))

    module _ (begun : result.walk.extent ≡ 0 → ⊥) where
      some : length judged.catalogue.identity ≡ 0 → ⊥
      some none = begun (extent_is ∙ none)

      pub mend_short : (kept : Kept) → kept ≡ kept_by_of result.walk → length out < kept.length → (Refused short_buffer, out) ≡ mending_of bytes out
      mend_short kept is short =
          sym (mending_refused short_buffer (λ z. omega (arith, z))
          (refusal_short judged room some (omega (arith, short, ap (λ (k : Kept). k.length) is, size_is))))

      module _ (b : Below 256 bytes) (kept : Kept) (is : kept ≡ kept_by_of result.walk) (fits : kept.length ≤ length out) where
        size : kept.length ≡ length (kept_bytes judged)
        size = ap (λ (k : Kept). k.length) is ∙ size_is

        -- there are so many bytes in the file, and room for one more
        pub room_kept : (1 ≤ kept.length) × (kept.length - 1 ≤ length bytes) × (kept.length - 1 < length out)
        room_kept =
            let there : 0 < length judged.catalogue.identity = omega (arith, some) in
            let more = kept_size bytes b there in
            let within = kept_within bytes b there in
            (omega (arith, size, more), omega (arith, size, within), omega (arith, size, more, fits))

        -- the result, by the number and the offset of the fault
        given_back : (r : Mended) → r ≡ told result.refusal result.walk.at kept (eqb result.refusal 0) → r ≡ outcome_of judged
        unfolding outcome_of walk_of
        given_back r e =
            e ∙
            ap₂ (λ (n : ℕ) (w : Walk). told n w.at kept (eqb n 0)) (number_is file) (walk_is file) ∙
            ap (λ (k : Kept). told judged.refusal judged.at k (eqb judged.refusal 0)) (is ∙ kept_by)

        -- the bytes that are put are those that come out
        written : (after : List ℕ) → after ≡ sets out 0 (take (kept.length - 1) bytes ++ end_kind ∷ []) → after ≡ written_into out (kept_bytes judged)
        unfolding written_into
        written after a =
            let front = kept_front bytes b (omega (arith, some)) in
            a ∙ ap (λ (n : ℕ). sets out 0 (take (n - 1) bytes ++ end_kind ∷ [])) size ∙ ap (sets out 0) front ∙ sets_front out (kept_bytes judged) (omega (arith, size, fits))

        pub mend_whole : (after : List ℕ) → after ≡ sets out 0 (take (kept.length - 1) bytes ++ end_kind ∷ []) →
            (r : Mended) → r ≡ told result.refusal result.walk.at kept (eqb result.refusal 0) → (r, after) ≡ mending_of bytes out
        mend_whole after a r e =
            ap₂ pair (given_back r e) (written after a) ∙ sym (mending_whole (refusal_whole judged room some (omega (arith, size, fits))))
          where
            pair : Mended → List ℕ → Mended × List ℕ
            pair m l = (m, l)
