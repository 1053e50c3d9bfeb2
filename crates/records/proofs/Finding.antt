-- What stands first among bytes, or at an offset, by the tests that lead there.
use mathlib.Core.Path.{◌≡◌, refl, ap, ap₂, ◌∙◌}
use mathlib.Core.Bool.{true, false}
use mathlib.Core.List.{List, [], ◌∷◌}
use Prim.Native.Nat.{ℕ, ◌+◌, ◌*◌, ◌<◌, ◌≤◌}
use native.Mathlib.Omega.{arith}
use lib.ListN.{length, get_or, drop}
use borrow.Author.Tests.{le-leb, lt-leb, lt-ltb, le-ltb, ne_eqb}
use Rattle.catalogue.specs.Bytes.{svid_kind, mode_kind, end_kind}
use Rattle.records.specs.Records.{is_identity, is_known, body_length, svid_in, mode_in, record_of, found_in, found_at}
use Rattle.records.specs.declared.Record.{Record}
use Rattle.records.specs.declared.Record.TheVariants.{Identity, Svid, Mode, End}
use Rattle.records.proofs.Bodies.{known_identity, known_other, length_identity, of_identity}
use Rattle.records.specs.Records.{Whole, Unknown, Cut, Nothing}

pub in_nothing : (bytes : List ℕ) → length bytes ≡ 0 → found_in bytes ≡ Nothing
unfolding found_in
in_nothing [] e = refl
in_nothing (kind ∷ rest) e = absurd (omega arith)

pub in_unknown : (bytes : List ℕ) → (length bytes ≡ 0 → ⊥) → is_known (get_or bytes 0 0) ≡ false → found_in bytes ≡ Unknown
unfolding found_in
in_unknown [] some e = absurd (some refl)
in_unknown (kind ∷ rest) some e = rw e

pub in_cut : (bytes : List ℕ) → (length bytes ≡ 0 → ⊥) → is_known (get_or bytes 0 0) ≡ true → length bytes < 1 + body_length (get_or bytes 0 0) →
    found_in bytes ≡ Cut
unfolding found_in
in_cut [] some e short = absurd (some refl)
in_cut (kind ∷ rest) some e short = simp (e, lt-leb (body_length kind) (length rest) (omega arith))

pub in_whole : (bytes : List ℕ) → (length bytes ≡ 0 → ⊥) → is_known (get_or bytes 0 0) ≡ true → 1 + body_length (get_or bytes 0 0) ≤ length bytes →
    found_in bytes ≡ Whole (record_of (get_or bytes 0 0) (drop 1 bytes)) (1 + body_length (get_or bytes 0 0))
unfolding found_in
in_whole [] some e whole = absurd (some refl)
in_whole (kind ∷ rest) some e whole = simp (e, le-leb (body_length kind) (length rest) (omega arith))

-- by the kind
module _ (bytes : List ℕ) (some : 0 < length bytes) where
  -- an identity
  module _ (kind : ℕ) (e : get_or bytes 0 0 ≡ kind) (i : is_identity kind ≡ true) where
    size : body_length (get_or bytes 0 0) ≡ kind * 4
    size = ap body_length e ∙ length_identity kind i

    known : is_known (get_or bytes 0 0) ≡ true
    known = ap is_known e ∙ known_identity kind i

    pub identity_cut : length bytes < 1 + kind * 4 → found_in bytes ≡ Cut
    identity_cut short = in_cut bytes (λ none. omega arith) known (omega (arith, size))

    pub identity_whole : 1 + kind * 4 ≤ length bytes → found_in bytes ≡ Whole (Identity kind) (1 + kind * 4)
    identity_whole there =
        in_whole bytes (λ none. omega arith) known (omega (arith, size)) ∙
        ap₂ (λ (r : Record) (n : ℕ). Whole r (1 + n)) (ap (λ (k : ℕ). record_of k (drop 1 bytes)) e ∙ of_identity kind (drop 1 bytes) i) size

  -- an SVID
  module _ (e : get_or bytes 0 0 ≡ svid_kind) where
    pub svid_cut : length bytes < 3 → found_in bytes ≡ Cut
    unfolding is_known is_identity body_length
    svid_cut short = in_cut bytes (λ none. omega arith) (ap is_known e) (omega (arith, ap body_length e))

    pub svid_whole : 3 ≤ length bytes → found_in bytes ≡ Whole (Svid (svid_in (drop 1 bytes))) 3
    unfolding is_known is_identity body_length record_of
    svid_whole there =
        in_whole bytes (λ none. omega arith) (ap is_known e) (omega (arith, ap body_length e)) ∙
        ap (λ (k : ℕ). Whole (record_of k (drop 1 bytes)) (1 + body_length k)) e

  -- a mode
  module _ (e : get_or bytes 0 0 ≡ mode_kind) where
    pub mode_cut : length bytes < 5 → found_in bytes ≡ Cut
    unfolding is_known is_identity body_length
    mode_cut short = in_cut bytes (λ none. omega arith) (ap is_known e) (omega (arith, ap body_length e))

    pub mode_whole : 5 ≤ length bytes → found_in bytes ≡ Whole (Mode (mode_in (drop 1 bytes))) 5
    unfolding is_known is_identity body_length record_of
    mode_whole there =
        in_whole bytes (λ none. omega arith) (ap is_known e) (omega (arith, ap body_length e)) ∙
        ap (λ (k : ℕ). Whole (record_of k (drop 1 bytes)) (1 + body_length k)) e

  -- the end, or none of them
  pub end_whole : get_or bytes 0 0 ≡ end_kind → found_in bytes ≡ Whole End 1
  unfolding is_known is_identity body_length record_of
  end_whole e =
      in_whole bytes (λ none. omega arith) (ap is_known e) (omega (arith, ap body_length e)) ∙
      ap (λ (k : ℕ). Whole (record_of k (drop 1 bytes)) (1 + body_length k)) e

  pub none_known : (kind : ℕ) → get_or bytes 0 0 ≡ kind → is_identity kind ≡ false → (kind ≡ svid_kind → ⊥) → (kind ≡ mode_kind → ⊥) → (kind ≡ end_kind → ⊥) →
      found_in bytes ≡ Unknown
  none_known kind e i s m n = in_unknown bytes (λ none. omega arith) (ap is_known e ∙ known_other kind i s m ∙ ne_eqb kind 0 n)

module _ (bytes : List ℕ) (at : ℕ) where
  pub at_past : length bytes < at → found_at bytes at ≡ Cut
  unfolding found_at
  at_past h = simp (lt-ltb _ _ h)

  pub at_within : at ≤ length bytes → found_at bytes at ≡ found_in (drop at bytes)
  unfolding found_at
  at_within h = simp (le-ltb _ _ h)
