-- What a kind fixes: whether it is known, the length of its body, its record.
use mathlib.Core.Path.{◌≡◌}
use mathlib.Core.Bool.{true, false}
use mathlib.Core.List.{List}
use Prim.Native.Nat.{ℕ, ◌*◌, ◌≤◌}
use lib.Dec.{leb, eqb}
use borrow.Author.Tests.{ne_eqb, eq-eqb, leb-true}
use Rattle.laws.proofs.Lines.{and_left, and_right}
use Rattle.records.specs.Records.{is_identity, is_known, body_length, svid_in, mode_in, record_of}
use Rattle.records.specs.declared.Record.TheVariants.{Identity, Svid, Mode, End}

pub identity_bounds : (kind : ℕ) → is_identity kind ≡ true → (3 ≤ kind) × (kind ≤ 6)
unfolding is_identity
identity_bounds kind e = (leb-true 3 kind (and_left (leb 3 kind) (leb kind 6) e), leb-true kind 6 (and_right (leb 3 kind) (leb kind 6) e))

module _ (kind : ℕ) where
  pub known_identity : is_identity kind ≡ true → is_known kind ≡ true
  unfolding is_known
  known_identity e = simp e

  pub known_other : is_identity kind ≡ false → (kind ≡ 16 → ⊥) → (kind ≡ 32 → ⊥) → is_known kind ≡ eqb kind 0
  unfolding is_known
  known_other e n m = simp (e, ne_eqb kind 16 n, ne_eqb kind 32 m)

  pub length_identity : is_identity kind ≡ true → body_length kind ≡ kind * 4
  unfolding body_length
  length_identity e = simp e

  pub length_svid : is_identity kind ≡ false → kind ≡ 16 → body_length kind ≡ 2
  unfolding body_length
  length_svid e h = simp (e, eq-eqb kind 16 h)

  pub length_mode : is_identity kind ≡ false → (kind ≡ 16 → ⊥) → kind ≡ 32 → body_length kind ≡ 4
  unfolding body_length
  length_mode e n h = simp (e, ne_eqb kind 16 n, eq-eqb kind 32 h)

  pub length_other : is_identity kind ≡ false → (kind ≡ 16 → ⊥) → (kind ≡ 32 → ⊥) → body_length kind ≡ 0
  unfolding body_length
  length_other e n m = simp (e, ne_eqb kind 16 n, ne_eqb kind 32 m)

  module _ (body : List ℕ) where
    pub of_identity : is_identity kind ≡ true → record_of kind body ≡ Identity kind
    unfolding record_of
    of_identity e = simp e

    pub of_svid : is_identity kind ≡ false → kind ≡ 16 → record_of kind body ≡ Svid (svid_in body)
    unfolding record_of
    of_svid e h = simp (e, eq-eqb kind 16 h)

    pub of_mode : is_identity kind ≡ false → (kind ≡ 16 → ⊥) → kind ≡ 32 → record_of kind body ≡ Mode (mode_in body)
    unfolding record_of
    of_mode e n h = simp (e, ne_eqb kind 16 n, eq-eqb kind 32 h)

    pub of_other : is_identity kind ≡ false → (kind ≡ 16 → ⊥) → (kind ≡ 32 → ⊥) → record_of kind body ≡ End
    unfolding record_of
    of_other e n m = simp (e, ne_eqb kind 16 n, ne_eqb kind 32 m)
