-- What stands first among bytes that begin with a record as it is written: that record.
use mathlib.Core.Path.{◌≡◌, refl, ap, ap₂, ◌∙◌}
use mathlib.Core.Bool.{true}
use mathlib.Core.List.{List, [], ◌∷◌, ◌++◌}
use Prim.Native.Nat.{ℕ, zero, suc, ◌+◌, ◌*◌, ◌^◌, ◌<◌, ◌≤◌}
use native.Mathlib.Omega.{arith}
use lib.ListN.{length, get_or, length-append}
use borrow.Author.Tests.{le-leb}
use Rattle.laws.specs.Bounded.{Below}
use Rattle.messages.specs.Layout.{bits, bytes_of_object, objects_of, bytes_of}
use Rattle.messages.proofs.Objects.{objects_bytes, length_bytes}
use Rattle.catalogue.specs.Bytes.{end_kind, least_objects, most_objects, svid_bytes, mode_bytes}
use Rattle.records.specs.Records.{is_identity, is_known, body_length, svid_in, mode_in, record_of, found_in}
use Rattle.records.specs.Records.{Whole}
use Rattle.records.specs.declared.Record.{Record}
use Rattle.records.specs.declared.Record.TheVariants.{Identity, Svid, Mode, End}
use Rattle.records.proofs.Bodies.{known_identity, length_identity, of_identity}
use Rattle.records.proofs.Finding.{in_whole}

-- a word, written as bytes and read again
word_back : (word : ℕ) → word < 2 ^ 32 → get_or (objects_of (bytes_of (word ∷ []))) 0 0 ≡ word
word_back word h = ap (λ (l : List ℕ). get_or l 0 0) (objects_bytes (word ∷ []) alone)
  where
    alone : Below (2 ^ 32) (word ∷ [])
    alone zero = h
    alone (suc k) = omega arith

svid_back : (svid : ℕ) → svid < 2 ^ 16 → bits 7 0 svid + bits 15 8 svid * 2 ^ 8 ≡ svid
unfolding objects_of bytes_of bytes_of_object
svid_back svid h = omega (arith, word_back svid (omega arith))

module _ (rest : List ℕ) where
  pub svid_found : (svid : ℕ) → svid < 2 ^ 16 → found_in (svid_bytes svid ++ rest) ≡ Whole (Svid svid) 3
  unfolding svid_bytes is_identity is_known body_length svid_in record_of
  svid_found svid h =
      in_whole (svid_bytes svid ++ rest) (λ e. omega arith) refl (omega arith) ∙
      ap (λ (s : ℕ). Whole (Svid s) 3) (svid_back svid h)

  pub mode_found : (mode : ℕ) → mode < 2 ^ 32 → found_in (mode_bytes mode ++ rest) ≡ Whole (Mode mode) 5
  unfolding mode_bytes bytes_of_object bytes_of objects_of is_identity is_known body_length mode_in record_of
  mode_found mode h =
      in_whole (mode_bytes mode ++ rest) (λ e. omega arith) refl (omega arith) ∙
      ap (λ (m : ℕ). Whole (Mode m) 5) (word_back mode h)

  pub identity_found : (objects : List ℕ) → least_objects ≤ length objects → length objects ≤ most_objects →
      found_in (length objects ∷ bytes_of objects ++ rest) ≡ Whole (Identity (length objects)) (1 + length objects * 4)
  unfolding is_identity
  identity_found objects least most =
      let kind : ℕ = length objects in
      let bytes : List ℕ = kind ∷ bytes_of objects ++ rest in
      let is : is_identity kind ≡ true = simp (le-leb least_objects kind least, le-leb kind most_objects most) in
      let size : body_length kind ≡ kind * 4 = length_identity kind is in
      in_whole bytes (λ e. omega arith) (known_identity kind is) (omega (arith, size, length-append (bytes_of objects) rest, length_bytes objects)) ∙
      ap₂ (λ (r : Record) (n : ℕ). Whole r (1 + n)) (of_identity kind (bytes_of objects ++ rest) is) size

  pub end_found : found_in (end_kind ∷ rest) ≡ Whole End 1
  unfolding is_identity is_known body_length record_of
  end_found = in_whole (end_kind ∷ rest) (λ e. omega arith) refl (omega arith)
