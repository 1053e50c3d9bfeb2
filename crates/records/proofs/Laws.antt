-- What a record that was found tells of the bytes.
use mathlib.Core.Path.{◌≡◌, refl, ap, sym, ◌∙◌}
use mathlib.Core.Bool.{Bool, true, false, cond}
use mathlib.Core.List.{List, [], ◌∷◌}
use Prim.Native.Nat.{ℕ, ◌+◌, ◌*◌, ◌≤◌}
use native.Mathlib.Omega.{arith}
use lib.Dec.{leb, eqb}
use lib.ListN.{length}
use borrow.Author.Tests.{leb-true, eqb-true, eqb-false}
use Rattle.catalogue.specs.Bytes.{svid_kind, mode_kind, end_kind}
use Rattle.records.specs.Records.{is_identity, is_known, body_length, svid_in, mode_in, record_of, found_in}
use Rattle.records.proofs.Bodies.{known_other, length_identity, length_svid, length_mode, length_other, of_identity, of_svid, of_mode, of_other}
use Rattle.records.specs.Records.{Whole, Unknown, Cut}
use Rattle.records.specs.declared.Record.{Record}
use Rattle.records.specs.declared.Record.TheVariants.{Identity, Svid, Mode, End}

-- a whole record is that of its kind, which is known, and its bytes are there
pub record IsWhole (bytes : List ℕ) (r : Record) (n : ℕ) : Type 0 where
  pub kind : ℕ
  pub rest : List ℕ
  pub bytes_are : bytes ≡ kind ∷ rest
  pub known : is_known kind ≡ true
  pub record_is : r ≡ record_of kind rest
  pub length_is : n ≡ 1 + body_length kind
  pub there : body_length kind ≤ length rest

pub whole : (bytes : List ℕ) (r : Record) (n : ℕ) → found_in bytes ≡ Whole r n → IsWhole bytes r n
unfolding found_in
whole [] r n e = absurd (let z : ◌≡◌ {A = ℕ} 0 1 = cc in omega arith)
whole (kind ∷ rest) r n e = go (is_known kind) (leb (body_length kind) (length rest)) refl refl e
  where
    go : (known there : Bool) → is_known kind ≡ known → leb (body_length kind) (length rest) ≡ there →
        cond known (cond there (Whole (record_of kind rest) (1 + body_length kind)) Cut) Unknown ≡ Whole r n → IsWhole (kind ∷ rest) r n
    go true true ek et e = record {
      kind = kind;
      rest = rest;
      bytes_are = refl;
      known = ek;
      record_is = cc;
      length_is = cc;
      there = leb-true (body_length kind) (length rest) et;
    }
    go true false ek et e = absurd (let z : ◌≡◌ {A = ℕ} 0 1 = cc in omega arith)
    go false there ek et e = absurd (let z : ◌≡◌ {A = ℕ} 0 1 = cc in omega arith)

-- a record has at least one byte, and no more than there are
pub whole_length : (bytes : List ℕ) (r : Record) (n : ℕ) → found_in bytes ≡ Whole r n → (1 ≤ n) × (n ≤ length bytes)
whole_length bytes r n e =
    let w = whole bytes r n e in
    (omega (arith, w.length_is), omega (arith, w.length_is, w.there, ap length w.bytes_are))

-- what a known kind fixes: one of the four records, and the length of its body
pub data Told (kind : ℕ) (rest : List ℕ) : Type 0 where
  identity : is_identity kind ≡ true → record_of kind rest ≡ Identity kind → body_length kind ≡ kind * 4 → Told kind rest
  svid : kind ≡ svid_kind → record_of kind rest ≡ Svid (svid_in rest) → body_length kind ≡ 2 → Told kind rest
  mode : kind ≡ mode_kind → record_of kind rest ≡ Mode (mode_in rest) → body_length kind ≡ 4 → Told kind rest
  end : kind ≡ end_kind → record_of kind rest ≡ End → body_length kind ≡ 0 → Told kind rest

pub told : (kind : ℕ) (rest : List ℕ) → is_known kind ≡ true → Told kind rest
told kind rest known = go (is_identity kind) (eqb kind svid_kind) (eqb kind mode_kind) refl refl refl
  where
    go : (i s m : Bool) → is_identity kind ≡ i → eqb kind svid_kind ≡ s → eqb kind mode_kind ≡ m → Told kind rest
    go true s m ei es em = identity ei (of_identity kind rest ei) (length_identity kind ei)
    go false true m ei es em =
        let e = eqb-true kind svid_kind es in
        svid e (of_svid kind rest ei e) (length_svid kind ei e)
    go false false true ei es em =
        let e = eqb-true kind mode_kind em in
        let other : kind ≡ svid_kind → ⊥ = eqb-false kind svid_kind es in
        mode e (of_mode kind rest ei other e) (length_mode kind ei other e)
    go false false false ei es em =
        let no_svid : kind ≡ svid_kind → ⊥ = eqb-false kind svid_kind es in
        let no_mode : kind ≡ mode_kind → ⊥ = eqb-false kind mode_kind em in
        end (eqb-true kind end_kind (sym (known_other kind ei no_svid no_mode) ∙ known)) (of_other kind rest ei no_svid no_mode) (length_other kind ei no_svid no_mode)
