-- The number of bytes of a record: the end has one, and the longest, an identity of six objects, has 25.
use mathlib.Core.Path.{◌≡◌}
use mathlib.Core.List.{List}
use Prim.Native.Nat.{ℕ, ◌<◌, ◌≤◌}
use native.Mathlib.Omega.{arith}
use Rattle.records.specs.Records.{body_length, record_of, found_in}
use Rattle.records.specs.Records.{Whole}
use Rattle.records.specs.declared.Record.{Record}
use Rattle.records.specs.declared.Record.TheVariants.{End}
use Rattle.records.proofs.Bodies.{identity_bounds}
use Rattle.records.proofs.Laws.{whole, Told, told}
use Rattle.records.proofs.Laws.Told.{identity, svid, mode, end}
use Rattle.catalogue_laws.specs.Within.{longest_record}

body_end : (kind : ℕ) (rest : List ℕ) → Told kind rest → End ≡ record_of kind rest → body_length kind ≡ 0
body_end kind rest (identity i e l) is = absurd (let z : ◌≡◌ {A = ℕ} 0 1 = cc in omega arith)
body_end kind rest (svid k e l) is = absurd (let z : ◌≡◌ {A = ℕ} 0 1 = cc in omega arith)
body_end kind rest (mode k e l) is = absurd (let z : ◌≡◌ {A = ℕ} 0 1 = cc in omega arith)
body_end kind rest (end k e l) is = l

pub end_length : (bytes : List ℕ) (n : ℕ) → found_in bytes ≡ Whole End n → n ≡ 1
end_length bytes n e =
    let w = whole bytes End n e in
    omega (arith, w.length_is, body_end w.kind w.rest (told w.kind w.rest w.known) w.record_is)

body_most : (kind : ℕ) (rest : List ℕ) → Told kind rest → body_length kind < longest_record
body_most kind rest (identity i e l) = omega (arith, (identity_bounds kind i).1)
body_most kind rest (svid k e l) = omega arith
body_most kind rest (mode k e l) = omega arith
body_most kind rest (end k e l) = omega arith

pub record_most : (bytes : List ℕ) (r : Record) (n : ℕ) → found_in bytes ≡ Whole r n → n ≤ longest_record
record_most bytes r n e =
    let w = whole bytes r n e in
    omega (arith, w.length_is, body_most w.kind w.rest (told w.kind w.rest w.known))
