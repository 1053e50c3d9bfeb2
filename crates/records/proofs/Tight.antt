-- A result that a promise of the record reader allows is the only one.
use mathlib.Core.Path.{◌≡◌, ap₂, sym, ◌∙◌}
use mathlib.Core.List.{List}
use Prim.Native.Nat.{ℕ}
use denote.Ref.{Bor}
use Rattle.laws.proofs.Tight.{one_value}
use Rattle.records.specs.Records.{found_at, found_number}
use Rattle.records.specs.Records.{Found}
use Rattle.records.specs.declared.reader.Reader.{Reader}

-- a reader that is made, or moved
pub reader_only : (bytes : Bor (List ℕ)) (at : ℕ) (result other : Reader) → (result.bytes ≡ bytes) × (result.at ≡ at) → (other.bytes ≡ bytes) × (other.at ≡ at) →
    result ≡ other
reader_only bytes at result other p q =
    ap₂ (λ (b : Bor (List ℕ)) (n : ℕ). record { bytes = b; at = n }) (p.0 ∙ sym q.0) (p.1 ∙ sym q.1)

-- what stands at an offset, by a reader or by the bytes, and its number
pub found_only : (bytes : List ℕ) (at : ℕ) (result other : Found) → result ≡ found_at bytes at → other ≡ found_at bytes at → result ≡ other
found_only bytes at result other = one_value

pub number_only : (found : Found) (result other : ℕ) → result ≡ found_number found → other ≡ found_number found → result ≡ other
number_only found result other = one_value
