-- Two results that the promise of taking a page allows are equal.
use mathlib.Core.Path.{◌≡◌}
use mathlib.Core.List.{List}
use Prim.Native.Nat.{ℕ}
use Rattle.laws.proofs.Tight.{one_value}
use Rattle.taking.specs.Taking.{verdict}
use Rattle.taking.specs.declared.Verdict.{Verdict}

pub judge_only : (list values : List ℕ) (result other : Verdict) → result ≡ verdict list values → other ≡ verdict list values → result ≡ other
judge_only list values result other = one_value
