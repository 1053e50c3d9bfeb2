-- A result that a promise of judging allows is the only one.
use mathlib.Core.Path.{◌≡◌, sym, ◌∙◌}
use mathlib.Core.Bool.{Bool}
use mathlib.Core.List.{List}
use Prim.Native.Nat.{ℕ}
use Rattle.laws.proofs.Tight.{one_value}
use Rattle.judging.specs.Judging.{FileJudged}
use Rattle.judging.specs.Walking.{is_bare}
use Rattle.judging.specs.Judging.{Judged}
use Rattle.judging.specs.declared.walk.Walk.{Walk}

pub judge_only : (bytes : List ℕ) (result other : Judged) (svids svids' numbers numbers' : List ℕ) → FileJudged bytes result svids numbers →
    FileJudged bytes other svids' numbers' → (result ≡ other) × (svids ≡ svids') × (numbers ≡ numbers')
judge_only bytes result other svids svids' numbers numbers' p q =
    (p.result_is ∙ sym q.result_is, p.svids_are ∙ sym q.svids_are, p.numbers_are ∙ sym q.numbers_are)

pub bare_only : (walk : Walk) (result other : Bool) → result ≡ is_bare walk → other ≡ is_bare walk → result ≡ other
bare_only walk result other = one_value
