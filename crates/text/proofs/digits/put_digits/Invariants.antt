-- `text::digits::put_digits` meets its contract. The digits so far stand behind the place, and those of the rest fit
-- before it.
use Rattle.std.proofs.Common.{◌≡◌, ◌+◌, ◌≤◌, ◌++◌, length, drop}
use Rattle.std.specs.Fmt.{decimal}
use Rattle.text.proofs.digits.put_digits.Given as goal

abbrev pub invariant-loop-rest : goal.invariant-loop-rest
invariant-loop-rest l =
    (l.at ≤ 20) × (length (decimal l.rest) ≤ l.at) × (l.at + length (decimal l.number) ≡ 20 + length (decimal l.rest))
    × (decimal l.rest ++ drop l.at l.digits ≡ decimal l.number)

abbrev pub decreases-loop-rest : goal.decreases-loop-rest
decreases-loop-rest l = l.rest
