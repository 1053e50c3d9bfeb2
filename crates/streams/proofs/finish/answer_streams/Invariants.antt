use Rattle.std.proofs.Common.{◌≤◌}
use Rattle.streams.proofs.finish.answer_streams.Given as goal

abbrev pub invariant-loop-stream : goal.invariant-loop-stream
invariant-loop-stream g l = l.finish.answered ≤ 1000000
