-- `record_in` meets its promise.
use mathlib.Core.Path.{sym}
use native.Mathlib.Omega.{arith}
use Rattle.records.proofs.Finding.{in_nothing, end_whole}
use Rattle.records.proofs.record_in.Goals as goal

pub returns-in-empty : goal.returns-in-empty
returns-in-empty c = sym (in_nothing c.args.bytes.now (omega (arith, c.in-empty.len_below)))

pub returns-in-0 : goal.returns-in-0
returns-in-0 c = sym (end_whole c.args.bytes.now c.in-0.len_at_least (omega arith))
