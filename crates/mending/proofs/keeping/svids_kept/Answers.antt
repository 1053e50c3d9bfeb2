-- `svids_kept` meets its promise.
use mathlib.Core.Path.{sym, ◌∙◌}
use mathlib.Core.Bool.{true, false}
use native.Mathlib.Omega.{arith}
use Rattle.mending.proofs.Counting.{bare_one, kept_test}
use Rattle.mending.proofs.keeping.svids_kept.Goals as goal

pub overflow_sub-result : goal.overflow_sub-result
overflow_sub-result c = omega (arith, bare_one c.args.walk (sym c.is_bare.ensures ∙ c.if-is_bare.true))

pub returns-then-is_bare : goal.returns-then-is_bare
returns-then-is_bare c = sym (kept_test _ true (sym c.is_bare.ensures ∙ c.if-is_bare.true))

pub returns-else-is_bare : goal.returns-else-is_bare
returns-else-is_bare c = sym (kept_test _ false (sym c.is_bare.ensures ∙ c.if-is_bare.false))
