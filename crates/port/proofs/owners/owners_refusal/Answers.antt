-- `owners_refusal` meets its promise.
use mathlib.Core.Path.{sym, ◌∙◌}
use Rattle.port.specs.Calls.{owners_refusal}
use Rattle.port.proofs.owners.owners_refusal.Goals as goal

pub returns-then-short_runs : goal.returns-then-short_runs
unfolding owners_refusal
returns-then-short_runs c = rw (sym c.short_runs.ensures ∙ c.if-short_runs.true)

pub returns-in-Some : goal.returns-in-Some
unfolding owners_refusal
returns-in-Some c = rw (sym c.short_runs.ensures ∙ c.if-short_runs.false, c.in-Some.is)

pub returns-in-None : goal.returns-in-None
unfolding owners_refusal
returns-in-None c = rw (sym c.short_runs.ensures ∙ c.if-short_runs.false, c.in-None.is)
