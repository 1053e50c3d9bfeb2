-- `exports_read` meets its promise: each case of what was read is one of the outcome.
use mathlib.Core.Path.{◌∙◌}
use Rattle.messages.specs.Reading.{read_outcome}
use Rattle.exports.proofs.Laws.{numbers_refused, numbers_accepted}
use Rattle.exports.proofs.exports_read.Goals as goal

pub returns-in-Ok-clause-value : goal.returns-in-Ok-clause-value
returns-in-Ok-clause-value c = (numbers_accepted (read_outcome c.args.bytes.now) _ c.args.into.now c.in-Ok.ensures).0

pub returns-in-Ok-clause-into_after : goal.returns-in-Ok-clause-into_after
returns-in-Ok-clause-into_after c =
    rw (
      c.from-in-Ok.ensures,
      c.from.ensures,
      c.from-in-Ok-2.ensures,
      c.from-in-Ok-3.ensures,
      c.from-in-Ok-4.ensures,
      c.from-in-Ok-5.ensures,
      c.from-in-Ok-6.ensures,
    )
    (numbers_accepted (read_outcome c.args.bytes.now) _ c.args.into.now c.in-Ok.ensures).1

pub returns-in-Err-clause-value : goal.returns-in-Err-clause-value
returns-in-Err-clause-value c = c.from-in-Err.ensures ∙ (numbers_refused (read_outcome c.args.bytes.now) _ c.args.into.now c.in-Err.ensures).0

pub returns-in-Err-clause-into_after : goal.returns-in-Err-clause-into_after
returns-in-Err-clause-into_after c = (numbers_refused (read_outcome c.args.bytes.now) _ c.args.into.now c.in-Err.ensures).1
