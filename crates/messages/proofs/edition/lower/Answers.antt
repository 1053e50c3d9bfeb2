-- `lower` meets its promise.
use Rattle.messages.proofs.Editions.{lower_first, lower_second}
use Rattle.messages.proofs.edition.lower.Goals as goal

pub returns-then-from : goal.returns-then-from
returns-then-from c = lower_first c.args.a c.args.b c.from.ensures c.from-2.ensures c.if-from.true

pub returns-else-from : goal.returns-else-from
returns-else-from c = lower_second c.args.a c.args.b c.from.ensures c.from-2.ensures c.if-from.false
