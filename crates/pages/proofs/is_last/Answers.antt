-- `is_last` meets its promise.
use Rattle.pages.proofs.Making.{last_is}
use Rattle.pages.proofs.is_last.Goals as goal

pub returns : goal.returns
returns c = rw c.from.ensures (last_is c.args.list.now c.args.page)
