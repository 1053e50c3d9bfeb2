-- `message` meets its promise.
use Rattle.port.proofs.Calling.{heard_on}
use Rattle.port.proofs.arrival.message.Goals as goal

pub returns : goal.returns
returns c = heard_on c.args.side c.args.port _ _ c.seen.ensures c.message-heard.ensures c.given_on.ensures
