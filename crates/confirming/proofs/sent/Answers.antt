-- `sent` meets its promise.
use mathlib.Core.List.{[]}
use Rattle.messages.specs.declared.refusal.Refusal.TheVariants.{NotNow}
use Rattle.dock.proofs.Decisions.{sent_standing, sent_moves}
use Rattle.dock.proofs.Steps.{refuse, accept}
use Rattle.confirming.proofs.sent.Goals as goal

pub returns-in_default : goal.returns-in_default
returns-in_default c = let d = c.args.dock in (refuse d _ [] NotNow (sent_standing d d.standing c.in_default.not-Sending)).step_is

pub returns : goal.returns
returns c = let d = c.args.dock in (accept d _ [] _ _ (sent_moves d d.standing _ c.in-Sending.is) c.move_on.ensures).step_is
