-- `asking_for` meets its promise.
use mathlib.Core.Path.{◌∙◌}
use Rattle.dock.proofs.Decisions.{asking_identity, asking_other}
use Rattle.receiving.proofs.asking_for.Goals as goal

pub returns-then-request-eq-IDENTITY : goal.returns-then-request-eq-IDENTITY
returns-then-request-eq-IDENTITY c = asking_identity c.args.request c.args.dock c.if-request-eq-IDENTITY.true

pub returns : goal.returns
returns c = c.standing_at.ensures ∙ asking_other c.args.request c.args.dock c.if-request-eq-IDENTITY.false
