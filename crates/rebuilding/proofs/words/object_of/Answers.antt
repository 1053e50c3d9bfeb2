-- `object_of` meets its promise.
use mathlib.Core.Path.{◌∙◌}
use Rattle.messages.specs.Layout.{objects_of}
use Rattle.rebuilding.proofs.Putting.{object_within, object_none}
use Rattle.rebuilding.proofs.words.object_of.Goals as goal

pub returns-then-i-extent : goal.returns-then-i-extent
returns-then-i-extent c =
    c.object_at.ensures ∙ object_within c.args.extent (objects_of c.args.body.now) c.args.i c.if-i-extent.true

pub returns-else-i-extent : goal.returns-else-i-extent
returns-else-i-extent c =
    object_none c.args.extent (objects_of c.args.body.now) c.args.i c.if-i-extent.false
