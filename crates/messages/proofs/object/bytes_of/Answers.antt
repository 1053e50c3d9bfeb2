-- `bytes_of` meets its promise.
use mathlib.Core.Path.{◌∙◌}
use Rattle.messages.proofs.Stores.{object_bytes}
use Rattle.messages.proofs.object.bytes_of.Goals as goal

pub returns : goal.returns
returns c = c.to_le_bytes.ensures ∙ object_bytes c.args.object
