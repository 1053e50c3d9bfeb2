-- `put_object` meets its promise.
use mathlib.Core.Path.{◌∙◌}
use native.Mathlib.Omega.{arith}
use Rattle.laws.proofs.Stores.{put_part}
use Rattle.messages.specs.Layout.{bytes_of_object}
use Rattle.writing.proofs.put_object.Goals as goal

pub returns : goal.returns
unfolding bytes_of_object
returns c = put_part c.args.at _ c.args.out.now _ _ (c.copy_from_slice.ensures.after ∙ c.bytes_of.ensures) (omega arith) (omega (arith, c.requires))
