-- `put_objects` meets its promise.
use mathlib.Core.Path.{refl}
use Rattle.messages.specs.Layout.{bytes_of}
use Rattle.messages.proofs.Stores.{store_step}
use Rattle.writing.proofs.put_objects.Goals as goal

pub loop-i-init : goal.loop-i-init
unfolding bytes_of
loop-i-init c = refl

pub loop-i-preserved : goal.loop-i-preserved
loop-i-preserved c = store_step c.args.out.now c.loop-i.out _ c.args.objects.now c.loop-i.i c.loop-i-test.true c.loop-i.invariant c.put_object.ensures
