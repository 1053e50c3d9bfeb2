-- `copy_modes` meets its promise.
use mathlib.Core.Path.{ap, sym, ◌∙◌}
use native.Mathlib.Omega.{arith}
use lib.ListN.{length}
use Rattle.publishing.proofs.Copying.{copy_step, copy_end, length_copied_to}
use Rattle.publishing.proofs.publishing.copy_modes.Goals as goal

pub loop-k-preserved : goal.loop-k-preserved
loop-k-preserved c =
    let a = c.args in
    let loop = c.loop-k in (
      ap length c.copy_word.ensures ∙ length_copied_to a.modes.now a.run.now loop.held_run loop.k ∙ loop.invariant.0,
      loop.invariant.1 ∙ copy_step a.modes.now a.run.now loop.held_run _ loop.k c.copy_word.ensures,
    )

pub shape_of-held_run : goal.shape_of-held_run
shape_of-held_run c = c.loop-k.invariant.0

pub returns : goal.returns
returns c =
    let a = c.args in
    sym (c.loop-k.invariant.1 ∙ copy_end a.modes.now a.run.now c.loop-k.held_run c.loop-k.k (omega arith))
