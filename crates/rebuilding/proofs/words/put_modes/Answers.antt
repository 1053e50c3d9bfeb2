-- `put_modes` meets its promise: the entries that are left, put from where the loop stands, give what all of them give at the start.
use native.Mathlib.Omega.{arith}
use Rattle.rebuilding.proofs.Putting.{modes_start, modes_next, modes_end}
use Rattle.rebuilding.proofs.words.put_modes.Goals as goal

pub loop-i-init : goal.loop-i-init
loop-i-init c = modes_start _ _ _ _ c.requires.0

pub loop-i-preserved : goal.loop-i-preserved
loop-i-preserved c =
    modes_next _ _ _ _ _ _ _ c.loop-i.invariant c.loop-i-test.true c.requires.1 _ c.from-number.ensures (omega (arith, c.from-number.ensures, c.fits-numbers c.loop-i.i)) _ c.put_words.ensures

pub returns : goal.returns
returns c = modes_end _ _ _ _ _ _ _ c.loop-i.invariant c.loop-i-test.false
