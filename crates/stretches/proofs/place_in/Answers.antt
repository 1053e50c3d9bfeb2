-- `place_in` meets its promise.
use mathlib.Core.Path.{sym, ◌∙◌}
use native.Mathlib.Omega.{arith}
use Rattle.stretches.proofs.Placing.{place_found, place_further, place_nowhere}
use Rattle.stretches.proofs.place_in.Goals as goal

pub returns-then-svids-i : goal.returns-then-svids-i
returns-then-svids-i c =
    λ entries noted_as.
    sym (place_found noted_as c.requires.1 c.loop-i.i c.loop-i-test.true c.args.svid c.loop-i.at _ c.from-number.ensures c.if-svids-i.true) ∙
    c.loop-i.invariant.1 entries noted_as

pub loop-i-preserved : goal.loop-i-preserved
loop-i-preserved c = (
  omega (arith, c.loop-i.invariant.0, c.from-number.ensures, c.fits-numbers c.loop-i.i),
  λ entries noted_as.
      sym (place_further noted_as c.requires.1 c.loop-i.i c.loop-i-test.true c.args.svid c.loop-i.at _ c.from-number.ensures c.if-svids-i.false) ∙
      c.loop-i.invariant.1 entries noted_as,
)

pub returns : goal.returns
returns c =
    λ entries noted_as.
    sym (place_nowhere c.args.svid c.loop-i.at entries c.loop-i.i (omega (arith, noted_as.count_is, c.loop-i-test.false))) ∙
    c.loop-i.invariant.1 entries noted_as
