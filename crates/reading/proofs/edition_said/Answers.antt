-- `edition_said` meets its promise.
use native.Mathlib.Omega.{arith}
use Rattle.messages.specs.Layout.{edition_said, major, minor}
use Rattle.messages.proofs.Editions.{major_zero, minor_zero, minor_above}
use Rattle.reading.proofs.edition_said.Goals as goal

pub returns-then-header-eq0 : goal.returns-then-header-eq0
unfolding edition_said
returns-then-header-eq0 c = major_zero (major c.args.header) (minor c.args.header) (omega (arith, c.if-header-eq0.true))

pub returns-then-header-eq0-2 : goal.returns-then-header-eq0-2
unfolding edition_said
returns-then-header-eq0-2 c = minor_zero (major c.args.header) (minor c.args.header) (λ z. omega (arith, z, c.if-header-eq0.false)) (omega (arith, c.if-header-eq0-2.true))

pub returns : goal.returns
unfolding edition_said
returns c = minor_above (major c.args.header) (minor c.args.header) (λ z. omega (arith, z, c.if-header-eq0.false)) (λ z. omega (arith, z, c.if-header-eq0-2.false))
