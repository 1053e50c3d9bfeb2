-- `header_of` meets its promise.
use native.Mathlib.Omega.{arith}
use Rattle.messages.specs.Layout.{header_of}
use Rattle.messages.proofs.Editions.{version_below}
use Rattle.writing.proofs.header_of.Goals as goal

pub overflow_add-result : goal.overflow_add-result
overflow_add-result c = omega (arith, c.version_of.ensures, (version_below c.args.edition).0, (version_below c.args.edition).1, c.struct_known-1.given)

pub overflow_add-result-2 : goal.overflow_add-result-2
overflow_add-result-2 c = omega (arith, c.version_of.ensures, (version_below c.args.edition).0, (version_below c.args.edition).1, c.requires.0, c.requires.1, c.requires.2, c.struct_known-1.given)

pub overflow_add-result-3 : goal.overflow_add-result-3
overflow_add-result-3 c = omega (arith, c.version_of.ensures, (version_below c.args.edition).0, (version_below c.args.edition).1, c.requires.0, c.requires.1, c.requires.2, c.struct_known-1.given)

pub overflow_add-result-4 : goal.overflow_add-result-4
overflow_add-result-4 c = omega (arith, c.version_of.ensures, (version_below c.args.edition).0, (version_below c.args.edition).1, c.requires.0, c.requires.1, c.requires.2, c.struct_known-1.given)

pub returns : goal.returns
unfolding header_of
returns c = omega (arith, c.version_of.ensures)
