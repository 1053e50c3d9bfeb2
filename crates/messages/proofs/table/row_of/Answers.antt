-- `row_of` meets its promise.
use mathlib.Core.Path.{ap, sym}
use native.Mathlib.Omega.{arith}
use Rattle.messages.specs.Table.{row_of}
use Rattle.messages.proofs.Rows.{row_shared}
use Rattle.messages.proofs.table.row_of.Goals as goal

pub returns-in-1 : goal.returns-in-1
unfolding row_of
returns-in-1 c = sym (ap row_of c.in-1.is)

pub returns-in-2 : goal.returns-in-2
unfolding row_of
returns-in-2 c = sym (ap row_of c.in-2.is)

pub returns-in-3 : goal.returns-in-3
unfolding row_of
returns-in-3 c = sym (ap row_of c.in-3.is)

pub returns-in-4 : goal.returns-in-4
unfolding row_of
returns-in-4 c = sym (ap row_of c.in-4.is)

pub returns-in-5 : goal.returns-in-5
unfolding row_of
returns-in-5 c = sym (ap row_of c.in-5.is)

pub returns-in-6 : goal.returns-in-6
unfolding row_of
returns-in-6 c = sym (ap row_of c.in-6.is)

pub returns-in_default : goal.returns-in_default
returns-in_default c = row_shared c.args.command (λ h. omega arith)
