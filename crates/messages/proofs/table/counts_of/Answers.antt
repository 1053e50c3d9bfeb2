-- `counts_of` meets its promise, by halves.
use native.Mathlib.Omega.{arith}
use mathlib.Core.Path.{◌∙◌}
use Rattle.messages.proofs.Rows.{counts_low, counts_high}
use Rattle.messages.proofs.table.counts_of.Goals as goal

pub returns-then-kind-lt2 : goal.returns-then-kind-lt2
returns-then-kind-lt2 c = c.byte_of.ensures ∙ counts_low c.args.row c.args.kind c.if-kind-lt2.true

pub returns-else-kind-lt2 : goal.returns-else-kind-lt2
returns-else-kind-lt2 c = c.byte_of-else-kind-lt2.ensures ∙
    counts_high c.args.row c.args.kind (omega (arith, c.struct_known-else-kind-lt2-1.given)) c.if-kind-lt2.false c.requires
