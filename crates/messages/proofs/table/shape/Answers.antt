-- `shape` meets its promise.
use mathlib.Core.Path.{ap, ◌∙◌}
use Rattle.messages.specs.Table.{fits}
use Rattle.messages.specs.declared.table.Row.{Row}
use Rattle.messages.proofs.Rows.{shape_past, shape_typeless, shape_fits}
use Rattle.messages.proofs.table.shape.Goals as goal

pub returns-then-command-ge-COMMANDS : goal.returns-then-command-ge-COMMANDS
returns-then-command-ge-COMMANDS c = shape_past c.args.head c.args.count c.if-command-ge-COMMANDS.true

pub returns-then-head-ge-TYPES : goal.returns-then-head-ge-TYPES
returns-then-head-ge-TYPES c = shape_typeless c.args.head c.args.count c.if-command-ge-COMMANDS.false c.if-head-ge-TYPES.true

pub returns : goal.returns
returns c = let a = c.args in
    c.fits.ensures ∙ ap (λ (r : Row). fits r a.head a.count) c.row_of.ensures ∙
    shape_fits a.head a.count c.if-command-ge-COMMANDS.false c.if-head-ge-TYPES.false
