-- `move_on` meets its promise.
use mathlib.Core.Path.{◌≡◌, ◌∙◌}
use mathlib.Core.Bool.{false}
use native.Mathlib.Omega.{arith}
use Rattle.std.proofs.lemmas.Grind.{common_steps}
use Rattle.pages.specs.Pages.{is_last}
use Rattle.dock.specs.Data.{listed}
use Rattle.dock.proofs.Decisions.{moved_on, moved_last, moved_other, next_fits}
use borrow.Author.Rules.{rules}
use Rattle.confirming.proofs.move_on.Goals.{then-not-paged-via-then-not-paged, then-not-paged-via-else-not-paged+then-is_last}
use Rattle.confirming.proofs.move_on.Goals as goal

pub returns-then-not-paged : goal.returns-then-not-paged
returns-then-not-paged c = let d = c.args.dock in
    c.standing_at.ensures ∙
    elim c.then-not-paged.branch [
      | then-not-paged-via-then-not-paged w ↦ moved_other d c.args.paged w.if-not-paged.true
      | then-not-paged-via-else-not-paged+then-is_last w ↦ moved_last d c.args.paged (grind (arith, common_steps))
    ]

pub overflow_add-result : goal.overflow_add-result
overflow_add-result c = let d = c.args.dock in
    let more : is_last (listed d) d.page ≡ false = grind (arith, common_steps) in
    omega (arith, next_fits d (search rules) more)

pub returns : goal.returns
returns c = let d = c.args.dock in
    let more : is_last (listed d) d.page ≡ false = grind (arith, common_steps) in
    moved_on d c.args.paged c.if-not-paged.false more
