-- `make_page` meets its promise.
use Prim.Native.Nat.{◌*◌, ℕ}
use mathlib.Core.Path.{ap, ◌∙◌}
use native.Mathlib.Omega.{arith}
use Rattle.pages.specs.Pages.{pairs_from}
use Rattle.pages.proofs.Making.{shown_page_lem, count_is}
use Rattle.pages.proofs.make_page.Goals as goal

pub returns : goal.returns
returns c =
    let l = c.args.list.now in
    let p = c.args.page in
    shown_page_lem l p _ _
    (c.pairs_from.ensures ∙ ap (λ (n : ℕ). pairs_from l (n * 12)) c.from-at.ensures)
    (count_is l p _ (omega (arith, c.min.ensures, c.saturating_sub-rest.ensures, c.from-at.ensures)))
