-- `take_page` meets its promise: what the judge lets in fits.
use mathlib.Core.Path.{sym, ◌∙◌}
use Rattle.taking.proofs.Sizes.{more_fits, ends_fits}
use Rattle.gathering.proofs.gathering.take_page.Goals as goal

pub take_full-requires : goal.take_full-requires
take_full-requires c = more_fits _ c.args.values.now (sym c.judge.ensures ∙ c.in-More.is)

pub take_end-requires : goal.take_end-requires
take_end-requires c = ends_fits _ c.args.values.now _ (sym c.judge.ensures ∙ c.in-Ends.is)
