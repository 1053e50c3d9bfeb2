-- `dock_fresh` meets its promise.
use mathlib.Core.Path.{ap, ◌∙◌}
use Rattle.dock.specs.declared.Dock.{Dock}
use Rattle.controller.specs.Dock.{dock_numbers}
use Rattle.controller.proofs.dock_calls.dock_fresh.Goals as goal

pub returns : goal.returns
returns c = (c.dock_numbers.ensures ∙ ap dock_numbers c.fresh-dock.ensures, ap (λ (d : Dock). d.identity) c.fresh-dock.ensures, ap (λ (d : Dock). d.svids) c.fresh-dock.ensures)
