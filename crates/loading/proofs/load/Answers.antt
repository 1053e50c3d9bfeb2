-- `load` meets its promise.
use Rattle.dock.specs.Data.{loaded}
use mathlib.Core.List.{[]}
use Rattle.dock.proofs.Decisions.{data_fits}
use Rattle.dock.proofs.Steps.{refuse, accept}
use mathlib.Core.Path.{◌≡◌, sym, ◌∙◌}
use Rattle.std.proofs.Common.{rules}
use Rattle.messages.specs.declared.refusal.Refusal.TheVariants.{NotNow, BadData}
use Rattle.dock.specs.declared.Standing.TheVariants.{Ready}
use Rattle.dock.proofs.Decisions.{load_standing, load_good, load_bad}
use Rattle.loading.proofs.load.Goals as goal

pub returns-then-ne : goal.returns-then-ne
returns-then-ne c = let a = c.args in
    (refuse a.dock _ [] NotNow (load_standing a.dock a.dock.standing a.identity.now a.svids.now (search rules))).step_is

pub returns-then-not-good_data : goal.returns-then-not-good_data
returns-then-not-good_data c = let a = c.args in
    let ready : a.dock.standing ≡ Ready = search rules in
    (refuse a.dock _ [] BadData (load_bad a.identity.now a.svids.now a.dock a.dock.standing ready (sym c.good_data.ensures ∙ c.if-not-good_data.true))).step_is

pub dock_of-requires : goal.dock_of-requires
dock_of-requires c = data_fits _ _ (sym c.good_data.ensures ∙ c.if-not-good_data.false)

pub returns : goal.returns
returns c = let a = c.args in
    let ready : a.dock.standing ≡ Ready = search rules in
    (accept a.dock _ [] (loaded a.dock.edition a.identity.now a.svids.now) _
    (load_good a.identity.now a.svids.now a.dock a.dock.standing ready (sym c.good_data.ensures ∙ c.if-not-good_data.false)) c.dock_of.ensures).step_is
