-- `passed` meets its promise.
use mathlib.Core.Path.{refl, ap, sym, ◌∙◌}
use Rattle.records.specs.declared.Record.TheVariants.{Identity, Svid, Mode, End}
use Rattle.judging.specs.Noting.{svids_noted, numbers_noted}
use Rattle.judging.specs.Walking.{may_follow}
use Rattle.judging.proofs.Following.{listed_as, added_under}
use Rattle.judging.proofs.Noted.{noted_as}
use Rattle.judging.proofs.walk.Walk.passed.Goals as goal

pub listed-requires : goal.listed-requires
listed-requires c =
    let pre = c.requires in
    (pre.0, (listed_as c.args.self pre.3.0 _ (sym (ap (may_follow c.args.self pre.3.0) c.in-Svid.is) ∙ pre.3.1)).room)

pub with_mode-requires : goal.with_mode-requires
with_mode-requires c =
    let pre = c.requires in
    let under = added_under c.args.self pre.3.0 _ (sym (ap (may_follow c.args.self pre.3.0) c.in-Mode.is) ∙ pre.3.1) in
    (pre.0, under.0, pre.1, under.1, pre.2)

pub returns-in-Identity : goal.returns-in-Identity
unfolding svids_noted numbers_noted
returns-in-Identity c =
    noted_as c.args.self c.args.length _ _ _ (Identity _) c.in-Identity.is _ _ _ c.identified.ensures refl refl

pub returns-in-Svid : goal.returns-in-Svid
unfolding svids_noted numbers_noted
returns-in-Svid c =
    let done = c.listed.ensures in
    noted_as c.args.self c.args.length _ _ _ (Svid _) c.in-Svid.is _ _ _ done.0 done.1 done.2

pub returns-in-Mode : goal.returns-in-Mode
unfolding svids_noted numbers_noted
returns-in-Mode c =
    let done = c.with_mode.ensures in
    noted_as c.args.self c.args.length _ _ _ (Mode _) c.in-Mode.is _ _ _ (done.0 _) refl done.1

pub returns-in-End : goal.returns-in-End
unfolding svids_noted numbers_noted
returns-in-End c =
    noted_as c.args.self c.args.length _ _ _ End c.in-End.is _ _ _ c.ended.ensures refl refl
