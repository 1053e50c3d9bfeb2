-- `may_follow` meets its promise.
use mathlib.Core.Path.{ap, sym, ◌∙◌}
use lib.ListN.{take}
use Rattle.judging.specs.Walking.{may_follow}
use Rattle.judging.proofs.walk.Walk.may_follow.Goals as goal

pub returns-in-Identity : goal.returns-in-Identity
unfolding may_follow
returns-in-Identity c =
    sym (ap (may_follow c.args.self (take c.args.self.count c.args.svids.now)) c.in-Identity.is)

pub returns-in-Svid : goal.returns-in-Svid
returns-in-Svid c =
    c.may_list.ensures ∙ sym (ap (may_follow c.args.self (take c.args.self.count c.args.svids.now)) c.in-Svid.is)

pub returns-in-Mode : goal.returns-in-Mode
returns-in-Mode c =
    c.may_add.ensures c.in-Mode.field-0 _ ∙ sym (ap (may_follow c.args.self (take c.args.self.count c.args.svids.now)) c.in-Mode.is)

pub returns-in-End : goal.returns-in-End
returns-in-End c =
    c.may_end.ensures _ ∙ sym (ap (may_follow c.args.self (take c.args.self.count c.args.svids.now)) c.in-End.is)
