-- `policy_answer` meets its promise: it must name the request that waits, and then policy's word is followed.
use mathlib.Core.Path.{sym, ◌∙◌}
use Rattle.messages.specs.declared.refusal.Refusal.TheVariants.{NotNow}
use Rattle.dock.specs.Dock.{decide_policy}
use Rattle.dock.specs.declared.Policy.TheVariants.{Give, Nak, Busy}
use Rattle.dock.proofs.Decisions.{answer_standing, answer_other, answer_policy}
use Rattle.dock.proofs.Steps.{refuse, same}
use Rattle.answering.proofs.policy_answer.Goals as goal

pub returns-in_default : goal.returns-in_default
returns-in_default c = let a = c.args in
    refuse a.dock _ a.out.now NotNow (answer_standing a.dock a.request a.objects.now a.policy a.dock.standing c.in_default.not-Asking)

pub returns-then-not-same_request : goal.returns-then-not-same_request
returns-then-not-same_request c = let a = c.args in
    refuse a.dock _ a.out.now NotNow
    (answer_other a.dock a.request a.objects.now a.policy a.dock.standing _ c.in-Asking.is
    (sym c.same_request.ensures ∙ c.if-not-same_request.true))

pub returns-in-Give : goal.returns-in-Give
returns-in-Give c = let a = c.args in
    same a.dock _ _ a.out.now _ _
    (answer_policy a.dock a.request a.objects.now a.policy a.dock.standing _ c.in-Asking.is
    (sym c.same_request.ensures ∙ c.if-not-same_request.false) Give c.in-Give.is) c.give.ensures

pub returns-in-Nak : goal.returns-in-Nak
unfolding decide_policy
returns-in-Nak c = let a = c.args in
    same a.dock _ _ a.out.now _ _
    (answer_policy a.dock a.request a.objects.now a.policy a.dock.standing _ c.in-Asking.is
    (sym c.same_request.ensures ∙ c.if-not-same_request.false) Nak c.in-Nak.is) c.decline.ensures

pub returns-in-Busy : goal.returns-in-Busy
unfolding decide_policy
returns-in-Busy c = let a = c.args in
    same a.dock _ _ a.out.now _ _
    (answer_policy a.dock a.request a.objects.now a.policy a.dock.standing _ c.in-Asking.is
    (sym c.same_request.ensures ∙ c.if-not-same_request.false) Busy c.in-Busy.is) c.decline-in-Busy.ensures
