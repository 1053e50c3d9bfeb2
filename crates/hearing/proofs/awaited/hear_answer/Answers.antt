-- `hear_answer` meets its promise.
use mathlib.Core.Path.{refl, sym, ◌∙◌}
use Rattle.std.specs.Prelude.{Ok}
use Rattle.laptop.specs.State.{memory}
use Rattle.laptop.specs.Step.{stepped}
use Rattle.hearing.proofs.Parts.{answer_mode, answer_kept, answer_published, part_refused}
use Rattle.hearing.proofs.awaited.hear_answer.Goals as goal

pub returns-then-not-brings_part : goal.returns-then-not-brings_part
returns-then-not-brings_part c =
    let a = c.args in
    let r = a.received.now in
    let m = memory a.svids.now a.modes.now a.identity.now a.run.now a.held_svids.now a.held_modes.now a.held_identity.now a.held_run.now a.entered.now in
    let other = (sym c.brings_part.ensures ∙ c.if-not-brings_part.true) in
    answer_mode a.laptop m r.edition r.head r.count r.objects c.requires.0 c.requires.1 other _ c.from.ensures _ refl _ _ c.hear_mode.ensures.0 c.hear_mode.ensures.1

pub returns-in-Err : goal.returns-in-Err
returns-in-Err c =
    let a = c.args in
    let r = a.received.now in
    let m = memory a.svids.now a.modes.now a.identity.now a.run.now a.held_svids.now a.held_modes.now a.held_identity.now a.held_run.now a.entered.now in
    let refused = c.in-Err.refused in
    let part = (sym c.brings_part.ensures ∙ c.if-not-brings_part.false) in
    let gathered = c.in-Err.ensures a.held_svids.now a.held_modes.now a.held_identity.now a.held_run.now a.entered.now in
    let kept = part_refused a.laptop m r.edition r.head.command r.head.kind r.count r.objects refused _ gathered in
    answer_kept a.laptop m r.edition r.head r.count r.objects c.requires.0 c.requires.1 part _ _ gathered kept

pub returns-then-not-completes : goal.returns-then-not-completes
returns-then-not-completes c =
    let a = c.args in
    let r = a.received.now in
    let m = memory a.svids.now a.modes.now a.identity.now a.run.now a.held_svids.now a.held_modes.now a.held_identity.now a.held_run.now a.entered.now in
    let part = (sym c.brings_part.ensures ∙ c.if-not-brings_part.false) in
    let gathered = c.in-Ok.ensures a.held_svids.now a.held_modes.now a.held_identity.now a.held_run.now a.entered.now in
    answer_kept a.laptop m r.edition r.head r.count r.objects c.requires.0 c.requires.1 part _ _ gathered ((sym c.completes.ensures ∙ c.if-not-completes.true))

pub returns : goal.returns
returns c =
    let a = c.args in
    let r = a.received.now in
    let m = memory a.svids.now a.modes.now a.identity.now a.run.now a.held_svids.now a.held_modes.now a.held_identity.now a.held_run.now a.entered.now in
    let part = (sym c.brings_part.ensures ∙ c.if-not-brings_part.false) in
    let gathered = c.in-Ok.ensures a.held_svids.now a.held_modes.now a.held_identity.now a.held_run.now a.entered.now in
    let whole = (sym c.completes.ensures ∙ c.if-not-completes.false) in
    let last = c.publish-laptop.ensures (stepped (Ok c.in-Ok.accepted)) in
    answer_published a.laptop m r.edition r.head r.count r.objects c.requires.0 c.requires.1 part _ _ gathered whole _ _ _ _ _ last
