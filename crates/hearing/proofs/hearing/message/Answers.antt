-- `message` meets its promise: the answer of reading is taken apart, and each case of it is a way out of the
-- definition.
use mathlib.Core.Path.{refl, ap, sym, ◌∙◌}
use Rattle.std.specs.Prelude.{Ok, Err}
use Rattle.messages.specs.Reading.{read_outcome, as_shown}
use Rattle.messages.specs.Refusals.{number_of}
use Rattle.messages.proofs.Laws.{shown_refused}
use Rattle.laptop.specs.State.{memory}
use Rattle.hearing.proofs.Outcomes.{count_few, words_padded, heard_short, heard_refused, heard_request, heard_unawaited, heard_answer, results}
use Rattle.hearing.proofs.hearing.message.Goals as goal

pub returns-then-short_runs : goal.returns-then-short_runs
returns-then-short_runs c =
    let a = c.args in
    let m = memory a.svids.now a.modes.now a.identity.now a.run.now a.held_svids.now a.held_modes.now a.held_identity.now a.held_run.now a.entered.now in
    let e = results _ _ (heard_short a.laptop m (read_outcome a.bytes.now) (sym c.short_runs.ensures ∙ c.if-short_runs.true)) in
    (c.refuse.ensures ∙ e.0, e.1)

pub returns-in_default : goal.returns-in_default
returns-in_default c =
    let a = c.args in
    let refusal = c.unwrap_err.result in
    let m = memory a.svids.now a.modes.now a.identity.now a.run.now a.held_svids.now a.held_modes.now a.held_identity.now a.held_run.now a.entered.now in
    let long = sym c.short_runs.ensures ∙ c.if-short_runs.false in
    let read = ap as_shown (sym c.unwrap_err.ensures) ∙ c.read-read.ensures in
    let is = shown_refused (read_outcome a.bytes.now) (as_shown (Err refusal)) (number_of refusal) read refl in
    let e = results _ _ (heard_refused a.laptop m long (read_outcome a.bytes.now) _ is) in
    (c.refuse-in_default.ensures ∙ e.0, e.1)

pub returns-then-head-eq-REQ : goal.returns-then-head-eq-REQ
returns-then-head-eq-REQ c =
    let a = c.args in
    let read = as_shown (Ok c.in-Ok.received) in
    let m = memory a.svids.now a.modes.now a.identity.now a.run.now a.held_svids.now a.held_modes.now a.held_identity.now a.held_run.now a.entered.now in
    let long = sym c.short_runs.ensures ∙ c.if-short_runs.false in
    let e = results _ _ (heard_request a.laptop m long a.bytes.now read _ _ _ (ap as_shown (sym c.in-Ok.is) ∙ c.read-read.ensures) refl c.if-head-eq-REQ.true) in
    (c.hear_request.ensures ∙ e.0, e.1)

pub returns-then-not-fits : goal.returns-then-not-fits
returns-then-not-fits c =
    let a = c.args in
    let read = as_shown (Ok c.in-Ok.received) in
    let m = memory a.svids.now a.modes.now a.identity.now a.run.now a.held_svids.now a.held_modes.now a.held_identity.now a.held_run.now a.entered.now in
    let long = sym c.short_runs.ensures ∙ c.if-short_runs.false in
    let other = (sym c.fits.ensures ∙ c.if-not-fits.true) in
    let e = results _ _ (heard_unawaited a.laptop m long a.bytes.now read _ _ _ (ap as_shown (sym c.in-Ok.is) ∙ c.read-read.ensures) refl c.if-head-eq-REQ.false other) in
    (c.hear_unawaited.ensures ∙ e.0, e.1)

pub hear_answer-requires : goal.hear_answer-requires
hear_answer-requires c =
    let a = c.args in
    let read = as_shown (Ok c.in-Ok.received) in
    (count_few a.bytes.now read _ _ _ (ap as_shown (sym c.in-Ok.is) ∙ c.read-read.ensures) refl, words_padded a.bytes.now read _ _ _ (ap as_shown (sym c.in-Ok.is) ∙ c.read-read.ensures) refl)

pub returns : goal.returns
returns c =
    let a = c.args in
    let read = as_shown (Ok c.in-Ok.received) in
    let m = memory a.svids.now a.modes.now a.identity.now a.run.now a.held_svids.now a.held_modes.now a.held_identity.now a.held_run.now a.entered.now in
    let long = sym c.short_runs.ensures ∙ c.if-short_runs.false in
    let awaited = (sym c.fits.ensures ∙ c.if-not-fits.false) in
    results _ _ (heard_answer a.laptop m long a.bytes.now read _ _ _ (ap as_shown (sym c.in-Ok.is) ∙ c.read-read.ensures) refl c.if-head-eq-REQ.false awaited ∙ sym c.hear_answer.ensures)
