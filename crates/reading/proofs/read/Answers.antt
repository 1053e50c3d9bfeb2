-- `read` meets its promise: its ways out are those of the table of refusals.
use native.Mathlib.Omega.{arith}
use Rattle.std.proofs.lemmas.Grind.{common_steps}
use Rattle.messages.proofs.Refusals.{short, long, ragged, right_length, shown_length, shown_refusal, shown_message}
use Rattle.reading.proofs.read.Goals as goal

pub returns-then-n-lt4 : goal.returns-then-n-lt4
returns-then-n-lt4 c = shown_length c.args.bytes.now (grind (arith, short, long, ragged))

pub returns-in_err-header_check : goal.returns-in_err-header_check
returns-in_err-header_check c =
    let is = shown_refusal c.args.bytes.now (grind (arith, right_length)) _ c.object_at-header.ensures _ c.in_err-header_check.ensures in
    grind (is, arith, common_steps)

pub returns : goal.returns
returns c =
    shown_message c.args.bytes.now (grind (arith, right_length)) _ c.object_at-header.ensures c.in_ok-header_check.ensures
    _ _ _ c.edition_said.ensures c.head_of.ensures c.objects_in.ensures
