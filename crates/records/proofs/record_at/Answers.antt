-- `record_at` meets its promise.
use mathlib.Core.Path.{◌≡◌, ap, ◌∙◌, sym}
use Prim.Native.Nat.{◌<◌, ◌≤◌}
use native.Mathlib.Omega.{arith}
use lib.ListN.{length, drop}
use Rattle.std.specs.Prelude.{Err}
use Rattle.std.proofs.lemmas.Grind.{common_steps}
use Rattle.records.specs.Records.{found_in}
use Rattle.records.specs.declared.missing.Missing.TheVariants.{Cut}
use Rattle.records.proofs.Finding.{at_past, at_within}
use Rattle.records.proofs.record_at.Goals as goal

pub returns-in_err-ok_or : goal.returns-in_err-ok_or
returns-in_err-ok_or c =
    let cut : c.from_residual.result ≡ Err Cut = grind (arith, common_steps) in
    let past : length c.args.bytes.now < c.args.at = grind (arith, common_steps) in
    rw cut (sym (at_past c.args.bytes.now c.args.at past))

pub returns : goal.returns
returns c =
    let within : c.args.at ≤ length c.args.bytes.now = grind (arith, common_steps) in
    let rest : c.in_ok-ok_or.field-0.now ≡ drop c.args.at c.args.bytes.now = grind (arith, common_steps) in
    c.record_in.ensures ∙ ap found_in rest ∙ sym (at_within c.args.bytes.now c.args.at within)
