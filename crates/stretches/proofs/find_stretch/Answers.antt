-- `find_stretch` meets its promise.
use mathlib.Core.Path.{◌≡◌, refl, ◌∙◌}
use native.Mathlib.Omega.{arith}
use Rattle.std.specs.Prelude.{Err}
use Rattle.std.proofs.lemmas.Grind.{common_steps}
use Rattle.messages.proofs.Numbers.{number_above}
use Rattle.judging.specs.Faults.{fault_of}
use Rattle.catalogue_laws.proofs.Judged.{walk_bounds}
use Rattle.stretches.proofs.Finding.{stretch_fault, noted_as, stretch_sound}
use Rattle.stretches.proofs.find_stretch.Goals as goal

pub returns-in_err-walk : goal.returns-in_err-walk
returns-in_err-walk c =
    let stopped = c.in_err-walk.field-0.0 in
    let e : c.from_residual.result ≡ Err (fault_of stopped) = grind (arith, common_steps) in
    rw e (stretch_fault c.in_err-walk.ensures c.args.svid (λ z. omega (arith, number_above stopped.refusal, z)))

pub place_in-requires : goal.place_in-requires
place_in-requires c = walk_bounds c.in_ok-walk.ensures

pub returns : goal.returns
returns c = c.place_in.ensures _ (noted_as c.in_ok-walk.ensures) ∙ stretch_sound c.in_ok-walk.ensures c.args.svid refl
