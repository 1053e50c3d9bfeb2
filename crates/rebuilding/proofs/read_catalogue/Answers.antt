-- `read_catalogue` meets its promise.
use mathlib.Core.Path.{◌≡◌, refl, ap}
use native.Mathlib.Omega.{arith}
use Rattle.std.specs.Prelude.{Ok, Err}
use Rattle.std.proofs.lemmas.Grind.{common_steps}
use Rattle.messages.proofs.Numbers.{number_above}
use Rattle.judging.specs.Faults.{fault_of}
use Rattle.catalogue_laws.proofs.Judged.{walk_bounds}
use Rattle.rebuilding.specs.Shown.{rebuilt_as}
use Rattle.rebuilding.specs.declared.Rebuilt.{Rebuilt as RebuiltFound}
use Rattle.rebuilding.proofs.Outcomes.{read_short, read_fault, read_sound}
use Rattle.rebuilding.proofs.read_catalogue.Goals as goal

pub returns-then-run-lt-RUN_WORDS : goal.returns-then-run-lt-RUN_WORDS
returns-then-run-lt-RUN_WORDS c = read_short c.args.bytes.now _ c.if-run-lt-RUN_WORDS.true _ refl

pub returns-in_err-walk : goal.returns-in_err-walk
returns-in_err-walk c =
    let stopped = c.in_err-walk.field-0.0 in
    let e : c.from_residual.result ≡ Err (fault_of stopped) = grind (arith, common_steps) in
    rw e (read_fault c.args.bytes.now _ c.if-run-lt-RUN_WORDS.false c.in_err-walk.ensures (λ z. omega (arith, number_above stopped.refusal, z)) _ refl)

pub put_modes-requires : goal.put_modes-requires
put_modes-requires c = walk_bounds c.in_ok-walk.ensures

pub returns : goal.returns
returns c =
    read_sound c.args.bytes.now _ c.if-run-lt-RUN_WORDS.false c.in_ok-walk.ensures refl (λ k. omega (arith, c.type_inv.bytes k)) _ _ _ _
    c.objects_in.ensures refl refl c.put_modes.ensures _ (ap (λ (r : RebuiltFound). rebuilt_as (Ok r)) c.from.ensures)
