-- `write_catalogue` meets its promise: its ways out are the definition's, and nothing is stored before the last test.
use mathlib.Core.Path.{◌≡◌, refl, sym}
use native.Mathlib.Omega.{arith}
use Rattle.std.specs.Prelude.{Some, None, Err}
use Rattle.messages.specs.declared.refusal.Refusal.TheVariants.{NotHeld}
use Rattle.std.proofs.Common.{rules}
use Rattle.std.proofs.lemmas.Grind.{common_steps}
use Rattle.messages.proofs.Numbers.{number_above}
use Rattle.catalogue.specs.Bytes.{catalogue_of}
use Rattle.catalogue.proofs.Outcomes.{size_taken, write_few, write_nothing, write_refused, write_whole, held_nothing, held_holding}
use Rattle.catalogue.proofs.write_catalogue.Goals as goal

pub returns-then-held_run-lt-RUN_WORDS : goal.returns-then-held_run-lt-RUN_WORDS
returns-then-held_run-lt-RUN_WORDS c = write_few _ _ c.args.out.now _ c.if-held_run-lt-RUN_WORDS.true refl

pub returns-in_err-size : goal.returns-in_err-size
returns-in_err-size c =
    let args = c.args in
    let is : args.laptop.held ≡ None = grind (arith, common_steps) in
    let e : c.from_residual.result ≡ Err NotHeld = grind (arith, common_steps) in
    let none = held_nothing args.laptop.held args.held_identity.now args.held_svids.now args.held_modes.now args.held_run.now is in
    rw e (write_nothing _ _ args.out.now _ c.if-held_run-lt-RUN_WORDS.false none refl)

pub returns-in_err-fitting : goal.returns-in_err-fitting
returns-in_err-fitting c =
    let args = c.args in
    let is : args.laptop.held ≡ Some c.in_ok-size.size = c.in_ok-size.ensures.ok_part in
    let refusal = c.in_err-fitting.field-0.0 in
    let holds = held_holding args.laptop.held args.held_identity.now args.held_svids.now args.held_modes.now args.held_run.now
    _ is c.first.result.now c.first-2.result.now (search rules) (search rules) in
    let held = catalogue_of c.first.result.now c.first-2.result.now args.held_modes.now args.held_run.now in
    let e : c.from_residual-in_err-fitting.result ≡ Err refusal = grind (arith, common_steps) in
    rw e (write_refused _ _ args.out.now held c.if-held_run-lt-RUN_WORDS.false holds _ c.length-length.ensures.0 _
    c.in_err-fitting.ensures (λ z. omega (arith, number_above refusal, z)) _ refl)

pub put-requires : goal.put-requires
put-requires c =
    let fits = (size_taken _ _ _ (sym c.in_ok-fitting.ensures)).1 in
    omega (arith, fits, c.length-length.ensures.0)

pub returns : goal.returns
returns c =
    let args = c.args in
    let is : args.laptop.held ≡ Some c.in_ok-size.size = c.in_ok-size.ensures.ok_part in
    let holds = held_holding args.laptop.held args.held_identity.now args.held_svids.now args.held_modes.now args.held_run.now
    _ is c.first.result.now c.first-2.result.now (search rules) (search rules) in
    let held = catalogue_of c.first.result.now c.first-2.result.now args.held_modes.now args.held_run.now in
    write_whole _ _ args.out.now held c.if-held_run-lt-RUN_WORDS.false holds _ c.length-length.ensures.0 c.in_ok-fitting.ensures _ c.put.ensures
