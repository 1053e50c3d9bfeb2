-- `exit` meets its promise.
use mathlib.Core.Path.{◌≡◌}
use native.Mathlib.Omega.{arith}
use Rattle.std.specs.Prelude.{Err}
use Rattle.std.proofs.lemmas.Grind.{common_steps}
use Rattle.port.proofs.Calling.{owners_refused, owners_decided}
use Rattle.port.proofs.owners.exit.Goals as goal

pub returns-in_err-laptop : goal.returns-in_err-laptop
returns-in_err-laptop c =
    let e : c.from_residual.result ≡ Err c.in_err-laptop.field-0.0 = grind (arith, common_steps) in
    rw e (owners_refused c.args.side c.args.port _ _ _ _ c.in_err-laptop.ensures)

pub returns : goal.returns
returns c = owners_decided c.args.side c.args.port _ _ _ c.in_ok-laptop.ensures c.exit-exiting.ensures c.given_on.ensures
