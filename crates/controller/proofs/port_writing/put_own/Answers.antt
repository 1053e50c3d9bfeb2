-- `put_own` meets its promise.
use mathlib.Core.Path.{◌≡◌, ap, ◌∙◌}
use native.Mathlib.Omega.{arith}
use lib.ListN.{length, length-set}
use Rattle.laws.proofs.Stores.{put_part}
use Rattle.controller.proofs.PortNumbers.{held_length, own_stored}
use Rattle.controller.proofs.port_writing.put_own.Goals as goal

pub returns : goal.returns
returns c =
    let three : length c.held_numbers.result ≡ 3 = ap length c.held_numbers.ensures ∙ held_length c.args.own.held in
    rw (c.from.ensures, c.from-2.ensures, c.from-3.ensures, c.from-4.ensures, c.from-6.ensures)
    (own_stored _ _ c.args.own c.candidate_number.ensures c.held_numbers.ensures c.from-5.ensures
    (put_part _ _ _ _ _ c.copy_from_slice.ensures.after (omega (arith, three)) (simp length-set (omega (arith, three, c.requires, c.told-state)))))
