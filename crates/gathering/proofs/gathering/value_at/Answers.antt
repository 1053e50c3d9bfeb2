-- `value_at` meets its promise.
use mathlib.Core.Path.{◌≡◌, sym, ◌∙◌}
use Prim.Native.Nat.{◌%◌}
use Rattle.gathering.proofs.Listing.{value_is}
use Rattle.gathering.proofs.gathering.value_at.Goals as goal

pub returns-then-place-eq0 : goal.returns-then-place-eq0
returns-then-place-eq0 c =
    let even : c.args.place % 2 ≡ 0 = c.if-place-eq0.true in
    sym (value_is c.args.objects c.args.place c.requires ∙ rw even)
