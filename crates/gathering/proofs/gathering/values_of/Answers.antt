-- `values_of` meets its promise: twelve values, each that of its place.
use mathlib.Core.Path.{◌≡◌}
use Prim.Native.Nat.{◌<◌}
use native.Mathlib.Omega.{arith}
use Rattle.std.proofs.Common.{◌≢◌, length, get_or-set_other, get_or-set_same, length-set, below_more}
use Rattle.std.proofs.lemmas.Grind.{same_number_lists}
use Rattle.gathering.proofs.gathering.values_of.Goals as goal

pub loop-place-preserved : goal.loop-place-preserved
loop-place-preserved c =
    let size : length c.loop-place.values ≡ 12 = c.loop-place.invariant.0 in
    let inside : c.loop-place.place < length c.loop-place.values = omega arith in (
      simp length-set size,
      below_more _ _
          (λ k h. let other : k ≢ c.loop-place.place = omega arith in rw get_or-set_other (c.loop-place.invariant.1 k h))
          (rw get_or-set_same c.value_at.ensures),
    )

pub returns : goal.returns
returns c =
    let size : length c.loop-place.values ≡ 12 = c.loop-place.invariant.0 in
    same_number_lists _ _ size (λ k h. c.loop-place.invariant.1 k (omega arith))
