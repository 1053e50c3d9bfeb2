-- What a side sees, put back.
use mathlib.Core.Path.{◌≡◌, refl, ap, ◌∙◌}
use Rattle.std.specs.Prelude.{Some, None}
use Rattle.port.specs.Sides.{Wait, wait_seen, wait_put, own_of, seen, with_own, put_back}
use Rattle.port.specs.declared.Port.{Port}
use Rattle.port.specs.declared.Side.{Side}
use Rattle.port.specs.declared.Side.TheVariants.{Partner, Cable}

-- what a side sees, put back, changes nothing
pub put_seen : (s : Side) (p : Port) → put_back s (seen s p) p ≡ p
unfolding seen put_back
put_seen s p = ap (λ (x : Wait). with_own s x (own_of s p) p) (same s p.wait) ∙ with_own_lem s
  where
    same : (s : Side) (w : Wait) → wait_put s (wait_seen s w) w ≡ w
    same Partner None = refl
    same Cable None = refl
    same Partner (Some (Partner, q)) = refl
    same Partner (Some (Cable, q)) = refl
    same Cable (Some (Partner, q)) = refl
    same Cable (Some (Cable, q)) = refl

    with_own_lem : (s : Side) → with_own s p.wait (own_of s p) p ≡ p
    with_own_lem Partner = refl
    with_own_lem Cable = refl
