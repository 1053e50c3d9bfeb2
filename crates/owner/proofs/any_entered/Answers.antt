-- `any_entered` meets its promise.
use mathlib.Core.Path.{refl}
use mathlib.Core.Bool.{not}
use Prim.Native.Nat.{ℕ}
use lib.Dec.{eqb}
use Rattle.std.proofs.Common.{rules}
use Rattle.std.proofs.lemmas.List.Recursion.{or_is}
use Rattle.laptop.specs.Marks.{six_bits}
use Rattle.owner.specs.Owner.{any_entered}
use Rattle.owner.proofs.any_entered.Goals as goal

pub returns : goal.returns
unfolding any_entered
returns c =
    or_is any_entered (λ (set : ℕ). not (eqb (six_bits set) 0)) refl (λ set sets. refl) c.args.entered.now 0 c.any.result
    (λ t. search rules) (λ f i l. search rules)
