-- A well-formed port stays so, whatever comes.
use mathlib.Core.Path.{◌≡◌, refl, ap, sym, ◌∙◌, subst}
use mathlib.Core.Bool.{Bool, true, false, ◌||◌}
use mathlib.Core.List.{List, [], ◌∷◌}
use Prim.Native.Nat.{ℕ}
use lib.ListN.{replicate}
use Rattle.laptop.specs.State.{Memory}
use Rattle.laptop_laws.specs.Effects.{Kept as LaptopKept}
use Rattle.laptop_laws.specs.WellFormed.{Lent, WellFormed}
use Rattle.laptop_laws.proofs.Laws.{keeps as laptop_keeps}
use Rattle.laptop_laws.proofs.Laws.{fresh as laptop_fresh}
use Rattle.port.specs.Sides.{seen, fresh_port}
use Rattle.port.specs.declared.Side.{Side}
use Rattle.port.specs.declared.Side.TheVariants.{Partner, Cable}
use Rattle.port_laws.specs.Effects.{Call, one_sided, Kept, memory_of, of_side, kept_by_of, kept_after}
use Rattle.port_laws.specs.Leaving.{is_others_call, is_blocked}
use Rattle.port_laws.specs.WellFormed.{WellFormedOn}
use Rattle.port_laws.proofs.OneCall.{others_change_nothing, own_as_laptop, blocked_changes_nothing}

abbrev Formed : LaptopKept → Type 0
Formed k = WellFormed k.laptop k.memory

-- a side's share: changed by nothing of the other's, nor by a call that is refused because the other waits; else by 01's call
share_keeps : (side : Side) (c : Call) (out : List ℕ) (k : Kept) → Formed (of_side side k) → Formed (of_side side (kept_by_of c out k))
share_keeps side c out k formed = go (is_others_call side c k.port.wait) (is_blocked side c k) refl refl
  where
    go : (others blocked : Bool) → is_others_call side c k.port.wait ≡ others → is_blocked side c k ≡ blocked → Formed (of_side side (kept_by_of c out k))
    go true b e f = subst Formed (sym (others_change_nothing side c out k e)) formed
    go false true e f = subst Formed (sym (ap (of_side side) (blocked_changes_nothing side c out k e f).0)) formed
    go false false e f =
        subst Formed (sym (own_as_laptop side c out k (ap (λ (t : Bool). t || is_blocked side c k) e ∙ f)).0)
        (laptop_keeps (one_sided c) (seen side k.port) (memory_of side k) out formed)

-- a well-formed port is well-formed after every call
pub keeps : (c : Call) (out : List ℕ) (k : Kept) → WellFormedOn k → WellFormedOn (kept_by_of c out k)
keeps c out k formed side = share_keeps side c out k (formed side)

-- and so is a fresh one
pub fresh : (partner cable : Memory) → Lent partner → Lent cable → partner.entered ≡ replicate 72 0 → cable.entered ≡ replicate 72 0 →
    WellFormedOn (record { port = fresh_port; partner = partner; cable = cable })
unfolding seen
fresh partner cable lent_partner lent_cable none_partner none_cable Partner = laptop_fresh partner lent_partner none_partner
fresh partner cable lent_partner lent_cable none_partner none_cable Cable = laptop_fresh cable lent_cable none_cable

-- and after any number of calls
pub keeps_all : (history : List (Call × List ℕ)) (k : Kept) → WellFormedOn k → WellFormedOn (kept_after history k)
keeps_all [] k formed = formed
keeps_all (c ∷ rest) k formed = keeps_all rest (kept_by_of c.0 c.1 k) (keeps c.0 c.1 k formed)
