-- The number of answers still needed, read off where the laptop stands.
use mathlib.Core.Path.{◌≡◌, ap, sym, ◌∙◌}
use mathlib.Core.Bool.{false≢true}
use mathlib.Core.List.{List, []}
use Prim.Native.Nat.{ℕ, ◌+◌, ◌*◌, ◌-◌, ◌/◌, ◌<◌, ◌≤◌}
use native.Mathlib.Omega.{arith}
use lib.ListN.{length}
use Rattle.messages.specs.Layout.{Message}
use Rattle.dock.specs.Data.{listed}
use Rattle.dock.specs.declared.Dock.{Dock}
use Rattle.owner.specs.Owner.{is_absent}
use Rattle.laptop.specs.State.{is_open}
use Rattle.laptop.specs.declared.Candidate.TheVariants.{Open, Done}
use Rattle.laptop.specs.declared.Laptop.{Laptop}
use Rattle.link.specs.Demand.{Meets}
use Rattle.link.specs.Needed.{needed}
use Rattle.progress.proofs.InOrder.{still_needed, nak_needed}
use Rattle.progress.proofs.Tells.{Tells, none_came, all_came, pages_come, modes_come}

module _ (modes_of : ℕ → List ℕ) (d : Dock) (meets : Meets modes_of d) (l : Laptop) (got : List Message) where
  -- the list is open, and p pages of it have come
  module _ (open_now : l.candidate ≡ Open) where
    pub open_number : (p : ℕ) → l.gathered.count ≡ p * 12 → 0 < length (listed d) → Tells modes_of d meets l got →
        (needed modes_of d got ≡ length (listed d) / 12 + 1 - p + length (listed d)) × (p * 12 ≤ length (listed d))
    open_number p count some (none_came e a) = absurd (false≢true (ap is_open (sym a ∙ open_now)))
    open_number p count some (all_came n z a w k) = absurd (false≢true (ap is_open (sym a ∙ open_now)))
    open_number p count some (pages_come n a same most pages come) =
        (omega (arith, still_needed modes_of d meets n 0 got come some, count, same), omega (arith, count, same, most))
    open_number p count some (modes_come a many h pages come) = absurd (false≢true (ap is_open (sym a ∙ open_now)))

    pub empty_number : listed d ≡ [] → Tells modes_of d meets l got → (needed modes_of d got ≡ 1) × (l.gathered.count ≡ 0)
    empty_number empty (none_came e a) = absurd (false≢true (ap is_open (sym a ∙ open_now)))
    empty_number empty (all_came n z a w k) = absurd (false≢true (ap is_open (sym a ∙ open_now)))
    empty_number empty (pages_come n a same most pages come) =
        (nak_needed modes_of d meets n 0 got come empty, omega (arith, same, most, ap length empty))
    empty_number empty (modes_come a many h pages come) = absurd (false≢true (ap is_open (sym a ∙ open_now)))

  -- the list is done
  pub done_number : l.candidate ≡ Done → Tells modes_of d meets l got →
      (needed modes_of d got ≡ length (listed d) - l.stored) × (l.stored < length (listed d))
  done_number done_now (none_came e a) = absurd (false≢true (ap is_absent (sym done_now ∙ a)))
  done_number done_now (all_came n z a w k) = absurd (false≢true (ap is_absent (sym done_now ∙ a)))
  done_number done_now (pages_come n a same most pages come) = absurd (false≢true (ap is_open (sym done_now ∙ a)))
  done_number done_now (modes_come a many h pages come) =
      (omega (arith, still_needed modes_of d meets (length (listed d) / 12 + 1) l.stored got come many), h)
