-- What a refusal leaves of the numbers that were lent.
use mathlib.Core.Path.{◌≡◌, refl, ap, sym, ◌∙◌}
use mathlib.Core.Bool.{Bool, true, false, cond}
use mathlib.Core.List.{List, []}
use Prim.Native.Nat.{ℕ}
use lib.ListN.{length}
use Rattle.dock.specs.Dock.{Decision as DockDecision}
use Rattle.dock.specs.declared.Dock.{Dock}
use Rattle.dock.specs.Step.{Step as DockAsStep}
use Rattle.dock.proofs.Laws.{refusal_leaves}
use Rattle.laptop.specs.Calls.{Decision, step_of, unless, short_runs}
use Rattle.laptop.specs.State.{Memory, LentMemory, memory}
use Rattle.laptop.specs.declared.Laptop.{Laptop}
use Rattle.laptop.specs.Step.{Step as LaptopAsStep}
use Rattle.laptop_laws.specs.Effects.{Call, message}
use Rattle.laptop_laws.specs.Refusing.{left_by, RefusedAs}
use Rattle.laptop_laws.proofs.Leaves.{buffer_left}
use Rattle.laptop_laws.proofs.Leaves.{refusal_leaves as laptop_refusal_leaves}
use Rattle.port.specs.Calls.{is_waiting, owners_refusal}
use Rattle.port.specs.Sides.{Wait, wait_seen, wait_put, seen, put_back, stepped_on}
use Rattle.port.specs.declared.Port.{Port}
use Rattle.port.specs.declared.Side.{Side}
use Rattle.port.specs.declared.Side.TheVariants.{Partner, Cable}
use Rattle.std.specs.Prelude.{Some, None}
use Rattle.catalogue.specs.Bytes.{HeldCatalogue}
use Rattle.catalogue.proofs.Laws.{refused_leaves}
use Rattle.controller.specs.CatalogueCall.{CatalogueCall}
use Rattle.controller.specs.DockCalls.{DockStep, DockSends}
use Rattle.controller.specs.LaptopCalls.{LaptopStep, deciding, LaptopSends, LaptopHears}
use Rattle.controller.specs.Port.{port_from, numbers_after}
use Rattle.laws.specs.Lent.{Lent, lent, left}
use Rattle.controller.proofs.Accepting.{refused_kept}

-- the dock
pub dock_step_left : {step : DockAsStep} {number : ℕ} {state : Lent (List ℕ)} {bytes : Lent ℕ} → DockStep step number state bytes → (number ≡ 0 → ⊥) →
    (left state ≡ lent state) × (left bytes ≡ lent bytes)
dock_step_left p refused = (refused_kept _ refused p.state_is, refused_kept _ refused p.bytes_is)

pub dock_buffer_left : {decide : Dock → DockDecision} {number : ℕ} {state : Lent (List ℕ)} {identity svids : List ℕ} {out : Lent (List ℕ)} {bytes : Lent ℕ} →
    DockSends decide number state identity svids out bytes → (number ≡ 0 → ⊥) → left out ≡ lent out
dock_buffer_left {decide} {out = out} p refused = p.buffer_is ∙ (refusal_leaves _ (decide _) (lent out) (λ z. refused (p.step_is.number_is ∙ z))).1

-- what a side sees put back as it is: nothing changes
wait_back : (side : Side) (w : Wait) → wait_put side (wait_seen side w) w ≡ w
wait_back side None = refl
wait_back Partner (Some (Partner, r)) = refl
wait_back Partner (Some (Cable, r)) = refl
wait_back Cable (Some (Partner, r)) = refl
wait_back Cable (Some (Cable, r)) = refl

pub put_back_seen : (side : Side) (p : Port) → put_back side (seen side p) p ≡ p
unfolding put_back seen
put_back_seen Partner p = ap (λ (w : Wait). record { wait = w; partner = p.partner; cable = p.cable }) (wait_back Partner p.wait)
put_back_seen Cable p = ap (λ (w : Wait). record { wait = w; partner = p.partner; cable = p.cable }) (wait_back Cable p.wait)

-- the laptop: nothing is handed over, and the numbers are those of the state that the refusal leaves on its side
abbrev pub LaptopLeft : Side → Call → ℕ → Lent (List ℕ) → Lent (List ℕ) → Type 0
LaptopLeft side c number state handed =
    (left handed ≡ lent handed) ×
    (left state ≡ numbers_after (lent state) (put_back side (left_by number c (seen side (port_from (lent state)))) (port_from (lent state))))

pub laptop_left : (side : Side) (c : Call) (s : LaptopAsStep) {number : ℕ} {state handed : Lent (List ℕ)} →
    RefusedAs c (seen side (port_from (lent state))) s → LaptopStep (stepped_on side (port_from (lent state)) s) number state handed → (number ≡ 0 → ⊥) →
    LaptopLeft side c number state handed
laptop_left side c s {state = state} so p refused =
    let port : Port = port_from (lent state) in (
      refused_kept _ refused p.handed_is,
      p.state_is ∙ ap (λ (x : LaptopAsStep). numbers_after (lent state) (put_back side x.laptop port)) (so (λ z. refused (p.number_is ∙ z))) ∙
          ap (λ (n : ℕ). numbers_after (lent state) (put_back side (left_by n c (seen side port)) port)) (sym p.number_is),
    )

-- an owner's call that is refused before 01's is left alone
refused_first : (l : Laptop) (c : Call) (d : Decision) (room : ℕ) (short waits : Bool) → RefusedAs c l (step_of l d room) →
    RefusedAs c l (step_of l (unless (cond short 11 (cond waits 7 0)) l d) room)
unfolding unless step_of
refused_first l c d room true waits h n = refl
refused_first l c d room false true h n = refl
refused_first l c d room false false h n = h n

module _ (side : Side) (decide : Laptop → Decision) (run held_run : ℕ) {number : ℕ} {state out handed : Lent (List ℕ)}
    (p : LaptopSends side decide run held_run number state out handed) (refused : number ≡ 0 → ⊥) where
  pub owners_left : (c : Call) → RefusedAs c (seen side (port_from (lent state))) (step_of (seen side (port_from (lent state))) (decide (seen side (port_from (lent state)))) (length (lent out))) →
      LaptopLeft side c number state handed
  unfolding owners_refusal
  owners_left c so =
      laptop_left side c _
      (refused_first (seen side (port_from (lent state))) c _ (length (lent out)) (short_runs run held_run) (is_waiting (port_from (lent state)).wait) so)
      p.step_is refused

  pub owners_buffer_left : left out ≡ lent out
  owners_buffer_left =
      p.buffer_is ∙
      buffer_left (seen side (port_from (lent state))) (deciding side (lent state) decide run held_run) (lent out) (λ z. refused (p.step_is.number_is ∙ z))

-- what a call that is lent nothing beside the state is lent
abbrev pub nothing_lent : Memory
nothing_lent = memory [] [] [] [] [] [] [] [] []

pub memory_left : {side : Side} {bytes : List ℕ} {number : ℕ} {state handed : Lent (List ℕ)} {memory : LentMemory} →
    LaptopHears side bytes number state memory handed → (number ≡ 0 → ⊥) → memory.exit ≡ memory.entry
memory_left {side} {bytes} {state = state} {memory = memory} p refused =
    p.memory_is ∙ (laptop_refusal_leaves (message bytes) (seen side (port_from (lent state))) memory.entry [] (λ z. refused (p.step_is.number_is ∙ z))).0

-- the catalogue's bytes
pub catalogue_left : {held : HeldCatalogue} {run : List ℕ} {number : ℕ} {out : Lent (List ℕ)} {bytes : Lent ℕ} → CatalogueCall held run number out bytes →
    (number ≡ 0 → ⊥) → left out ≡ lent out
catalogue_left {held} {run} {out = out} p refused =
    (refused_leaves held (length run) (lent out) _ (left out) (record { result_is = refl; buffer_is = p.buffer_is }) (λ z. refused (p.number_is ∙ z))).1
