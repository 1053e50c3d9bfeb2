-- Each call for a side, from what its parts ensure.
use mathlib.Core.Path.{◌≡◌, ap, sym, ◌∙◌}
use mathlib.Core.List.{List}
use Prim.Native.Nat.{ℕ}
use lib.ListN.{length}
use borrow.Author.Tests.{eq-eqb, ne_eqb}
use Rattle.messages.specs.Reading.{read_outcome}
use Rattle.laptop.specs.Calls.{Decision, refuses, step_of, buffer_of, Stepped, unless}
use Rattle.laptop.specs.declared.Laptop.{Laptop}
use Rattle.laptop.specs.Step.{Step as LaptopAsStep}
use Rattle.laptop.specs.State.{LentMemory}
use Rattle.std.specs.Prelude.{Ok, Err}
use Rattle.messages.specs.Refusals.{number_of}
use Rattle.messages.proofs.Numbers.{numbered}
use Rattle.laptop.specs.declared.Told.TheVariants.{Nothing}
use Rattle.port.specs.declared.Refused.{Refused}
use Rattle.port.proofs.Seeing.{put_seen}
use Rattle.hearing.specs.Hearing.{heard}
use Rattle.port.specs.Calls.{OwnersLaptop, HearsOn, owners_decision, Owners}
use Rattle.port.specs.Sides.{seen, stepped_on}
use Rattle.port.specs.declared.Port.{Port}
use Rattle.port.specs.declared.Side.{Side}
use Rattle.port.specs.Step.{Step, stepped}

-- an owner's call, refused first or decided by 01's on its side
module _ (side : Side) (p : Port) (decide : Laptop → Decision) (run held_run : List ℕ) where
  pub owners_refused : (r : Refused) → OwnersLaptop side p (length run) (length held_run) (Err r) → {out : List ℕ} →
      Owners side p decide run held_run out (stepped (Err r)) out
  unfolding step_of buffer_of unless
  owners_refused r o {out} =
      let refused : refuses (number_of r.refusal) (seen side p) ≡ owners_decision side p decide (length run) (length held_run) =
      rw (← o.0, ne_eqb (number_of r.refusal) 0 (numbered r.refusal)) in
      record {
        step_is =
            rw (o.1, o.2) (ap (λ (q : Port). record { refusal = number_of r.refusal; length = 0; told = Nothing; side = side; port = q }) (sym (put_seen side p))) ∙
            ap (λ (d : Decision). stepped_on side p (step_of (seen side p) d (length out))) refused;
        buffer_is = ap (λ (d : Decision). buffer_of d out) refused;
      }

  pub owners_decided : {l : Laptop} → OwnersLaptop side p (length run) (length held_run) (Ok l) → {out after : List ℕ} {one : LaptopAsStep} {step : Step} →
      Stepped l (decide l) out one after → step ≡ stepped_on side p one → Owners side p decide run held_run out step after
  unfolding unless
  owners_decided {l} o {out} {after} {one} {step} s g =
      let made : decide (seen side p) ≡ owners_decision side p decide (length run) (length held_run) =
      rw (eq-eqb _ _ o.0) in
      record {
        step_is =
            g ∙ ap (stepped_on side p) (s.step_is ∙ ap (λ (x : Laptop). step_of x (decide x) (length out)) o.1) ∙
            ap (λ (d : Decision). stepped_on side p (step_of (seen side p) d (length out))) made;
        buffer_is = s.buffer_is ∙ ap (λ (x : Laptop). buffer_of (decide x) out) o.1 ∙ ap (λ (d : Decision). buffer_of d out) made;
      }

pub heard_on : (side : Side) (p : Port) (bytes : List ℕ) (m : LentMemory) {l : Laptop} {one : LaptopAsStep} {step : Step} → l ≡ seen side p →
    (one ≡ (heard l m.entry (read_outcome bytes)).step) × (m.exit ≡ (heard l m.entry (read_outcome bytes)).after) →
    step ≡ stepped_on side p one → HearsOn side p bytes m step
heard_on side p bytes m e h g = (
  g ∙ ap (stepped_on side p) (h.0 ∙ ap (λ (x : Laptop). (heard x m.entry (read_outcome bytes)).step) e),
  h.1 ∙ ap (λ (x : Laptop). (heard x m.entry (read_outcome bytes)).after) e,
)
