-- What the laptop's calls and catalogue writing hand over.
use mathlib.Core.Path.{◌≡◌, ap, sym, subst, ◌∙◌}
use mathlib.Core.Bool.{Bool, true, false}
use mathlib.Core.List.{List}
use Prim.Native.Nat.{ℕ}
use lib.ListN.{length}
use Rattle.messages.specs.Reading.{Outcome}
use Rattle.taking.specs.Taking.{same_list}
use Rattle.laptop.specs.Calls.{Decision}
use Rattle.laptop.specs.Marks.{reported}
use Rattle.laptop.specs.State.{Memory, LentMemory}
use Rattle.laptop.specs.declared.Laptop.{Laptop}
use Rattle.laptop.specs.Step.{Step as LaptopAsStep}
use Rattle.hearing.specs.Hearing.{heard}
use Rattle.catalogue.specs.Bytes.{Bytes, HeldCatalogue, held_catalogue, CatalogueWritten}
use Rattle.port.specs.Calls.{Owners, concerning}
use Rattle.port.specs.Sides.{own_of, seen, stepped_on}
use Rattle.port.specs.declared.Port.{Port}
use Rattle.port.specs.declared.Side.{Side}
use Rattle.port.specs.Step.{Step}
use Rattle.controller.specs.CatalogueCall.{CatalogueCall}
use Rattle.controller.specs.LaptopCalls.{LaptopStep, LaptopSendsNothing, LaptopSends, HeardOn, LaptopHears}
use Rattle.controller.specs.Port.{port_from, port_numbers, numbers_after}
use Rattle.controller.specs.Told.{handed_numbers}
use Rattle.laws.specs.Lent.{Lent, lent, left, accepted}
use Rattle.controller.proofs.Accepting.{accepted_written, accepted_kept}

-- the state's numbers, where the port is the same and where it is another
module _ (before : List ℕ) (p : Port) {t : Bool} (same : t ≡ same_list (port_numbers (port_from before)) (port_numbers p)) where
  pub put_same : t ≡ true → before ≡ numbers_after before p
  unfolding numbers_after
  put_same e = rw (← same, e)

  pub put_other : t ≡ false → {numbers : List ℕ} → numbers ≡ port_numbers p → numbers ≡ numbers_after before p
  unfolding numbers_after
  put_other e f = rw (← same, e) f

-- of the side and the port that the numbers stand for
pub carried : (P : Side → Port → Type 0) {side side' : Side} {p p' : Port} → side ≡ side' → p ≡ p' → P side p → P side' p'
carried P {side' = side'} {p = p} e f h = subst (P side') f (subst (λ (s : Side). P s p) e h)

-- a step that is handed over, by the call that gave it
module _ {step : Step} {number : ℕ} {state handed : Lent (List ℕ)}
    (over : (number ≡ step.refusal) × (left state ≡ numbers_after (lent state) step.port) × (left handed ≡ accepted number (handed_numbers step) (lent handed))) where
  step_in : (step' : Step) → step ≡ step' → LaptopStep step' number state handed
  step_in step' e = rw (sym e) (record { number_is = over.0; state_is = over.1; handed_is = over.2 })

  pub sends_nothing_in : {decide : Laptop → Decision} {p : Port} → p ≡ port_from (lent state) → step ≡ concerning decide p →
      LaptopSendsNothing decide number state handed
  sends_nothing_in {decide} e s = record { step_is = step_in _ (s ∙ ap (concerning decide) e) }

  pub sends_in : {side side' : Side} {p : Port} → side ≡ side' → p ≡ port_from (lent state) →
      {decide : Laptop → Decision} {run held_run : List ℕ} {out : Lent (List ℕ)} → Owners side p decide run held_run (lent out) step (left out) →
      LaptopSends side' decide (length run) (length held_run) number state out handed
  sends_in e f {decide} {run} {held_run} {out} s =
      let owners = carried (λ (x : Side) (q : Port). Owners x q decide run held_run (lent out) step (left out)) e f s in
      record { step_is = step_in _ owners.step_is; buffer_is = owners.buffer_is }

  pub hears_in : {side side' : Side} {p : Port} → side ≡ side' → p ≡ port_from (lent state) → {bytes : List ℕ} {memory : LentMemory} {one : LaptopAsStep} →
      HeardOn side' bytes (lent state) memory one → step ≡ stepped_on side p one → LaptopHears side' bytes number state memory handed
  hears_in {side' = side'} e f {one = one} h s =
      record {
        step_is =
            step_in _ (carried (λ (x : Side) (q : Port). step ≡ stepped_on x q one) e f s ∙ ap (stepped_on side' (port_from (lent state))) h.0);
        memory_is = h.1;
      }

-- the catalogue's bytes
module _ {held : HeldCatalogue} {run : List ℕ} {out : Lent (List ℕ)} {bytes : Lent ℕ} {result : Bytes}
    (written : CatalogueWritten held (length run) (lent out) result (left out)) where
  pub wrote : result.refusal ≡ 0 → left bytes ≡ result.length → CatalogueCall held run result.refusal out bytes
  wrote z e =
      record {
        number_is = ap (λ (b : Bytes). b.refusal) written.result_is;
        bytes_is = e ∙ ap (λ (b : Bytes). b.length) written.result_is ∙ accepted_written result.refusal _ (lent bytes) z;
        buffer_is = written.buffer_is;
      }

  pub wrote_nothing : (result.refusal ≡ 0 → ⊥) → left bytes ≡ lent bytes → CatalogueCall held run result.refusal out bytes
  wrote_nothing z e =
      record {
        number_is = ap (λ (b : Bytes). b.refusal) written.result_is;
        bytes_is = e ∙ accepted_kept result.refusal _ (lent bytes) z;
        buffer_is = written.buffer_is;
      }

-- a message, the report, and the catalogue that is held, of the side
module _ {side side' : Side} {p p' : Port} (side_is : side ≡ side') (port_is : p ≡ p') where
  pub heard_as : {l : Laptop} → l ≡ seen side p → (before : Memory) (o : Outcome) {after : Memory} {step : LaptopAsStep} →
      (step ≡ (heard l before o).step) × (after ≡ (heard l before o).after) →
      (step ≡ (heard (seen side' p') before o).step) × (after ≡ (heard (seen side' p') before o).after)
  heard_as sees before o {after} {step} h =
      let is : Laptop → Type 0 = λ x. (step ≡ (heard x before o).step) × (after ≡ (heard x before o).after) in
      carried (λ (x : Side) (q : Port). is (seen x q)) side_is port_is (subst is sees h)

  pub report_as : (svids entered : List ℕ) (svid : ℕ) {n : ℕ} → n ≡ reported (own_of side p).held svids entered svid →
      n ≡ reported (own_of side' p').held svids entered svid
  report_as svids entered svid {n} = carried (λ (x : Side) (q : Port). n ≡ reported (own_of x q).held svids entered svid) side_is port_is

  pub held_as : (identity svids modes run : List ℕ) {words : ℕ} {out after : List ℕ} {result : Bytes} →
      CatalogueWritten (held_catalogue (own_of side p).held identity svids modes run) words out result after →
      CatalogueWritten (held_catalogue (own_of side' p').held identity svids modes run) words out result after
  held_as identity svids modes run {words} {out} {after} {result} =
      carried (λ (x : Side) (q : Port). CatalogueWritten (held_catalogue (own_of x q).held identity svids modes run) words out result after) side_is port_is
