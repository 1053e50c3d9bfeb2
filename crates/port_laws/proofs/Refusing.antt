-- A refusal changes no lent byte, and leaves the state that the documents say, whatever the call.
use mathlib.Core.Path.{◌≡◌, refl, ap, ◌∙◌}
use mathlib.Core.Bool.{Bool, true, false, cond, ◌&&◌, false≢true}
use mathlib.Core.List.{List}
use Prim.Native.Nat.{ℕ}
use lib.Dec.{eqb}
use lib.ListN.{length}
use borrow.Author.Tests.{ne_eqb}
use Rattle.messages.specs.Layout.{Message, req}
use Rattle.messages.specs.Reading.{Outcome, accepted, read_outcome}
use Rattle.messages.specs.declared.edition.Edition.{Edition}
use Rattle.laptop.specs.Calls.{Decision, refused_by, step_of, unless, short_runs}
use Rattle.laptop.specs.State.{Memory, is_open, dropped}
use Rattle.laptop.specs.declared.Laptop.{Laptop}
use Rattle.laptop.specs.Step.{Step as LaptopAsStep}
use Rattle.std.specs.Prelude.{Option, None}
use Rattle.messages.specs.declared.request.Request.{Request}
use Rattle.hearing.specs.Hearing.{is_idle, fits, is_late_page, hear_unawaited, hear, heard}
use Rattle.laptop_laws.specs.Effects.{Call as LaptopCall}
use Rattle.laptop_laws.specs.Effects.{message as laptop_message}
use Rattle.laptop_laws.specs.Effects.{next as laptop_next}
use Rattle.laptop_laws.specs.Effects.{start_over as laptop_start_over}
use Rattle.laptop_laws.specs.Effects.{drop as laptop_drop}
use Rattle.laptop_laws.specs.Effects.{enter as laptop_enter}
use Rattle.laptop_laws.specs.Effects.{exit as laptop_exit}
use Rattle.laptop_laws.specs.Effects.{timer as laptop_timer}
use Rattle.laptop_laws.specs.Effects.{protocol_error as laptop_protocol_error}
use Rattle.laptop_laws.specs.Given.{ShortRun}
use Rattle.laptop_laws.specs.Refusing.{RefusedAs as LaptopRefusedAs}
use Rattle.laptop_laws.proofs.First.{Tells}
use Rattle.laptop_laws.proofs.Leaves.{buffer_left}
use Rattle.laptop_laws.proofs.Leaves.{refusal_leaves as laptop_refusal_leaves}
use Rattle.laptop_laws.proofs.OwnerGiven.{tells_short}
use Rattle.laptop_laws.proofs.Refusing.{refusal_state as laptop_refusal_state}
use Rattle.port.specs.Calls.{is_waiting, owners_refusal, waiting_side}
use Rattle.port.specs.Sides.{is_others, seen, put_back, stepped_on}
use Rattle.port.specs.declared.Port.{Port}
use Rattle.port.specs.declared.Side.{Side}
use Rattle.port.specs.Step.{Step}
use Rattle.port_laws.specs.Effects.{Call, message, next, start_over, drop, enter, exit, timer, protocol_error, effect_of}
use Rattle.port_laws.specs.Refusing.{RefusedAs, is_page, left_by_unawaited}
use Rattle.port.proofs.Seeing.{put_seen}
use Rattle.port_laws.proofs.Sides.{idle_seen}

-- a refusal changes no lent byte: nothing that a call is lent, and nothing of the output buffer
pub refusal_leaves : (c : Call) (p : Port) (m : Memory) (out : List ℕ) → ((effect_of c p m out).step.refusal ≡ 0 → ⊥) →
    ((effect_of c p m out).after ≡ m) × ((effect_of c p m out).buffer ≡ out)
refusal_leaves (message side bytes) p m out n = laptop_refusal_leaves (laptop_message bytes) (seen side p) m out n
refusal_leaves (next side) p m out n = (refl, buffer_left (seen side p) _ out n)
refusal_leaves (start_over side) p m out n = (refl, buffer_left (seen side p) _ out n)
refusal_leaves (drop side) p m out n = (refl, buffer_left (seen side p) _ out n)
refusal_leaves (enter side svid position) p m out n = (refl, buffer_left (seen side p) _ out n)
refusal_leaves (exit side svid position) p m out n = (refl, buffer_left (seen side p) _ out n)
refusal_leaves (timer first last) p m out n = (refl, buffer_left (seen (waiting_side p.wait) p) _ out n)
refusal_leaves protocol_error p m out n = (refl, buffer_left (seen (waiting_side p.wait) p) _ out n)

module _ (p : Port) (m : Memory) (out : List ℕ) where
  -- 11 and 7 leave the side alone; else an owner's call is 01's on it
  owners_so : (side : Side) (c : LaptopCall) (d : Decision) → LaptopRefusedAs c (seen side p) (step_of (seen side p) d (length out)) →
      LaptopRefusedAs c (seen side p)
      (step_of (seen side p) (unless (owners_refusal p (length m.run) (length m.held_run)) (seen side p) d) (length out))
  unfolding owners_refusal unless step_of
  owners_so side c d so = go (short_runs (length m.run) (length m.held_run)) (is_waiting p.wait)
    where
      go : (s w : Bool) → LaptopRefusedAs c (seen side p) (step_of (seen side p) (unless (cond s 11 (cond w 7 0)) (seen side p) d) (length out))
      go true w = λ n. refl
      go false true = λ n. refl
      go false false = so

-- where a call is refused, the step is 01's refusal on the side that it concerns
pub refusal_state : (c : Call) (p : Port) (m : Memory) (out : List ℕ) → RefusedAs c p (effect_of c p m out).step
refusal_state (message side bytes) p m out n = ap (stepped_on side p) (laptop_refusal_state (laptop_message bytes) (seen side p) m out n)
refusal_state (next side) p m out n =
    ap (stepped_on side p) (owners_so p m out side laptop_next _ (laptop_refusal_state laptop_next (seen side p) m out) n)
refusal_state (start_over side) p m out n =
    ap (stepped_on side p) (owners_so p m out side laptop_start_over _ (laptop_refusal_state laptop_start_over (seen side p) m out) n)
refusal_state (drop side) p m out n =
    ap (stepped_on side p) (owners_so p m out side laptop_drop _ (laptop_refusal_state laptop_drop (seen side p) m out) n)
refusal_state (enter side svid position) p m out n =
    ap (stepped_on side p)
    (owners_so p m out side (laptop_enter svid position) _ (laptop_refusal_state (laptop_enter svid position) (seen side p) m out) n)
refusal_state (exit side svid position) p m out n =
    ap (stepped_on side p)
    (owners_so p m out side (laptop_exit svid position) _ (laptop_refusal_state (laptop_exit svid position) (seen side p) m out) n)
refusal_state (timer first last) p m out n =
    let side = waiting_side p.wait in ap (stepped_on side p) (laptop_refusal_state (laptop_timer first last) (seen side p) m out n)
refusal_state protocol_error p m out n =
    let side = waiting_side p.wait in ap (stepped_on side p) (laptop_refusal_state laptop_protocol_error (seen side p) m out n)

-- an answer to a laptop that awaits nothing
module _ (l : Laptop) (m : Memory) (x : Message) (idle : l.wait ≡ None) where
  unawaited : hear_unawaited l x.head ≡ refused_by 6 (left_by_unawaited x.head l)
  unfolding hear_unawaited is_late_page
  unawaited = go (is_idle l.wait) (is_open l.candidate && is_page x.head) (ap is_idle idle)
    where
      go : (i t : Bool) → i ≡ true → ◌≡◌ {A = LaptopAsStep} (cond (i && t) (refused_by 6 (dropped l)) (refused_by 6 l)) (refused_by 6 (cond t (dropped l) l))
      go true true e = refl
      go true false e = refl
      go false t e = absurd (false≢true e)

  answer_six : (at : Edition) → short_runs (length m.run) (length m.held_run) ≡ false → eqb x.head.kind req ≡ false →
      (heard l m (accepted at x)).step ≡ refused_by 6 (left_by_unawaited x.head l)
  unfolding heard hear
  answer_six at long answer = rw (long, answer, ap (λ (w : Option Request). fits w x.head) idle) unawaited

-- what does not hold, a test tells so
tells_none : (t : Bool) (holds : Type 0) → Tells t holds → (holds → ⊥) → t ≡ false
tells_none true holds h n = absurd (n h)
tells_none false holds h n = refl

-- an answer from the side that is not awaited is 6: a page drops that side's open list, and another leaves the state alone
module _ (side : Side) (p : Port) (m : Memory) (bytes out : List ℕ) (at : Edition) (x : Message) (others : is_others side p.wait ≡ true) (long : ShortRun m → ⊥)
    (read : read_outcome bytes ≡ accepted at x) (answer : x.head.kind ≡ req → ⊥) where
  pub six_from_the_other_side : (effect_of (message side bytes) p m out).step ≡ stepped_on side p (refused_by 6 (left_by_unawaited x.head (seen side p)))
  six_from_the_other_side =
      ap (λ (o : Outcome). stepped_on side p (heard (seen side p) m o).step) read ∙
      ap (stepped_on side p)
      (answer_six (seen side p) m x (idle_seen side p others) at
      (tells_none (short_runs (length m.run) (length m.held_run)) (ShortRun m) (tells_short (length m.run) (length m.held_run)) long)
      (ne_eqb x.head.kind req answer))

  pub left_alone : is_open (seen side p).candidate && is_page x.head ≡ false → (effect_of (message side bytes) p m out).step.port ≡ p
  left_alone none =
      ap (λ (s : Step). s.port) six_from_the_other_side ∙
      ap (λ (t : Bool). put_back side (cond t (dropped (seen side p)) (seen side p)) p) none ∙ put_seen side p
