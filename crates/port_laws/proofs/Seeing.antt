-- Each call is 01's on the laptop that its side sees, but where it is refused because the other side waits.
use mathlib.Core.Path.{◌≡◌, refl, ap, sym, ◌∙◌}
use mathlib.Core.Bool.{Bool, true, false, cond, not, ◌&&◌, false≢true}
use mathlib.Core.List.{List}
use Prim.Native.Nat.{ℕ}
use lib.Dec.{eqb}
use lib.ListN.{length, get_or}
use Rattle.messages.specs.Layout.{Message, req}
use Rattle.messages.specs.Reading.{Outcome, accepted, refused}
use Rattle.messages.specs.Requests.{attention_command}
use Rattle.laptop.specs.Calls.{Decision, refuses, refused_by, accepted_with, step_of, buffer_of, unless, short_runs, is_awaiting}
use Rattle.laptop.specs.State.{Memory, dropped}
use Rattle.laptop.specs.declared.Laptop.{Laptop}
use Rattle.laptop.specs.declared.Told.TheVariants.{Attention}
use Rattle.std.specs.Prelude.{Option, None}
use Rattle.messages.specs.declared.request.Request.{Request}
use Rattle.hearing.specs.Hearing.{only, notice_of, fits, is_late_page, hear_request, hear_unawaited, hear_answer, hear, heard}
use Rattle.owner.specs.Owner.{owner_refusal, any_entered, asking_refusal, decide_next, decide_start_over, decide_drop, decide_enter, decide_exit}
use Rattle.timers.specs.Timers.{decide_timer, decide_error}
use Rattle.laptop_laws.specs.Effects.{effect_of as laptop_effect_of}
use Rattle.laptop_laws.specs.Effects.{decided}
use Rattle.port.specs.Calls.{is_waiting, owners_refusal, waiting_side}
use Rattle.port.specs.Sides.{Wait, is_others, seen, stepped_on}
use Rattle.port.specs.declared.Port.{Port}
use Rattle.port.specs.declared.Side.{Side}
use Rattle.port.specs.declared.Side.TheVariants.{Partner}
use Rattle.port_laws.specs.Effects.{Call, message, next, start_over, drop, enter, exit, timer, protocol_error, one_sided, concerns, is_owners, Effect, effect_of, decided_on, waiters_effect, on_side}
use Rattle.port_laws.proofs.Sides.{waits_seen, nothing_seen}

-- a message to a laptop that awaits nothing leaves it awaiting nothing
module _ (l : Laptop) (m : Memory) (idle : l.wait ≡ None) where
  request_idle : (x : Message) → (hear_request l x.head (length x.objects) (get_or x.objects 0 0)).laptop.wait ≡ None
  unfolding hear_request
  request_idle x = go (eqb x.head.command attention_command)
    where
      go : (t : Bool) →
          (cond t (accepted_with (Attention (notice_of x.head (length x.objects) (get_or x.objects 0 0))) l) (refused_by 6 l)).laptop.wait ≡
          None
      go true = idle
      go false = idle

  unawaited_idle : (x : Message) → (hear_unawaited l x.head).laptop.wait ≡ None
  unfolding hear_unawaited
  unawaited_idle x = go (is_late_page l x.head)
    where
      go : (t : Bool) → (cond t (refused_by 6 (dropped l)) (refused_by 6 l)).laptop.wait ≡ None
      go true = refl
      go false = idle

  hear_idle : (o : Outcome) → (hear l m o).step.laptop.wait ≡ None
  unfolding hear
  hear_idle (refused number) = idle
  hear_idle (accepted at x) = go (eqb x.head.kind req) (fits l.wait x.head) (ap (λ (w : Option Request). fits w x.head) idle)
    where
      go : (a b : Bool) → b ≡ false →
          (cond a (only m (hear_request l x.head (length x.objects) (get_or x.objects 0 0)))
          (cond b (hear_answer l m at x) (only m (hear_unawaited l x.head)))).step.laptop.wait ≡ None
      go true b e = request_idle x
      go false true e = absurd (false≢true (sym e))
      go false false e = unawaited_idle x

  pub message_idle : (o : Outcome) → (heard l m o).step.laptop.wait ≡ None
  unfolding heard
  message_idle o = go (short_runs (length m.run) (length m.held_run))
    where
      go : (t : Bool) → (cond t (only m (refused_by 11 l)) (hear l m o)).step.laptop.wait ≡ None
      go true = idle
      go false = hear_idle o

-- an owner's call of 01 refuses first what every one does, so that refusing it once more makes no difference
module _ (l : Laptop) (run held_run : ℕ) where
  once : (n : ℕ) (d : Decision) → unless n l (unless n l d) ≡ unless n l d
  unfolding unless
  once n d = go (eqb n 0)
    where
      go : (t : Bool) → cond t (cond t d (refuses n l)) (refuses n l) ≡ cond t d (refuses n l)
      go true = refl
      go false = refl

  once_asking : (entered : List ℕ) (d : Decision) →
      unless (owner_refusal l run held_run) l (unless (asking_refusal l entered run held_run) l d) ≡ unless (asking_refusal l entered run held_run) l d
  unfolding unless asking_refusal
  once_asking entered d = go (owner_refusal l run held_run) (eqb (owner_refusal l run held_run) 0) refl
    where
      after : ℕ
      after = cond (any_entered entered) 13 0

      go : (n : ℕ) (t : Bool) → eqb n 0 ≡ t →
          cond t (cond (eqb (cond t after n) 0) d (refuses (cond t after n) l)) (refuses n l) ≡
          cond (eqb (cond t after n) 0) d (refuses (cond t after n) l)
      go n true e = refl
      go n false e = rw e

-- a side is refused first as the laptop that it sees, unless the other waits and no run is short
module _ (side : Side) (p : Port) (run held_run : ℕ) where
  pub refusal_seen : is_others side p.wait && not (short_runs run held_run) ≡ false → owners_refusal p run held_run ≡ owner_refusal (seen side p) run held_run
  unfolding owners_refusal owner_refusal
  refusal_seen free = go (short_runs run held_run) (is_others side p.wait) free (waits_seen side p)
    where
      go : (t o : Bool) → o && not t ≡ false → (o ≡ false → is_waiting p.wait ≡ is_awaiting (seen side p).wait) →
          ◌≡◌ {A = ℕ} (cond t 11 (cond (is_waiting p.wait) 7 0)) (cond t 11 (cond (is_awaiting (seen side p).wait) 7 0))
      go true o e f = refl
      go false true e f = absurd (false≢true (sym e))
      go false false e f = ap (λ (b : Bool). cond b 7 0) (f refl)

-- the effect of an owner's call, by a decision that 01's call makes
module _ (side : Side) (p : Port) (m : Memory) (out : List ℕ) where
  abbrev l : Laptop
  l = seen side p

  abbrev run : ℕ
  run = length m.run

  abbrev held_run : ℕ
  held_run = length m.held_run

  owners_seen : (d : Decision) → unless (owner_refusal l run held_run) l d ≡ d → owners_refusal p run held_run ≡ owner_refusal l run held_run →
      decided_on side p m out (unless (owners_refusal p run held_run) l d) ≡ on_side side p (decided l m out d)
  owners_seen d e f = ap (λ (x : Decision). decided_on side p m out x) (ap (λ (n : ℕ). unless n l d) f ∙ e)

  pub effect_seen_lem : (c : Call) → concerns c p.wait ≡ side → is_owners c && (is_others side p.wait && not (short_runs run held_run)) ≡ false →
      effect_of c p m out ≡ on_side side p (laptop_effect_of (one_sided c) l m out)
  unfolding decide_next decide_start_over decide_drop decide_enter decide_exit
  effect_seen_lem (message s bytes) e f = ap (λ (x : Side). on_side x p (laptop_effect_of (one_sided (message s bytes)) (seen x p) m out)) e
  effect_seen_lem (next s) e f = ap (λ (x : Side). effect_of (next x) p m out) e ∙ owners_seen _ (once_asking l run held_run m.entered _) (refusal_seen side p run held_run f)
  effect_seen_lem (start_over s) e f = ap (λ (x : Side). effect_of (start_over x) p m out) e ∙ owners_seen _ (once_asking l run held_run m.entered _) (refusal_seen side p run held_run f)
  effect_seen_lem (drop s) e f = ap (λ (x : Side). effect_of (drop x) p m out) e ∙ owners_seen _ (once l run held_run (owner_refusal l run held_run) _) (refusal_seen side p run held_run f)
  effect_seen_lem (enter s svid position) e f = ap (λ (x : Side). effect_of (enter x svid position) p m out) e ∙ owners_seen _ (once l run held_run (owner_refusal l run held_run) _) (refusal_seen side p run held_run f)
  effect_seen_lem (exit s svid position) e f = ap (λ (x : Side). effect_of (exit x svid position) p m out) e ∙ owners_seen _ (once l run held_run (owner_refusal l run held_run) _) (refusal_seen side p run held_run f)
  effect_seen_lem (timer first last) e f = ap (λ (x : Side). decided_on x p m out (decide_timer first last (seen x p) (seen x p).wait)) e
  effect_seen_lem protocol_error e f = ap (λ (x : Side). decided_on x p m out (decide_error (seen x p) (seen x p).wait)) e

-- where nothing is awaited, a timer and the protocol error are refused 9, and nothing changes
abbrev pub refused_nine : Port → Memory → List ℕ → Effect
refused_nine p m out = record { step = stepped_on Partner p (refused_by 9 (seen Partner p)); after = m; buffer = out }

module _ (p : Port) (idle : p.wait ≡ None) (m : Memory) (out : List ℕ) where
  pub timer_nine : (first last : ℕ) → waiters_effect p m out (λ l. decide_timer first last l l.wait) ≡ refused_nine p m out
  unfolding decide_timer step_of buffer_of
  timer_nine first last =
      ap (λ (w : Wait). decided_on (waiting_side w) p m out (decide_timer first last (seen (waiting_side w) p) (seen (waiting_side w) p).wait)) idle ∙
      ap (λ (w : Option Request). decided_on Partner p m out (decide_timer first last (seen Partner p) w)) (nothing_seen Partner p idle)

  pub error_nine : waiters_effect p m out (λ l. decide_error l l.wait) ≡ refused_nine p m out
  unfolding decide_error step_of buffer_of
  error_nine =
      ap (λ (w : Wait). decided_on (waiting_side w) p m out (decide_error (seen (waiting_side w) p) (seen (waiting_side w) p).wait)) idle ∙
      ap (λ (w : Option Request). decided_on Partner p m out (decide_error (seen Partner p) w)) (nothing_seen Partner p idle)
