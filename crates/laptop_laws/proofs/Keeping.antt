-- A well-formed laptop stays so by the owner's calls and by timers.
use mathlib.Core.Logic.{inl, inr}
use mathlib.Core.Path.{◌≡◌, refl, ap, sym, ◌∙◌}
use mathlib.Core.Bool.{Bool, true, false, cond, not, ◌&&◌, ◌||◌, false≢true}
use mathlib.Core.List.{List}
use Prim.Native.Nat.{ℕ, zero, suc, ◌≤◌}
use native.Mathlib.Omega.{arith}
use lib.Dec.{leb, ltb, eqb}
use lib.ListN.{length, get_or, replicate}
use borrow.Author.Tests.{eqb-true, eqb-false}
use Rattle.messages.specs.Layout.{message_length}
use Rattle.messages.specs.Writing.{write_refusal}
use Rattle.messages.specs.declared.request.Request.{Request}
use Rattle.laptop.specs.Calls.{Decision, refuses, accepts, sends, refused_by, sent_by, step_of, unless}
use Rattle.laptop.specs.Catalogue.{held_list}
use Rattle.laptop.specs.Marks.{place_of, six_bits}
use Rattle.owner.specs.Owner.{owner_refusal, any_entered, asking_refusal, asks_next, decide_next, decide_start_over, decide_drop, is_absent, decide_enter, decide_exit}
use Rattle.laptop.specs.State.{Memory, ended, dropped, awaiting, identity_asked, fresh_laptop}
use Rattle.timers.specs.Timers.{over, decide_timer, decide_error}
use Rattle.laptop_laws.specs.WellFormed.{Lent, WaitFits, awaits_identity, is_asking, ModeFits, WellFormed}
use Rattle.laptop.specs.declared.Candidate.{Candidate}
use Rattle.laptop.specs.declared.Candidate.TheVariants.{Absent, Open, Done}
use Rattle.laptop.specs.declared.Laptop.{Laptop}
use Rattle.laptop.specs.declared.Told.{Told}
use Rattle.laptop.specs.declared.Told.TheVariants.{Timer, ProtocolError}
use Rattle.std.specs.Prelude.{Option, Some, None}
use Rattle.laptop_laws.proofs.Bits.{none_set, none_entered}
use Rattle.laptop_laws.proofs.Places.{AnyOf, enter_free, exit_free}

-- a candidate is absent where it is said to be
pub absent_is : (c : Candidate) → is_absent c ≡ true → c ≡ Absent
absent_is Absent e = refl
absent_is Open e = absurd (false≢true e)
absent_is Done e = absurd (false≢true e)

module _ (l : Laptop) (m : Memory) (w : WellFormed l m) where
  pub ended_formed : WellFormed (ended l) m
  ended_formed =
      record {
        lent = w.lent;
        held_fits = w.held_fits;
        candidate_fits = w.candidate_fits;
        wait_fits = tt;
        none_entered = λ a. w.none_entered (still (not (is_absent l.candidate)) a);
        sets_fit = w.sets_fit;
        entered_held = w.entered_held;
        mode_fits = tt;
      }
    where
      still : (t : Bool) → (t || false) ≡ true → (t || awaits_identity l.wait) ≡ true
      still true a = refl
      still false a = absurd (false≢true a)

  pub dropped_formed : WellFormed (dropped l) m
  dropped_formed =
      record {
        lent = w.lent;
        held_fits = w.held_fits;
        candidate_fits = tt;
        wait_fits = tt;
        none_entered = λ a. absurd (false≢true a);
        sets_fit = w.sets_fit;
        entered_held = w.entered_held;
        mode_fits = tt;
      }

  awaiting_formed : (r : Request) → WaitFits (Some r) l.candidate l.pages l.stored m.svids →
      (is_asking (awaiting r l) ≡ true → any_entered m.entered ≡ false) → ModeFits (Some r) l m → WellFormed (awaiting r l) m
  awaiting_formed r f n k =
      record {
        lent = w.lent;
        held_fits = w.held_fits;
        candidate_fits = w.candidate_fits;
        wait_fits = f;
        none_entered = n;
        sets_fit = w.sets_fit;
        entered_held = w.entered_held;
        mode_fits = k;
      }

  asked_formed : any_entered m.entered ≡ false → WellFormed (identity_asked l) m
  asked_formed n =
      record {
        lent = w.lent;
        held_fits = w.held_fits;
        candidate_fits = tt;
        wait_fits = inl (refl, refl, refl);
        none_entered = λ a. n;
        sets_fit = w.sets_fit;
        entered_held = w.entered_held;
        mode_fits = λ h. absurd (omega arith);
      }

-- a decision whose new state is well-formed
abbrev Forms : Memory → Decision → Type 0
Forms m (refuses number after) = WellFormed after m
Forms m (accepts told after) = WellFormed after m
Forms m (sends x after) = WellFormed after m

either : (m : Memory) (t : Bool) (a b : Decision) → (t ≡ true → Forms m a) → Forms m b → Forms m (cond t a b)
either m true a b fa fb = fa refl
either m false a b fa fb = fb

module _ (l : Laptop) (m : Memory) (w : WellFormed l m) where
  unless_formed : (number : ℕ) (d : Decision) → (number ≡ 0 → Forms m d) → Forms m (unless number l d)
  unfolding unless
  unless_formed number d f = either m (eqb number 0) d _ (λ e. f (eqb-true number 0 e)) w

  pub step_formed : (d : Decision) → Forms m d → (room : ℕ) → WellFormed (step_of l d room).laptop m
  unfolding step_of
  step_formed (refuses number after) f room = f
  step_formed (accepts told after) f room = f
  step_formed (sends x after) f room = go (eqb (write_refusal x room) 0)
    where
      go : (t : Bool) → WellFormed (cond t (sent_by (message_length x) after) (refused_by (write_refusal x room) l)).laptop m
      go true = f
      go false = w

  -- next and start over ask only where no mode is entered
  none_asking : asking_refusal l m.entered (length m.run) (length m.held_run) ≡ 0 → any_entered m.entered ≡ false
  unfolding asking_refusal
  none_asking e = go (eqb (owner_refusal l (length m.run) (length m.held_run)) 0) (any_entered m.entered) refl e
    where
      go : (t a : Bool) → eqb (owner_refusal l (length m.run) (length m.held_run)) 0 ≡ t →
          cond t (cond a 13 0) (owner_refusal l (length m.run) (length m.held_run)) ≡ 0 → a ≡ false
      go true true et z = absurd (omega arith)
      go true false et z = refl
      go false a et z = absurd (eqb-false _ 0 et z)

  next_formed : any_entered m.entered ≡ false → (c : Candidate) → l.candidate ≡ c → Forms m (asks_next l m.svids c)
  unfolding asks_next
  next_formed n Absent e = asked_formed l m w n
  next_formed n Open e = awaiting_formed l m w _ (inr (inl (refl, e))) (λ a. n) (λ h. absurd (omega arith))
  next_formed n Done e = awaiting_formed l m w _ (inr (inr (inl (refl, e)))) (λ a. n) (λ h. absurd (omega arith))

  pub next_keeps : Forms m (decide_next l m.svids m.entered (length m.run) (length m.held_run))
  unfolding decide_next
  next_keeps = unless_formed _ _ (λ z. next_formed (none_asking z) l.candidate refl)

  pub start_keeps : Forms m (decide_start_over l m.entered (length m.run) (length m.held_run))
  unfolding decide_start_over
  start_keeps = unless_formed _ _ (λ z. asked_formed l m w (none_asking z))

  pub drop_keeps : Forms m (decide_drop l (length m.run) (length m.held_run))
  unfolding decide_drop
  drop_keeps = unless_formed _ _ (λ z. dropped_formed l m w)

  -- enter and exit are sent only with no candidate
  quiet : (r : Request) → l.candidate ≡ Absent → 4 ≤ r.command → is_asking (awaiting r l) ≡ true → any_entered m.entered ≡ false
  quiet r e h a = absurd (false≢true (sym (go (eqb r.command 1) refl) ∙ a))
    where
      go : (t : Bool) → eqb r.command 1 ≡ t → is_asking (awaiting r l) ≡ false
      go true ec = absurd (omega (arith, eqb-true r.command 1 ec))
      go false ec = rw (e, ec)

  mode_formed : (r : Request) → l.candidate ≡ Absent → 4 ≤ r.command → ModeFits (Some r) l m → WellFormed (awaiting r l) m
  mode_formed r e h k = awaiting_formed l m w r (inr (inr (inr (h, e)))) (quiet r e h) k

  absent_zero : (c : Candidate) → ◌≡◌ {A = ℕ} (cond (is_absent c) 0 13) 0 → c ≡ Absent
  absent_zero Absent z = refl
  absent_zero Open z = absurd (omega arith)
  absent_zero Done z = absurd (omega arith)

  abbrev held : List ℕ
  held = held_list l.held m.held_svids

  pub enter_keeps : (svid position : ℕ) →
      Forms m (decide_enter l m.held_svids m.held_modes m.entered (length m.run) (length m.held_run) svid position)
  unfolding decide_enter
  enter_keeps svid position =
      unless_formed _ _
      (λ a.
      unless_formed _ _
      (λ z.
      unless_formed _ _
      (λ b.
      let free = enter_free held m.held_modes m.entered svid position b in
      mode_formed _ (absent_zero l.candidate z) (omega arith) (λ h. inl (refl, (place_of svid held, free.0, free.1, free.2))))))

  -- exit is refused unless a mode is entered, and then there is no candidate
  some_entered : (position i : ℕ) → AnyOf m.entered position i → any_entered m.entered ≡ false → ⊥
  some_entered position i (inl x) n = none_entered m.entered n i position x
  some_entered position i (inr x) n = none_entered m.entered n i x.1.0 x.1.1

  exit_absent : (position i : ℕ) → AnyOf m.entered position i → l.candidate ≡ Absent
  exit_absent position i x = go (is_absent l.candidate) refl
    where
      go : (t : Bool) → is_absent l.candidate ≡ t → l.candidate ≡ Absent
      go true e = absent_is l.candidate e
      go false e = absurd (some_entered position i x (w.none_entered (rw e)))

  pub exit_keeps : (svid position : ℕ) →
      Forms m (decide_exit l m.held_svids m.held_modes m.entered (length m.run) (length m.held_run) svid position)
  unfolding decide_exit
  exit_keeps svid position =
      unless_formed _ _
      (λ a.
      unless_formed _ _
      (λ z.
      let free = exit_free held m.held_modes m.entered svid position z in
      mode_formed _ (exit_absent position (place_of svid held) free.2) (omega arith)
      (λ h. inr (refl, (place_of svid held, free.0, free.1, free.2)))))

  over_keeps : (r : Request) (told : Told) → Forms m (over l r told)
  unfolding over
  over_keeps r told =
      either m (eqb r.command 1) _ _ (λ e. dropped_formed l m w) (either m (ltb r.command 4) _ _ (λ e. ended_formed l m w) (ended_formed l m w))

  pub timer_keeps : (first last : ℕ) (x : Option Request) → Forms m (decide_timer first last l x)
  unfolding decide_timer
  timer_keeps first last None = w
  timer_keeps first last (Some r) = either m (leb first r.command && leb r.command last) _ _ (λ e. over_keeps r (Timer r)) w

  pub error_keeps : (x : Option Request) → Forms m (decide_error l x)
  unfolding decide_error
  error_keeps None = w
  error_keeps (Some r) = over_keeps r (ProtocolError r)

-- a fresh laptop, with what it is lent
zeros_at : (n i : ℕ) → ◌≡◌ {A = ℕ} (get_or (replicate n 0) i 0) 0
zeros_at zero i = refl
zeros_at (suc n) zero = refl
zeros_at (suc n) (suc i) = zeros_at n i

pub fresh_formed : (m : Memory) → Lent m → m.entered ≡ replicate 72 0 → WellFormed fresh_laptop m
fresh_formed m lent e =
    record {
      lent = lent;
      held_fits = tt;
      candidate_fits = tt;
      wait_fits = tt;
      none_entered = λ a. absurd (false≢true a);
      sets_fit = λ i. omega (arith, empty i);
      entered_held = λ i p s. absurd (none_set (get_or m.entered i 0) (ap six_bits (empty i)) p s);
      mode_fits = tt;
    }
  where
    empty : (i : ℕ) → get_or m.entered i 0 ≡ 0
    empty i = ap (λ (l : List ℕ). get_or l i 0) e ∙ zeros_at 72 i
