-- The numbers of the owner's calls, the timers and the protocol error are given exactly when 01's lines say.
use mathlib.Core.Logic.{◌⊎◌, inl, inr}
use mathlib.Core.Path.{◌≡◌, refl, ap, sym, subst}
use mathlib.Core.Bool.{Bool, true, false, cond, not, ◌&&◌, ◌||◌, false≢true}
use mathlib.Core.List.{List, [], ◌∷◌, ◌++◌}
use Prim.Native.Nat.{ℕ, ◌<◌}
use native.Mathlib.Omega.{arith}
use lib.Dec.{leb, ltb, eqb}
use lib.ListN.{length}
use borrow.Author.Tests.{eqb-true}
use Rattle.messages.specs.Layout.{Message, message_length}
use Rattle.messages.specs.Writing.{well_shaped, write_refusal}
use Rattle.messages.specs.declared.request.Request.{Request}
use Rattle.laptop.specs.Calls.{Decision, refuses, accepts, sends, refused_by, sent_by, step_of, unless, short_runs, is_awaiting}
use Rattle.laptop.specs.State.{Memory, identity_request, identity_asked}
use Rattle.owner.specs.Owner.{owner_refusal, any_entered, asking_refusal, request_message, asks_next, decide_next, decide_start_over, decide_drop}
use Rattle.timers.specs.Timers.{over, decide_timer, decide_error}
use Rattle.laptop.specs.declared.Candidate.{Candidate}
use Rattle.laptop.specs.declared.Candidate.TheVariants.{Absent, Open, Done}
use Rattle.laptop.specs.declared.Laptop.{Laptop}
use Rattle.laptop.specs.declared.Told.{Told}
use Rattle.laptop.specs.declared.Told.TheVariants.{Timer, ProtocolError}
use Rattle.std.specs.Prelude.{Option, Some, None}
use Rattle.laptop_laws.specs.Given.{Line, ◌when◌, First, ShortRun, Awaits, owner_lines, sending_lines, next_request, AnyEntered, RightTimer}
use Rattle.laptop_laws.proofs.Bits.{tells_any}
use Rattle.laptop_laws.proofs.First.{Tells, tells_and, tells_not, tells_leb, tells_ltb, first_test, Numbered, first_behind}

-- a lent run, and what is awaited
pub tells_short : (run held_run : ℕ) → Tells (short_runs run held_run) ((run < 432) ⊎ (held_run < 432))
unfolding short_runs
tells_short run held_run = go (ltb run 432) (ltb held_run 432) (tells_ltb run 432) (tells_ltb held_run 432)
  where
    go : (a b : Bool) → Tells a (run < 432) → Tells b (held_run < 432) → Tells (a || b) ((run < 432) ⊎ (held_run < 432))
    go true b ha hb = inl ha
    go false true ha hb = inr hb
    go false false ha hb = λ x. none x
      where
        none : (run < 432) ⊎ (held_run < 432) → ⊥
        none (inl x) = ha x
        none (inr x) = hb x

tells_awaits : (w : Option Request) → Tells (is_awaiting w) (w ≡ None → ⊥)
tells_awaits None = λ h. h refl
tells_awaits (Some r) = λ e. false≢true (sym (ap is_awaiting e))

module _ (l : Laptop) (m : Memory) where
  pub owner_first : First (owner_lines l m) (owner_refusal l (length m.run) (length m.held_run))
  unfolding owner_refusal
  owner_first =
      first_test (short_runs (length m.run) (length m.held_run)) 11 (ShortRun m) (7 when Awaits l ∷ []) _ (tells_short (length m.run) (length m.held_run))
      (λ e. first_test (is_awaiting l.wait) 7 _ [] 0 (tells_awaits l.wait) (λ f. refl))

  pub owner_numbered : Numbered (owner_lines l m)
  owner_numbered = omega arith

-- a request
module _ (l : Laptop) (out : List ℕ) where
  sends_number : (x : Message) (after : Laptop) → (step_of l (sends x after) (length out)).refusal ≡ write_refusal x (length out)
  unfolding step_of
  sends_number x after = go (eqb (write_refusal x (length out)) 0) refl
    where
      go : (t : Bool) → eqb (write_refusal x (length out)) 0 ≡ t →
          (cond t (sent_by (message_length x) after) (refused_by (write_refusal x (length out)) l)).refusal ≡ write_refusal x (length out)
      go true e = sym (eqb-true _ 0 e)
      go false e = refl

  write_first : (r : Request) → First (sending_lines r out) (write_refusal (request_message r) (length out))
  unfolding write_refusal
  write_first r =
      first_test (not (well_shaped (request_message r))) 5 _ (11 when (length out < 4) ∷ []) _ (tells_not (well_shaped (request_message r)))
      (λ e.
      first_test (ltb (length out) 4) 11 (length out < 4) [] 0 (tells_ltb (length out) 4) (λ f. refl))

  pub sent_first : (r : Request) (after : Laptop) → First (sending_lines r out) (step_of l (sends (request_message r) after) (length out)).refusal
  sent_first r after = subst (First (sending_lines r out)) (sym (sends_number (request_message r) after)) (write_first r)

  next_first : (m : Memory) (c : Candidate) → First (sending_lines (next_request c l m) out) (step_of l (asks_next l m.svids c) (length out)).refusal
  unfolding asks_next
  next_first m Absent = sent_first _ _
  next_first m Open = sent_first _ _
  next_first m Done = sent_first _ _

  -- a refusal that comes before a decision
  unless_number : (n : ℕ) (d : Decision) → (step_of l (unless n l d) (length out)).refusal ≡ cond (eqb n 0) (step_of l d (length out)).refusal n
  unfolding unless step_of
  unless_number n d = go (eqb n 0)
    where
      go : (t : Bool) → (step_of l (cond t d (refuses n l)) (length out)).refusal ≡ cond t (step_of l d (length out)).refusal n
      go true = refl
      go false = refl

  pub unless_first : (before behind : List Line) (n : ℕ) (d : Decision) → Numbered before → First before n →
      (n ≡ 0 → First behind (step_of l d (length out)).refusal) → First (before ++ behind) (step_of l (unless n l d) (length out)).refusal
  unless_first before behind n d numbered f rest =
      subst (First (before ++ behind)) (sym (unless_number n d)) (first_behind before behind n (step_of l d (length out)).refusal numbered f rest)

-- next and start over
module _ (l : Laptop) (m : Memory) (out : List ℕ) where
  asking_first : First (owner_lines l m ++ 13 when AnyEntered m ∷ []) (asking_refusal l m.entered (length m.run) (length m.held_run))
  unfolding asking_refusal
  asking_first =
      first_behind (owner_lines l m) (13 when AnyEntered m ∷ []) (owner_refusal l (length m.run) (length m.held_run)) _ (owner_numbered l m)
      (owner_first l m) (λ z. first_test (any_entered m.entered) 13 (AnyEntered m) [] 0 (tells_any m.entered) (λ f. refl))

  asking_numbered : Numbered (owner_lines l m ++ 13 when AnyEntered m ∷ [])
  asking_numbered = omega arith

  pub next_given : First (owner_lines l m ++ 13 when AnyEntered m ∷ sending_lines (next_request l.candidate l m) out)
      (step_of l (decide_next l m.svids m.entered (length m.run) (length m.held_run)) (length out)).refusal
  unfolding decide_next
  next_given =
      unless_first l out (owner_lines l m ++ 13 when AnyEntered m ∷ []) (sending_lines (next_request l.candidate l m) out) _ _ asking_numbered asking_first
      (λ z. next_first l out m l.candidate)

  pub start_given : First (owner_lines l m ++ 13 when AnyEntered m ∷ sending_lines identity_request out)
      (step_of l (decide_start_over l m.entered (length m.run) (length m.held_run)) (length out)).refusal
  unfolding decide_start_over
  start_given =
      unless_first l out (owner_lines l m ++ 13 when AnyEntered m ∷ []) (sending_lines identity_request out) _ _ asking_numbered asking_first
      (λ z. sent_first l out identity_request (identity_asked l))

  turns_number : (told : Told) (after : Laptop) → (step_of l (accepts told after) (length out)).refusal ≡ 0
  unfolding step_of
  turns_number told after = refl

  pub drop_given : First (owner_lines l m) (step_of l (decide_drop l (length m.run) (length m.held_run)) (length out)).refusal
  unfolding decide_drop
  drop_given = unless_first l out (owner_lines l m) [] _ _ (owner_numbered l m) (owner_first l m) (λ z. turns_number _ _)

-- timers and the protocol error
module _ (l : Laptop) (out : List ℕ) where
  over_number : (r : Request) (told : Told) → (step_of l (over l r told) (length out)).refusal ≡ 0
  unfolding over step_of
  over_number r told = go (eqb r.command 1) (ltb r.command 4) _ _ _ refl refl refl
    where
      go : (a b : Bool) (x y z : Decision) → (step_of l x (length out)).refusal ≡ 0 → (step_of l y (length out)).refusal ≡ 0 →
          (step_of l z (length out)).refusal ≡ 0 → (step_of l (cond a x (cond b y z)) (length out)).refusal ≡ 0
      go true b x y z ex ey ez = ex
      go false true x y z ex ey ez = ey
      go false false x y z ex ey ez = ez

  nine_number : (step_of l (refuses 9 l) (length out)).refusal ≡ 9
  unfolding step_of
  nine_number = refl

  pub timer_given : (first last : ℕ) (w : Option Request) →
      First (9 when (RightTimer first last w → ⊥) ∷ []) (step_of l (decide_timer first last l w) (length out)).refusal
  unfolding decide_timer
  timer_given first last None = inl (λ x. x, nine_number)
  timer_given first last (Some r) =
      go (leb first r.command && leb r.command last)
      (tells_and (leb first r.command) (leb r.command last) _ _ (tells_leb first r.command) (tells_leb r.command last))
    where
      go : (t : Bool) → Tells t (RightTimer first last (Some r)) →
          First (9 when (RightTimer first last (Some r) → ⊥) ∷ []) (step_of l (cond t (over l r (Timer r)) (refuses 9 l)) (length out)).refusal
      go true h = inr (λ n. n h, over_number r (Timer r))
      go false h = inl (h, nine_number)

  pub error_given : (w : Option Request) → First (9 when (w ≡ None) ∷ []) (step_of l (decide_error l w) (length out)).refusal
  unfolding decide_error
  error_given None = inl (refl, nine_number)
  error_given (Some r) = inr (λ e. false≢true (sym (ap is_awaiting e)), over_number r (ProtocolError r))
