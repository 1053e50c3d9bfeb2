-- The held catalogue and its run change only when a catalogue is published.
use mathlib.Core.Logic.{inl, inr}
use mathlib.Core.Path.{◌≡◌, refl, ap, sym, ◌∙◌}
use mathlib.Core.Bool.{Bool, true, false, cond, ◌&&◌}
use mathlib.Core.List.{List}
use Prim.Native.Nat.{ℕ, ◌+◌, ◌<◌}
use native.Mathlib.Omega.{arith}
use lib.Dec.{leb, ltb, eqb}
use lib.ListN.{length}
use borrow.Author.Tests.{eqb-true, eqb-false}
use Rattle.laws.specs.Padded.{padded}
use Rattle.messages.specs.Layout.{Message, message_length}
use Rattle.messages.specs.Reading.{accepted, refused, outcome, message_in, edition_in, read_refusal, read_outcome}
use Rattle.messages.specs.Requests.{request_of}
use Rattle.messages.specs.Writing.{write_refusal}
use Rattle.messages.specs.declared.Head.{Head}
use Rattle.messages.specs.declared.edition.Edition.{Edition}
use Rattle.messages.specs.declared.request.Request.{Request}
use Rattle.pages.specs.Pages.{halves}
use Rattle.taking.specs.declared.Verdict.{Verdict}
use Rattle.taking.specs.declared.Verdict.TheVariants.{Bad, Repeat, More, Ends}
use Rattle.gathering.specs.Gathering.{Opening, Gathering, hear_identity, unless_last, take_as, take_page, none_gathered, hear_svids}
use Rattle.hearing.specs.Answers.{Storing, Marking, store_modes, hear_modes, hear_mode, is_whole}
use Rattle.laptop.specs.Calls.{Decision, refuses, accepts, sends, refused_by, sent_by, step_of, unless, short_runs}
use Rattle.laptop_laws.specs.Effects.{Call, message, next, start_over, drop, enter, exit, timer, protocol_error, effect_of}
use Rattle.hearing.specs.Hearing.{Result, hear_request, fits, is_late_page, hear_unawaited, with_opening, with_marking, step_if_whole, list_if_whole, run_if_whole, published_if_whole, publishing, hear_answer, hear, heard}
use Rattle.laptop_laws.specs.Holding.{Holding, holding, candidate_held, MakesWhole, Publishes, ReplacedWhen}
use Rattle.owner.specs.Owner.{asks_next, decide_next, decide_start_over, decide_drop, decide_enter, decide_exit}
use Rattle.laptop.specs.State.{Memory, memory, with_pages, counted}
use Rattle.timers.specs.Timers.{over, decide_timer, decide_error}
use Rattle.laptop.specs.declared.Candidate.{Candidate}
use Rattle.laptop.specs.declared.Candidate.TheVariants.{Absent, Open, Done}
use Rattle.std.specs.Prelude.{Option, Some, None}
use Rattle.laptop.specs.declared.Size.{Size}
use Rattle.laptop.specs.declared.Laptop.{Laptop}
use Rattle.laptop.specs.Step.{Step}
use Rattle.laptop.specs.declared.Told.{Told}
use Rattle.laptop.specs.declared.Told.TheVariants.{Timer, ProtocolError}
use Rattle.laptop_laws.specs.Given.{ShortRun, FitsAwaited}
use Rattle.laptop_laws.proofs.Completing.{kind_not, other_not, svids_whole, modes_whole}
use Rattle.laptop_laws.proofs.First.{Tells, tells_true, tells_false, tells_as}
use Rattle.laptop_laws.proofs.MessageGiven.{four_kinds, tells_fits}
use Rattle.laptop_laws.proofs.OwnerGiven.{tells_short}

-- a decision leaves what is held
abbrev Keeps : Laptop → Decision → Type 0
Keeps l (refuses number after) = after.held ≡ l.held
Keeps l (accepts told after) = after.held ≡ l.held
Keeps l (sends m after) = after.held ≡ l.held

either : (l : Laptop) (t : Bool) (a b : Decision) → Keeps l a → Keeps l b → Keeps l (cond t a b)
either l true a b ka kb = ka
either l false a b ka kb = kb

unless_keeps : (l : Laptop) (number : ℕ) (d : Decision) → Keeps l d → Keeps l (unless number l d)
unfolding unless
unless_keeps l number d k = either l (eqb number 0) d _ k refl

step_keeps : (l : Laptop) (d : Decision) → Keeps l d → (room : ℕ) → (step_of l d room).laptop.held ≡ l.held
unfolding step_of
step_keeps l (refuses number after) k room = k
step_keeps l (accepts told after) k room = k
step_keeps l (sends m after) k room = go (eqb (write_refusal m room) 0)
  where
    go : (t : Bool) → (cond t (sent_by (message_length m) after) (refused_by (write_refusal m room) l)).laptop.held ≡ l.held
    go true = k
    go false = refl

next_keeps : (l : Laptop) (svids : List ℕ) (candidate : Candidate) → Keeps l (asks_next l svids candidate)
unfolding asks_next
next_keeps l svids Absent = refl
next_keeps l svids Open = refl
next_keeps l svids Done = refl

over_keeps : (l : Laptop) (r : Request) (told : Told) → Keeps l (over l r told)
unfolding over
over_keeps l r told = either l (eqb r.command 1) _ _ refl (either l (ltb r.command 4) _ _ refl refl)

timer_keeps : (first last : ℕ) (l : Laptop) (w : Option Request) → Keeps l (decide_timer first last l w)
unfolding decide_timer
timer_keeps first last l None = refl
timer_keeps first last l (Some r) = either l (leb first r.command && leb r.command last) _ _ (over_keeps l r (Timer r)) refl

error_keeps : (l : Laptop) (w : Option Request) → Keeps l (decide_error l w)
unfolding decide_error
error_keeps l None = refl
error_keeps l (Some r) = over_keeps l r (ProtocolError r)

-- so does what is decided of a message, before anything is published
abbrev StepKeeps : Laptop → Step → Type 0
StepKeeps l s = s.laptop.held ≡ l.held

step_either : (l : Laptop) (t : Bool) (a b : Step) → StepKeeps l a → StepKeeps l b → StepKeeps l (cond t a b)
step_either l true a b ka kb = ka
step_either l false a b ka kb = kb

page_either : (l : Laptop) (t : Bool) (a b : Gathering) → StepKeeps l a.step → StepKeeps l b.step → StepKeeps l (cond t a b).step
page_either l true a b ka kb = ka
page_either l false a b ka kb = kb

last_keeps : (l : Laptop) (svids : List ℕ) (g : Gathering) → StepKeeps l g.step → StepKeeps l (unless_last l svids g).step
unfolding unless_last
last_keeps l svids g k = page_either l (leb 200 l.pages) _ g refl k

taken_keeps : (l : Laptop) (svids values : List ℕ) (n : ℕ) (v : Verdict) → StepKeeps l (take_as l svids values n v).step
unfolding take_as
taken_keeps l svids values n Bad = refl
taken_keeps l svids values n Repeat = last_keeps l svids _ refl
taken_keeps l svids values n More = last_keeps l svids _ refl
taken_keeps l svids values n (Ends k) = refl

counted_keeps : (l : Laptop) → (counted l).held ≡ l.held
unfolding counted
counted_keeps l = go (ltb l.pages 255)
  where
    go : (t : Bool) → (cond t (with_pages (l.pages + 1) l) l).held ≡ l.held
    go true = refl
    go false = refl

svids_keep : (l : Laptop) (kind : ℕ) (values svids : List ℕ) → StepKeeps l (hear_svids l kind values svids).step
unfolding hear_svids take_page
svids_keep l kind values svids =
    page_either l (eqb kind 1) _ _ (taken_keeps (counted l) svids values _ _ ∙ counted_keeps l)
    (page_either l (eqb kind 3) _ _ refl (page_either l (none_gathered l) _ _ refl refl))

store_either : (l : Laptop) (t : Bool) (a b : Storing) → StepKeeps l a.step → StepKeeps l b.step → StepKeeps l (cond t a b).step
store_either l true a b ka kb = ka
store_either l false a b ka kb = kb

modes_keep : (l : Laptop) (kind : ℕ) (words modes run : List ℕ) → StepKeeps l (hear_modes l kind words modes run).step
unfolding hear_modes store_modes
modes_keep l kind words modes run =
    store_either l (eqb kind 3) _ _ refl (store_either l (eqb kind 1) _ _ (store_either l (ltb l.stored 72) _ _ refl refl) refl)

same_held : (l : Laptop) (m : Memory) (h : Option Size) → h ≡ l.held →
    ◌≡◌ {A = Holding} (record { held = h; svids = m.held_svids; modes = m.held_modes; identity = m.held_identity; run = m.held_run }) (holding l m)
same_held l m h e = ap (λ (x : Option Size). record { held = x; svids = m.held_svids; modes = m.held_modes; identity = m.held_identity; run = m.held_run }) e

-- what is held after a message: replaced exactly when something holds
module _ (l : Laptop) (m : Memory) (when : Type 0) where
  abbrev Holds : Result → Type 0
  Holds r = ReplacedWhen when (holding l m) r.step.laptop r.after

  holds_either : (t : Bool) (a b : Result) → (t ≡ true → Holds a) → (t ≡ false → Holds b) → Holds (cond t a b)
  holds_either true a b ka kb = ka refl
  holds_either false a b ka kb = kb refl

  -- published where the candidate is whole, left otherwise
  module _ (s : Step) (svids modes identity run : List ℕ) where
    abbrev heard_before : Result
    heard_before =
        record { step = s; after = memory svids modes identity run m.held_svids m.held_modes m.held_identity m.held_run m.entered }

    whole_holds : is_whole s.laptop ≡ true →
        (holding (published_if_whole heard_before).step.laptop (published_if_whole heard_before).after ≡
        candidate_held (published_if_whole heard_before).step.laptop (published_if_whole heard_before).after m.held_run) ×
        ((published_if_whole heard_before).step.laptop.candidate ≡ Absent)
    unfolding step_if_whole list_if_whole run_if_whole
    whole_holds e = (rw e, rw e)

    left_holds : StepKeeps l s → is_whole s.laptop ≡ false →
        holding (published_if_whole heard_before).step.laptop (published_if_whole heard_before).after ≡ holding l m
    unfolding step_if_whole list_if_whole run_if_whole
    left_holds k e = rw e (same_held l m s.laptop.held k)

    published_holds : StepKeeps l s → (kind : ℕ) → (kind ≡ 3 → when → ⊥) → ((kind ≡ 3 → ⊥) → Tells (is_whole s.laptop) when) →
        Holds (publishing kind heard_before)
    unfolding publishing
    published_holds k kind busy other =
        holds_either (eqb kind 3) _ _ (λ e. inr (busy (eqb-true kind 3 e), same_held l m s.laptop.held k))
        (λ e. go (is_whole s.laptop) refl (other (eqb-false kind 3 e)))
      where
        go : (t : Bool) → is_whole s.laptop ≡ t → Tells t when → Holds (published_if_whole heard_before)
        go true e h = let now = whole_holds e in inl (h, now.0, now.1)
        go false e h = inr (h, left_holds k e)

  -- no answer to Identity, Enter or Exit publishes
  identity_holds : (when → ⊥) → (at : Edition) (kind n : ℕ) (objects : List ℕ) → Holds (with_opening m (hear_identity l at kind n objects m.svids m.identity))
  unfolding hear_identity
  identity_holds none at kind n objects = go (eqb kind 1) _ _ refl refl
    where
      go : (t : Bool) (a b : Opening) → StepKeeps l a.step → StepKeeps l b.step → Holds (with_opening m (cond t a b))
      go true a b ka kb = inr (none, same_held l m a.step.laptop.held ka)
      go false a b ka kb = inr (none, same_held l m b.step.laptop.held kb)

  mode_holds : (when → ⊥) → (kind : ℕ) (r : Request) → Holds (with_marking m (hear_mode l kind r m.held_svids m.entered))
  unfolding hear_mode
  mode_holds none kind r = go (eqb kind 1) _ _ refl refl
    where
      go : (t : Bool) (a b : Marking) → StepKeeps l a.step → StepKeeps l b.step → Holds (with_marking m (cond t a b))
      go true a b ka kb = inr (none, same_held l m a.step.laptop.held ka)
      go false a b ka kb = inr (none, same_held l m b.step.laptop.held kb)

request_keeps : (l : Laptop) (h : Head) (count object : ℕ) → StepKeeps l (hear_request l h count object)
unfolding hear_request
request_keeps l h count object = step_either l (eqb h.command 6) _ _ refl refl

unawaited_keeps : (l : Laptop) (h : Head) → StepKeeps l (hear_unawaited l h)
unfolding hear_unawaited
unawaited_keeps l h = step_either l (is_late_page l h) _ _ refl refl

module _ (l : Laptop) (m : Memory) (x : Message) (kinds : x.head.kind < 4) where
  abbrev Fits : Type 0
  Fits = FitsAwaited l.wait x.head

  abbrev When : Type 0
  When = Fits × MakesWhole l m x

  answer_holds : (at : Edition) → Fits → (x.head.kind ≡ 0 → ⊥) → Holds l m When (hear_answer l m at x)
  unfolding hear_answer
  answer_holds at fit answers =
      holds_either l m When (eqb x.head.command 1) _ _
      (λ e.
      let first = eqb-true x.head.command 1 e in
      identity_holds l m When (λ w. other_not l m x (λ z. omega (arith, z, first)) (λ z. omega (arith, z, first)) w.1) at x.head.kind
      (length x.objects) (padded x.objects))
      (λ n.
      holds_either l m When (eqb x.head.command 2) _ _
      (λ e.
      published_holds l m When _ _ m.modes m.identity m.run (svids_keep l x.head.kind (halves x.objects) m.svids) x.head.kind
      (λ b w. kind_not l m x (λ z. omega (arith, z, b)) (λ z. omega (arith, z, b)) w.1)
      (λ b.
      fitting (hear_svids l x.head.kind (halves x.objects) m.svids).step.laptop
      (svids_whole l m x kinds answers b (eqb-true x.head.command 2 e))))
      (λ s.
      holds_either l m When (eqb x.head.command 3) _ _
      (λ e.
      published_holds l m When _ m.svids _ m.identity _ (modes_keep l x.head.kind x.objects m.modes m.run) x.head.kind
      (λ b w. kind_not l m x (λ z. omega (arith, z, b)) (λ z. omega (arith, z, b)) w.1)
      (λ b.
      fitting (hear_modes l x.head.kind x.objects m.modes m.run).step.laptop
      (modes_whole l m x kinds answers b (eqb-true x.head.command 3 e))))
      (λ o.
      mode_holds l m When (λ w. other_not l m x (eqb-false x.head.command 2 s) (eqb-false x.head.command 3 o) w.1) x.head.kind
      (request_of x.head))))
    where
      fitting : (y : Laptop) → Tells (is_whole y) (MakesWhole l m x) → Tells (is_whole y) When
      fitting y h = tells_as (is_whole y) (MakesWhole l m x) When (λ w. (fit, w)) (λ w. w.1) h

  read_holds : (at : Edition) → Holds l m When (hear l m (accepted at x))
  unfolding hear
  read_holds at =
      holds_either l m When (eqb x.head.kind 0) _ _
      (λ e.
      let is = eqb-true x.head.kind 0 e in
      inr (λ w. kind_not l m x (λ z. omega (arith, z, is)) (λ z. omega (arith, z, is)) w.1, same_held l m _ (request_keeps l x.head _ _)))
      (λ e.
      holds_either l m When (fits l.wait x.head) _ _
      (λ f. answer_holds at (tells_true _ _ (tells_fits l.wait x.head) f) (eqb-false x.head.kind 0 e))
      (λ f. inr (λ w. tells_false _ _ (tells_fits l.wait x.head) f w.0, same_held l m _ (unawaited_keeps l x.head))))

-- any bytes
module _ (l : Laptop) (m : Memory) (bytes : List ℕ) where
  abbrev Whole : Type 0
  Whole = Publishes (message bytes) l m

  outcome_holds : (n : ℕ) → read_refusal bytes ≡ n → (ShortRun m → ⊥) → Holds l m Whole (hear l m (outcome n (edition_in bytes) (message_in bytes)))
  unfolding outcome hear
  outcome_holds n e long = go (eqb n 0) refl
    where
      go : (t : Bool) → eqb n 0 ≡ t → Holds l m Whole (hear l m (cond t (accepted (edition_in bytes) (message_in bytes)) (refused n)))
      go true z = more (read_holds l m (message_in bytes) (four_kinds bytes) (edition_in bytes))
        where
          more : Holds l m (When l m (message_in bytes) (four_kinds bytes)) (hear l m (accepted (edition_in bytes) (message_in bytes))) → Holds l m Whole (hear l m (accepted (edition_in bytes) (message_in bytes)))
          more (inl h) = inl ((long, e ∙ eqb-true n 0 z, h.0.0, h.0.1), h.1, h.2)
          more (inr h) = inr (λ w. h.0 (w.2, w.3), h.1)
      go false z = inr (λ w. eqb-false n 0 z (sym e ∙ w.1), refl)

  message_holds : Holds l m Whole (heard l m (read_outcome bytes))
  unfolding heard read_outcome
  message_holds =
      holds_either l m Whole (short_runs (length m.run) (length m.held_run)) _ _
      (λ e. inr (λ w. w.0 (tells_true _ _ (tells_short (length m.run) (length m.held_run)) e), refl))
      (λ e. outcome_holds (read_refusal bytes) refl (tells_false _ _ (tells_short (length m.run) (length m.held_run)) e))

decided_holds : (l : Laptop) (m : Memory) (d : Decision) (room : ℕ) → Keeps l d → holding (step_of l d room).laptop m ≡ holding l m
decided_holds l m d room k = same_held l m (step_of l d room).laptop.held (step_keeps l d k room)

-- what is held is replaced, by a candidate that an awaited answer made whole, exactly when a message publishes; every other call leaves it to the word
pub held_changes : (c : Call) (l : Laptop) (m : Memory) (out : List ℕ) →
    ReplacedWhen (Publishes c l m) (holding l m) (effect_of c l m out).step.laptop (effect_of c l m out).after
unfolding decide_next decide_start_over decide_drop decide_enter decide_exit
held_changes (message bytes) l m out = message_holds l m bytes
held_changes next l m out = inr (λ w. w, decided_holds l m _ (length out) (unless_keeps l _ _ (next_keeps l m.svids l.candidate)))
held_changes start_over l m out = inr (λ w. w, decided_holds l m _ (length out) (unless_keeps l _ _ refl))
held_changes drop l m out = inr (λ w. w, decided_holds l m _ (length out) (unless_keeps l _ _ refl))
held_changes (enter svid position) l m out =
    inr (λ w. w, decided_holds l m _ (length out) (unless_keeps l _ _ (unless_keeps l _ _ (unless_keeps l _ _ refl))))
held_changes (exit svid position) l m out = inr (λ w. w, decided_holds l m _ (length out) (unless_keeps l _ _ (unless_keeps l _ _ refl)))
held_changes (timer first last) l m out = inr (λ w. w, decided_holds l m _ (length out) (timer_keeps first last l l.wait))
held_changes protocol_error l m out = inr (λ w. w, decided_holds l m _ (length out) (error_keeps l l.wait))
