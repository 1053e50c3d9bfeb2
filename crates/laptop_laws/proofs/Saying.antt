-- What each call says of the edition: the answers end the wait, and only an Identity ACK changes the edition; of what the owner asks, only Identity does.
use mathlib.Core.Path.{◌≡◌, refl, ap, subst, sym, ◌∙◌}
use mathlib.Core.Bool.{Bool, true, false, cond, ◌&&◌, false≢true}
use mathlib.Core.List.{List}
use Prim.Native.Nat.{ℕ, ◌+◌}
use native.Mathlib.Omega.{arith}
use lib.Dec.{leb, ltb, eqb}
use lib.ListN.{length}
use borrow.Author.Tests.{ne_eqb, eqb-true}
use Rattle.laws.specs.Padded.{padded}
use Rattle.messages.specs.Editions.{ours, lower}
use Rattle.messages.specs.Layout.{Message, message_length}
use Rattle.messages.specs.Reading.{Outcome, accepted, refused, read_outcome}
use Rattle.messages.specs.Requests.{request_of}
use Rattle.messages.specs.Writing.{write_refusal}
use Rattle.messages.specs.declared.edition.Edition.{Edition}
use Rattle.messages.specs.declared.request.Request.{Request}
use Rattle.pages.specs.Pages.{halves}
use Rattle.taking.specs.declared.Verdict.{Verdict}
use Rattle.taking.specs.declared.Verdict.TheVariants.{Bad, Repeat, More, Ends as VerdictEnds}
use Rattle.gathering.specs.Gathering.{Opening, Gathering, hear_identity, unless_last, take_as, take_page, none_gathered, hear_svids}
use Rattle.hearing.specs.Answers.{Storing, Marking, store_modes, hear_modes, hear_mode, is_whole}
use Rattle.hearing.specs.Hearing.{Result, hear_request, fits, is_late_page, hear_unawaited, step_if_whole, published_if_whole, publishing, hear_answer, hear, heard}
use Rattle.owner.specs.Owner.{request_message, asks_next, decide_next, decide_start_over, decide_drop, decide_enter, decide_exit}
use Rattle.laptop.specs.Calls.{Decision, refuses, accepts, sends, refused_by, sent_by, step_of, unless, short_runs}
use Rattle.laptop.specs.State.{Memory, with_pages, counted}
use Rattle.timers.specs.Timers.{over, decide_timer, decide_error}
use Rattle.laptop.specs.declared.Candidate.{Candidate}
use Rattle.laptop.specs.declared.Candidate.TheVariants.{Absent, Open, Done}
use Rattle.laptop.specs.declared.Laptop.{Laptop}
use Rattle.laptop.specs.Step.{Step}
use Rattle.laptop.specs.declared.Told.{Told}
use Rattle.laptop.specs.declared.Told.TheVariants.{Timer, ProtocolError}
use Rattle.std.specs.Prelude.{Option, Some, None}
use Rattle.laptop_laws.specs.Editions.{Said, nothing, identity_out, acknowledged, edition_by, identity_goes_out, acknowledgement, taken_by, request_edition}
use Rattle.laptop_laws.specs.Effects.{Call, message, next, start_over, drop, enter, exit, timer, protocol_error, effect_of}
use Rattle.laptop_laws.specs.WellFormed.{awaits_identity}

abbrev pub is_acknowledged : Said → Bool
is_acknowledged nothing = false
is_acknowledged identity_out = false
is_acknowledged (acknowledged e) = true

-- a step by what is said: its edition; Identity is awaited only where it was or goes out, and no longer once it is acknowledged
pub record Says (l : Laptop) (s : Step) (said : Said) : Type 0 where
  pub edition_is : s.laptop.edition ≡ edition_by said l.edition
  pub stays : awaits_identity l.wait ≡ false → (said ≡ identity_out → ⊥) → awaits_identity s.laptop.wait ≡ false
  pub ends : is_acknowledged said ≡ true → awaits_identity s.laptop.wait ≡ false

abbrev pub SaysWith : Laptop → Step → Said → Type 0
SaysWith l s taken = Says l s (cond (identity_goes_out s) identity_out taken)

-- a step that sends nothing
says_silent : (l : Laptop) (s : Step) (taken : Said) → s.length ≡ 0 → Says l s taken → SaysWith l s taken
says_silent l s taken e says =
    subst (Says l s) (sym (ap (λ (n : ℕ). cond (ltb 0 n && awaits_identity s.laptop.wait) identity_out taken) e)) says

-- a state that keeps the edition, and awaits Identity only where it was awaited
abbrev Calm : Laptop → Laptop → Type 0
Calm l after = (after.edition ≡ l.edition) × (awaits_identity l.wait ≡ false → awaits_identity after.wait ≡ false)

calm_says : (l : Laptop) (s : Step) → Calm l s.laptop → Says l s nothing
calm_says l s c = record { edition_is = c.0; stays = λ n out. c.1 n; ends = λ e. absurd (false≢true e) }

-- an answer ends the wait and sends nothing: the edition after it
abbrev Ends : Edition → Step → Type 0
Ends e s = (s.length ≡ 0) × (s.laptop.edition ≡ e) × (s.laptop.wait ≡ None)

ends_says : (l : Laptop) (s : Step) (taken : Said) → Ends (edition_by taken l.edition) s → Says l s taken
ends_says l s taken e = record { edition_is = e.1; stays = λ n out. ap awaits_identity e.2; ends = λ a. ap awaits_identity e.2 }

page_either : (e : Edition) (t : Bool) (a b : Gathering) → Ends e a.step → Ends e b.step → Ends e (cond t a b).step
page_either e true a b ea eb = ea
page_either e false a b ea eb = eb

last_ends : (l : Laptop) (svids : List ℕ) (g : Gathering) → Ends l.edition g.step → Ends l.edition (unless_last l svids g).step
unfolding unless_last
last_ends l svids g e = page_either l.edition (leb 200 l.pages) _ g (refl, refl, refl) e

taken_ends : (l : Laptop) (svids values : List ℕ) (n : ℕ) (v : Verdict) → Ends l.edition (take_as l svids values n v).step
unfolding take_as
taken_ends l svids values n Bad = (refl, refl, refl)
taken_ends l svids values n Repeat = last_ends l svids _ (refl, refl, refl)
taken_ends l svids values n More = last_ends l svids _ (refl, refl, refl)
taken_ends l svids values n (VerdictEnds k) = (refl, refl, refl)

pub counted_edition : (l : Laptop) → (counted l).edition ≡ l.edition
unfolding counted
counted_edition l = go (ltb l.pages 255)
  where
    go : (t : Bool) → (cond t (with_pages (l.pages + 1) l) l).edition ≡ l.edition
    go true = refl
    go false = refl

svids_end : (l : Laptop) (kind : ℕ) (values svids : List ℕ) → Ends l.edition (hear_svids l kind values svids).step
unfolding hear_svids take_page
svids_end l kind values svids =
    let taken = taken_ends (counted l) svids values _ _ in
    page_either l.edition (eqb kind 1) _ _ (taken.0, taken.1 ∙ counted_edition l, taken.2)
    (page_either l.edition (eqb kind 3) _ _ (refl, refl, refl) (page_either l.edition (none_gathered l) _ _ (refl, refl, refl) (refl, refl, refl)))

store_either : (e : Edition) (t : Bool) (a b : Storing) → Ends e a.step → Ends e b.step → Ends e (cond t a b).step
store_either e true a b ea eb = ea
store_either e false a b ea eb = eb

modes_end : (l : Laptop) (kind : ℕ) (words modes run : List ℕ) → Ends l.edition (hear_modes l kind words modes run).step
unfolding hear_modes store_modes
modes_end l kind words modes run =
    store_either l.edition (eqb kind 3) _ _ (refl, refl, refl)
    (store_either l.edition (eqb kind 1) _ _ (store_either l.edition (ltb l.stored 72) _ _ (refl, refl, refl) (refl, refl, refl)) (refl, refl, refl))

mode_ends : (l : Laptop) (kind : ℕ) (r : Request) (svids entered : List ℕ) → Ends l.edition (hear_mode l kind r svids entered).step
unfolding hear_mode
mode_ends l kind r svids entered = go (eqb kind 1) _ _ (refl, refl, refl) (refl, refl, refl)
  where
    go : (t : Bool) (a b : Marking) → Ends l.edition a.step → Ends l.edition b.step → Ends l.edition (cond t a b).step
    go true a b ea eb = ea
    go false a b ea eb = eb

identity_ends : (l : Laptop) (at : Edition) (kind n : ℕ) (objects svids identity : List ℕ) →
    Ends (cond (eqb kind 1) (lower at ours) l.edition) (hear_identity l at kind n objects svids identity).step
unfolding hear_identity
identity_ends l at kind n objects svids identity = go (eqb kind 1) _ _ (refl, refl, refl) (refl, refl, refl)
  where
    go : (t : Bool) (a b : Opening) → Ends (lower at ours) a.step → Ends l.edition b.step →
        Ends (cond t (lower at ours) l.edition) (cond t a b).step
    go true a b ea eb = ea
    go false a b ea eb = eb

-- publishing changes neither
result_either : (e : Edition) (t : Bool) (a b : Result) → Ends e a.step → Ends e b.step → Ends e (cond t a b).step
result_either e true a b ea eb = ea
result_either e false a b ea eb = eb

publishing_ends : (e : Edition) (kind : ℕ) (r : Result) → Ends e r.step → Ends e (publishing kind r).step
unfolding publishing step_if_whole
publishing_ends e kind r ends = result_either e (eqb kind 3) r (published_if_whole r) ends (go (is_whole r.step.laptop) _ (ends.0, ends.1, refl))
  where
    go : (t : Bool) (a : Step) → Ends e a → Ends e (cond t a r.step)
    go true a ea = ea
    go false a ea = ends

-- an answer that fits what is awaited
answer_ends : (l : Laptop) (m : Memory) (at : Edition) (x : Message) →
    Ends (edition_by (cond (eqb x.head.command 1 && eqb x.head.kind 1) (acknowledged at) nothing) l.edition) (hear_answer l m at x).step
unfolding hear_answer
answer_ends l m at x =
    go (eqb x.head.command 1) (eqb x.head.kind 1) _ _
    (identity_ends l at x.head.kind (length x.objects) (padded x.objects) m.svids m.identity)
    (result_either l.edition (eqb x.head.command 2) _ _
    (publishing_ends l.edition x.head.kind _ (svids_end l x.head.kind (halves x.objects) m.svids))
    (result_either l.edition (eqb x.head.command 3) _ _
    (publishing_ends l.edition x.head.kind _ (modes_end l x.head.kind x.objects m.modes m.run))
    (mode_ends l x.head.kind (request_of x.head) m.held_svids m.entered)))
  where
    go : (t u : Bool) (a b : Result) → Ends (cond u (lower at ours) l.edition) a.step → Ends l.edition b.step →
        Ends (edition_by (cond (t && u) (acknowledged at) nothing) l.edition) (cond t a b).step
    go true true a b ea eb = ea
    go true false a b ea eb = ea
    go false u a b ea eb = eb

-- a message that was read
module _ (l : Laptop) (m : Memory) (at : Edition) (x : Message) where
  abbrev Quiet : Step → Type 0
  Quiet s = (s.length ≡ 0) × Calm l s.laptop

  request_quiet : (count object : ℕ) → Quiet (hear_request l x.head count object)
  unfolding hear_request
  request_quiet count object = go (eqb x.head.command 6) _ _ (refl, (refl, λ n. n)) (refl, (refl, λ n. n))
    where
      go : (t : Bool) (a b : Step) → Quiet a → Quiet b → Quiet (cond t a b)
      go true a b qa qb = qa
      go false a b qa qb = qb

  unawaited_quiet : Quiet (hear_unawaited l x.head)
  unfolding hear_unawaited
  unawaited_quiet = go (is_late_page l x.head) _ _ (refl, (refl, λ n. refl)) (refl, (refl, λ n. n))
    where
      go : (t : Bool) (a b : Step) → Quiet a → Quiet b → Quiet (cond t a b)
      go true a b qa qb = qa
      go false a b qa qb = qb

  accepted_says : ((hear l m (accepted at x)).step.length ≡ 0) × Says l (hear l m (accepted at x)).step (acknowledgement l (accepted at x))
  unfolding hear
  accepted_says =
      go (eqb x.head.kind 0) (fits l.wait x.head) (eqb x.head.command 1) (eqb x.head.kind 1)
      (λ e. ne_eqb x.head.kind 1 (λ z. omega (arith, z, eqb-true x.head.kind 0 e))) _ _ _ (request_quiet _ _) (answer_ends l m at x) unawaited_quiet
    where
      go : (q f c k : Bool) → (q ≡ true → k ≡ false) → (p a u : Result) → Quiet p.step →
          Ends (edition_by (cond (c && k) (acknowledged at) nothing) l.edition) a.step → Quiet u.step →
          ((cond q p (cond f a u)).step.length ≡ 0) × Says l (cond q p (cond f a u)).step (cond (f && (c && k)) (acknowledged at) nothing)
      go true f c true h p a u qp ea qu = absurd (false≢true (sym (h refl)))
      go true true true false h p a u qp ea qu = (qp.0, calm_says l p.step qp.1)
      go true true false false h p a u qp ea qu = (qp.0, calm_says l p.step qp.1)
      go true false c false h p a u qp ea qu = (qp.0, calm_says l p.step qp.1)
      go false true c k h p a u qp ea qu = (ea.0, ends_says l a.step (cond (c && k) (acknowledged at) nothing) ea)
      go false false c k h p a u qp ea qu = (qu.0, calm_says l u.step qu.1)

-- any bytes: nothing is sent
pub message_says : (l : Laptop) (m : Memory) (bytes : List ℕ) →
    ((heard l m (read_outcome bytes)).step.length ≡ 0) × Says l (heard l m (read_outcome bytes)).step (taken_by (message bytes) l m)
unfolding heard hear
message_says l m bytes = go (short_runs (length m.run) (length m.held_run)) (read_outcome bytes)
  where
    go : (t : Bool) (o : Outcome) →
        ((cond t (record { step = refused_by 11 l; after = m }) (hear l m o)).step.length ≡ 0) ×
        Says l (cond t (record { step = refused_by 11 l; after = m }) (hear l m o)).step (cond t nothing (acknowledgement l o))
    go true o = (refl, calm_says l _ (refl, λ n. n))
    go false (refused number) = (refl, calm_says l _ (refl, λ n. n))
    go false (accepted at x) = accepted_says l m at x

-- a decision: it leaves a calm state, or asks, Identity at our edition and the rest at the laptop's
abbrev pub Decides : Laptop → Decision → Type 0
Decides l (refuses number after) = Calm l after
Decides l (accepts told after) = Calm l after
Decides l (sends x after) =
    (r : Request) × (x ≡ request_message r) × (after.wait ≡ Some r) × (after.edition ≡ request_edition r l.edition)

either : (l : Laptop) (t : Bool) (a b : Decision) → Decides l a → Decides l b → Decides l (cond t a b)
either l true a b da db = da
either l false a b da db = db

unless_decides : (l : Laptop) (number : ℕ) (d : Decision) → Decides l d → Decides l (unless number l d)
unfolding unless
unless_decides l number d h = either l (eqb number 0) d _ h (refl, λ n. n)

asks_next_lem : (l : Laptop) (svids : List ℕ) (c : Candidate) → Decides l (asks_next l svids c)
unfolding asks_next
asks_next_lem l svids Absent = (_, refl, refl, refl)
asks_next_lem l svids Open = (_, refl, refl, refl)
asks_next_lem l svids Done = (_, refl, refl, refl)

pub next_decides : (l : Laptop) (svids entered : List ℕ) (run held_run : ℕ) → Decides l (decide_next l svids entered run held_run)
unfolding decide_next
next_decides l svids entered run held_run = unless_decides l _ _ (asks_next_lem l svids l.candidate)

pub start_decides : (l : Laptop) (entered : List ℕ) (run held_run : ℕ) → Decides l (decide_start_over l entered run held_run)
unfolding decide_start_over
start_decides l entered run held_run = unless_decides l _ _ (_, refl, refl, refl)

pub drop_decides : (l : Laptop) (run held_run : ℕ) → Decides l (decide_drop l run held_run)
unfolding decide_drop
drop_decides l run held_run = unless_decides l _ _ (refl, λ n. refl)

pub enter_decides : (l : Laptop) (svids modes entered : List ℕ) (run held_run svid position : ℕ) →
    Decides l (decide_enter l svids modes entered run held_run svid position)
unfolding decide_enter
enter_decides l svids modes entered run held_run svid position =
    unless_decides l _ _ (unless_decides l _ _ (unless_decides l _ _ (_, refl, refl, refl)))

pub exit_decides : (l : Laptop) (svids modes entered : List ℕ) (run held_run svid position : ℕ) →
    Decides l (decide_exit l svids modes entered run held_run svid position)
unfolding decide_exit
exit_decides l svids modes entered run held_run svid position = unless_decides l _ _ (unless_decides l _ _ (_, refl, refl, refl))

over_decides : (l : Laptop) (r : Request) (told : Told) → Decides l (over l r told)
unfolding over
over_decides l r told =
    either l (eqb r.command 1) _ _ (refl, λ n. refl) (either l (ltb r.command 4) _ _ (refl, λ n. refl) (refl, λ n. refl))

pub timer_decides : (first last : ℕ) (l : Laptop) (w : Option Request) → Decides l (decide_timer first last l w)
unfolding decide_timer
timer_decides first last l None = (refl, λ n. n)
timer_decides first last l (Some r) = either l (leb first r.command && leb r.command last) _ _ (over_decides l r (Timer r)) (refl, λ n. n)

pub error_decides : (l : Laptop) (w : Option Request) → Decides l (decide_error l w)
unfolding decide_error
error_decides l None = (refl, λ n. n)
error_decides l (Some r) = over_decides l r (ProtocolError r)

-- a request that is sent, by whether it is Identity
sent_says : (l after : Laptop) (t : Bool) → awaits_identity after.wait ≡ t → after.edition ≡ cond t ours l.edition →
    Says l (sent_by 4 after) (cond t identity_out nothing)
sent_says l after true w e = record { edition_is = e; stays = λ n out. absurd (out refl); ends = λ a. absurd (false≢true a) }
sent_says l after false w e = record { edition_is = e; stays = λ n out. w; ends = λ a. w }

step_says : (l : Laptop) (d : Decision) (room : ℕ) → Decides l d → SaysWith l (step_of l d room) nothing
unfolding step_of
step_says l (refuses number after) room h = says_silent l (refused_by number after) nothing refl (calm_says l _ h)
step_says l (accepts told after) room h = says_silent l _ nothing refl (calm_says l _ h)
step_says l (sends x after) room h =
    subst (λ (y : Message). SaysWith l (step_of l (sends y after) room) nothing) (sym h.1) (go (eqb (write_refusal (request_message h.0) room) 0))
  where
    go : (t : Bool) →
        SaysWith l (cond t (sent_by (message_length (request_message h.0)) after) (refused_by (write_refusal (request_message h.0) room) l)) nothing
    go true = sent_says l after (awaits_identity after.wait) refl (h.3 ∙ sym (ap (λ (w : Option Request). cond (awaits_identity w) ours l.edition) h.2))
    go false = says_silent l _ nothing refl (calm_says l _ (refl, λ n. n))

-- any call
pub call_says : (c : Call) (l : Laptop) (m : Memory) (out : List ℕ) → SaysWith l (effect_of c l m out).step (taken_by c l m)
call_says (message bytes) l m out = let said = message_says l m bytes in says_silent l _ _ said.0 said.1
call_says next l m out = step_says l _ (length out) (next_decides l m.svids m.entered _ _)
call_says start_over l m out = step_says l _ (length out) (start_decides l m.entered _ _)
call_says drop l m out = step_says l _ (length out) (drop_decides l _ _)
call_says (enter svid position) l m out = step_says l _ (length out) (enter_decides l m.held_svids m.held_modes m.entered _ _ svid position)
call_says (exit svid position) l m out = step_says l _ (length out) (exit_decides l m.held_svids m.held_modes m.entered _ _ svid position)
call_says (timer first last) l m out = step_says l _ (length out) (timer_decides first last l l.wait)
call_says protocol_error l m out = step_says l _ (length out) (error_decides l l.wait)
