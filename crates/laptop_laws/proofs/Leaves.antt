-- A refusal changes no lent byte, whatever the call.
use mathlib.Core.Path.{◌≡◌, refl, ap, ap₂, ◌∙◌}
use mathlib.Core.Bool.{Bool, true, false, cond}
use mathlib.Core.List.{List}
use Prim.Native.Nat.{ℕ}
use lib.Dec.{leb, ltb, eqb}
use lib.ListN.{length}
use Rattle.messages.specs.Layout.{Message, message_length}
use Rattle.messages.specs.Reading.{Outcome, accepted, refused, read_outcome}
use Rattle.messages.specs.Requests.{request_of}
use Rattle.messages.specs.declared.edition.Edition.{Edition}
use Rattle.messages.specs.declared.request.Request.{Request}
use Rattle.messages.specs.Writing.{write_refusal, written}
use Rattle.pages.specs.Pages.{halves}
use Rattle.taking.specs.declared.Verdict.{Verdict}
use Rattle.taking.specs.declared.Verdict.TheVariants.{Bad, Repeat, More, Ends}
use Rattle.laws.specs.Padded.{padded}
use Rattle.gathering.specs.Gathering.{Opening, Gathering, gathering, hear_identity, unless_last, take_as, take_page, none_gathered, hear_svids}
use Rattle.hearing.specs.Answers.{Marking, Storing, storing, store_modes, hear_modes, hear_mode, is_whole}
use Rattle.laptop.specs.Calls.{Decision, refuses, accepts, sends, refused_by, sent_by, step_of, buffer_of, short_runs}
use Rattle.laptop_laws.specs.Effects.{Call, message, next, start_over, drop, enter, exit, timer, protocol_error, effect_of}
use Rattle.hearing.specs.Hearing.{Result, fits, with_opening, with_gathering, with_storing, with_marking, step_if_whole, list_if_whole, run_if_whole, published_if_whole, publishing, hear_answer, hear, heard}
use Rattle.laptop.specs.State.{Memory, memory, dropped, counted, published}
use Rattle.laptop.specs.declared.Laptop.{Laptop}
use Rattle.laptop.specs.Step.{Step}

-- the output buffer
left_alone : (at : Edition) (m : Message) (out : List ℕ) → eqb (write_refusal m (length out)) 0 ≡ false → written at m out ≡ out
unfolding written
left_alone at m out e = rw e

pub buffer_left : (l : Laptop) (d : Decision) (out : List ℕ) → ((step_of l d (length out)).refusal ≡ 0 → ⊥) → buffer_of d out ≡ out
unfolding step_of buffer_of
buffer_left l (refuses number after) out h = refl
buffer_left l (accepts told after) out h = refl
buffer_left l (sends m after) out h = go (eqb (write_refusal m (length out)) 0) refl h
  where
    go : (t : Bool) → eqb (write_refusal m (length out)) 0 ≡ t →
        ((cond t (sent_by (message_length m) after) (refused_by (write_refusal m (length out)) l)).refusal ≡ 0 → ⊥) → written after.edition m out ≡ out
    go true e n = absurd (n refl)
    go false e n = left_alone after.edition m out e

-- a result that is refused only where it leaves what is lent
abbrev Leaves : Memory → Result → Type 0
Leaves m r = (r.step.refusal ≡ 0 → ⊥) → r.after ≡ m

either : (m : Memory) (t : Bool) (a b : Result) → Leaves m a → Leaves m b → Leaves m (cond t a b)
either m true a b la lb = la
either m false a b la lb = lb

-- publishing refuses nothing
pub whole_refusal : (s : Step) → (step_if_whole s).refusal ≡ s.refusal
unfolding step_if_whole
whole_refusal s = go (is_whole s.laptop)
  where
    go : (t : Bool) → (cond t (record { refusal = s.refusal; length = s.length; told = s.told; laptop = published s.laptop }) s).refusal ≡ s.refusal
    go true = refl
    go false = refl

-- with a candidate that is not whole nothing is published
held_left : (r : Result) → is_whole r.step.laptop ≡ false → (published_if_whole r).after ≡ r.after
unfolding list_if_whole run_if_whole
held_left r e = rw e

-- what a refused page leaves: the list, and no whole candidate
abbrev PageLeaves : List ℕ → Gathering → Type 0
PageLeaves svids g = (g.step.refusal ≡ 0 → ⊥) → (g.svids ≡ svids) × (is_whole g.step.laptop ≡ false)

page_either : (svids : List ℕ) (t : Bool) (a b : Gathering) → PageLeaves svids a → PageLeaves svids b → PageLeaves svids (cond t a b)
page_either svids true a b la lb = la
page_either svids false a b la lb = lb

void_page : (l : Laptop) (svids : List ℕ) (number : ℕ) → PageLeaves svids (gathering (refused_by number (dropped l)) svids)
unfolding is_whole
void_page l svids number n = (refl, refl)

last_leaves : (l : Laptop) (svids : List ℕ) (g : Gathering) → PageLeaves svids g → PageLeaves svids (unless_last l svids g)
unfolding unless_last
last_leaves l svids g p = page_either svids (leb 200 l.pages) _ g (void_page l svids 14) p

taken_leaves : (l : Laptop) (svids values : List ℕ) (n : ℕ) (v : Verdict) → PageLeaves svids (take_as l svids values n v)
unfolding take_as
taken_leaves l svids values n Bad = void_page l svids 8
taken_leaves l svids values n Repeat = last_leaves l svids _ (λ h. absurd (h refl))
taken_leaves l svids values n More = last_leaves l svids _ (λ h. absurd (h refl))
taken_leaves l svids values n (Ends k) = λ h. absurd (h refl)

svids_leave : (l : Laptop) (kind : ℕ) (values svids : List ℕ) → PageLeaves svids (hear_svids l kind values svids)
unfolding hear_svids take_page
svids_leave l kind values svids =
    page_either svids (eqb kind 1) _ _ (taken_leaves (counted l) svids values _ _)
    (page_either svids (eqb kind 3) _ _ (λ h. absurd (h refl))
    (page_either svids (none_gathered l) _ _ (λ h. absurd (h refl)) (void_page l svids 8)))

gathering_leaves : (m : Memory) (kind : ℕ) (g : Gathering) → PageLeaves m.svids g → Leaves m (publishing kind (with_gathering m g))
unfolding publishing
gathering_leaves m kind g p =
    either m (eqb kind 3) _ _ (λ n. same (p n).0)
    (λ n. let left = p (λ z. n (whole_refusal g.step ∙ z)) in held_left (with_gathering m g) left.1 ∙ same left.0)
  where
    same : g.svids ≡ m.svids → (with_gathering m g).after ≡ m
    same e = ap (λ (v : List ℕ). memory v m.modes m.identity m.run m.held_svids m.held_modes m.held_identity m.held_run m.entered) e

-- the same of Modes
abbrev StoreLeaves : List ℕ → List ℕ → Storing → Type 0
StoreLeaves modes run f = (f.step.refusal ≡ 0 → ⊥) → (f.modes ≡ modes) × (f.run ≡ run) × (is_whole f.step.laptop ≡ false)

store_either : (modes run : List ℕ) (t : Bool) (a b : Storing) → StoreLeaves modes run a → StoreLeaves modes run b → StoreLeaves modes run (cond t a b)
store_either modes run true a b la lb = la
store_either modes run false a b la lb = lb

void_store : (l : Laptop) (modes run : List ℕ) → StoreLeaves modes run (storing (refused_by 8 (dropped l)) modes run)
unfolding is_whole
void_store l modes run n = (refl, refl, refl)

modes_leave : (l : Laptop) (kind : ℕ) (words modes run : List ℕ) → StoreLeaves modes run (hear_modes l kind words modes run)
unfolding hear_modes store_modes
modes_leave l kind words modes run =
    store_either modes run (eqb kind 3) _ _ (λ h. absurd (h refl))
    (store_either modes run (eqb kind 1) _ _ (store_either modes run (ltb l.stored 72) _ _ (λ h. absurd (h refl)) (void_store l modes run))
    (void_store l modes run))

storing_leaves : (m : Memory) (kind : ℕ) (f : Storing) → StoreLeaves m.modes m.run f → Leaves m (publishing kind (with_storing m f))
unfolding publishing
storing_leaves m kind f p =
    either m (eqb kind 3) _ _ (λ n. same (p n).0 (p n).1)
    (λ n. let left = p (λ z. n (whole_refusal f.step ∙ z)) in held_left (with_storing m f) left.2 ∙ same left.0 left.1)
  where
    same : f.modes ≡ m.modes → f.run ≡ m.run → (with_storing m f).after ≡ m
    same e r = ap₂ (λ (o u : List ℕ). memory m.svids o m.identity u m.held_svids m.held_modes m.held_identity m.held_run m.entered) e r

-- an answer to Identity, Enter or Exit that fits is accepted
opening_leaves : (m : Memory) (t : Bool) (a b : Opening) → a.step.refusal ≡ 0 → b.step.refusal ≡ 0 → Leaves m (with_opening m (cond t a b))
opening_leaves m true a b ea eb n = absurd (n ea)
opening_leaves m false a b ea eb n = absurd (n eb)

marking_leaves : (m : Memory) (t : Bool) (a b : Marking) → a.step.refusal ≡ 0 → b.step.refusal ≡ 0 → Leaves m (with_marking m (cond t a b))
marking_leaves m true a b ea eb n = absurd (n ea)
marking_leaves m false a b ea eb n = absurd (n eb)

identity_leaves : (l : Laptop) (m : Memory) (at : Edition) (kind n : ℕ) (objects : List ℕ) →
    Leaves m (with_opening m (hear_identity l at kind n objects m.svids m.identity))
unfolding hear_identity
identity_leaves l m at kind n objects = opening_leaves m (eqb kind 1) _ _ refl refl

mode_leaves : (l : Laptop) (m : Memory) (kind : ℕ) (r : Request) → Leaves m (with_marking m (hear_mode l kind r m.held_svids m.entered))
unfolding hear_mode
mode_leaves l m kind r = marking_leaves m (eqb kind 1) _ _ refl refl

answer_leaves : (l : Laptop) (m : Memory) (at : Edition) (x : Message) → Leaves m (hear_answer l m at x)
unfolding hear_answer
answer_leaves l m at x =
    either m (eqb x.head.command 1) _ _ (identity_leaves l m at x.head.kind (length x.objects) (padded x.objects))
    (either m (eqb x.head.command 2) _ _ (gathering_leaves m x.head.kind _ (svids_leave l x.head.kind (halves x.objects) m.svids))
    (either m (eqb x.head.command 3) _ _ (storing_leaves m x.head.kind _ (modes_leave l x.head.kind x.objects m.modes m.run))
    (mode_leaves l m x.head.kind (request_of x.head))))

refused_leaves : (l : Laptop) (m : Memory) (number : ℕ) → Leaves m (hear l m (refused number))
unfolding hear
refused_leaves l m number n = refl

accepted_leaves : (l : Laptop) (m : Memory) (at : Edition) (x : Message) → Leaves m (hear l m (accepted at x))
unfolding hear
accepted_leaves l m at x =
    either m (eqb x.head.kind 0) _ _ (λ n. refl) (either m (fits l.wait x.head) _ _ (answer_leaves l m at x) (λ n. refl))

message_leaves : (l : Laptop) (m : Memory) (o : Outcome) → Leaves m (heard l m o)
unfolding heard
message_leaves l m o = either m (short_runs (length m.run) (length m.held_run)) _ _ (λ n. refl) (go o)
  where
    go : (p : Outcome) → Leaves m (hear l m p)
    go (refused number) = refused_leaves l m number
    go (accepted at x) = accepted_leaves l m at x

-- a refusal changes no lent byte: nothing that a call is lent, and nothing of the output buffer
pub refusal_leaves : (c : Call) (l : Laptop) (m : Memory) (out : List ℕ) → ((effect_of c l m out).step.refusal ≡ 0 → ⊥) →
    ((effect_of c l m out).after ≡ m) × ((effect_of c l m out).buffer ≡ out)
refusal_leaves (message bytes) l m out n = (message_leaves l m (read_outcome bytes) n, refl)
refusal_leaves next l m out n = (refl, buffer_left l _ out n)
refusal_leaves start_over l m out n = (refl, buffer_left l _ out n)
refusal_leaves drop l m out n = (refl, buffer_left l _ out n)
refusal_leaves (enter svid position) l m out n = (refl, buffer_left l _ out n)
refusal_leaves (exit svid position) l m out n = (refl, buffer_left l _ out n)
refusal_leaves (timer first last) l m out n = (refl, buffer_left l _ out n)
refusal_leaves protocol_error l m out n = (refl, buffer_left l _ out n)
