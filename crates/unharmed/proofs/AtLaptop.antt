-- Owner's calls, timers and the protocol error keep the invariant.
use mathlib.Core.Logic.{◌⊎◌, inl, inr}
use mathlib.Core.Path.{◌≡◌, refl, ap, sym, ◌∙◌, subst}
use mathlib.Core.Bool.{Bool, true, false, cond, ◌&&◌}
use mathlib.Core.List.{List}
use Prim.Native.Nat.{ℕ, ◌≤◌}
use native.Mathlib.Omega.{arith}
use lib.Dec.{leb, ltb, eqb}
use lib.ListN.{length, get_or}
use borrow.Author.Tests.{eqb-true, eqb-false}
use Rattle.messages.specs.Layout.{message_bytes}
use Rattle.messages.specs.Requests.{svids_command, modes_command, enter_command, exit_command}
use Rattle.messages.specs.Table.{pd_sid}
use Rattle.messages.specs.declared.request.Request.{Request}
use Rattle.messages.specs.declared.edition.Edition.{Edition}
use Rattle.dock.specs.declared.Dock.{Dock}
use Rattle.dock.specs.declared.Standing.{Standing}
use Rattle.laptop.specs.Calls.{Decision, refuses, accepts, sends, step_of, unless, is_awaiting}
use Rattle.owner.specs.Owner.{discover, request_message, asks_next, decide_next, decide_start_over, decide_drop, decide_enter, decide_exit}
use Rattle.laptop.specs.State.{Memory, ended, dropped, awaiting, identity_request, identity_asked}
use Rattle.timers.specs.Timers.{over, decide_timer, decide_error}
use Rattle.laptop.specs.declared.Candidate.{Candidate}
use Rattle.laptop.specs.declared.Candidate.TheVariants.{Absent, Open, Done}
use Rattle.laptop.specs.declared.Laptop.{Laptop}
use Rattle.laptop.specs.declared.Told.{Told}
use Rattle.laptop.specs.declared.Told.TheVariants.{Timer, ProtocolError}
use Rattle.std.specs.Prelude.{Option, Some, None}
use Rattle.laptop_laws.specs.Effects.{Call, message, next, start_over, drop, enter, exit, timer, protocol_error, decided}
use Rattle.laptop_laws.specs.Holding.{Holding, holding}
use Rattle.laptop_laws.specs.WellFormed.{WaitFits, WellFormed}
use Rattle.laptop_laws.proofs.Laws.{keeps}
use Rattle.link.specs.Demand.{held_in}
use Rattle.link.specs.Joined.{Way, clear, request}
use Rattle.link.specs.Link.{way_after, called}
use Rattle.unharmed.proofs.AtDock.{Inv, reached}
use Rattle.unharmed.proofs.Bytes.{SendsOut, sends_out}
use Rattle.unharmed.proofs.Course.{Carried}
use Rattle.unharmed.proofs.Invariant.{WayFits, dock_at, fate_of, CandidateIs, HeldIs, system_of, Reached}

-- what a call at the laptop decides. Only drop and start over give a candidate up
pub data Decides (l : Laptop) (c : Call) (x : Decision) : Type 0 where
  stays : (number : ℕ) → (number ≡ 0 → ⊥) → x ≡ refuses number l → Decides l c x
  asks_identity : (l.candidate ≡ Absent) ⊎ (c ≡ start_over) → x ≡ sends (request_message identity_request) (identity_asked l) → Decides l c x
  asks_other : (r : Request) → 2 ≤ r.command → r.command ≤ 5 → x ≡ sends (request_message r) (awaiting r l) → Decides l c x
  drops : (told : Told) → (l.candidate ≡ Absent) ⊎ (c ≡ drop) → x ≡ accepts told (dropped l) → Decides l c x
  ends : (told : Told) → x ≡ accepts told (ended l) → Decides l c x

module _ (l : Laptop) (c : Call) where
  either : (b : Bool) (x y : Decision) → Decides l c x → Decides l c y → Decides l c (cond b x y)
  either true x y f g = f
  either false x y f g = g

  checked : (b : Bool) (x y : Decision) → (b ≡ true → Decides l c x) → (b ≡ false → Decides l c y) → Decides l c (cond b x y)
  checked true x y f g = f refl
  checked false x y f g = g refl

  unless_decides : (number : ℕ) (x : Decision) → Decides l c x → Decides l c (unless number l x)
  unfolding unless
  unless_decides number x f = checked (eqb number 0) x _ (λ e. f) (λ e. stays number (eqb-false number 0 e) refl)

  next_decides : (svids : List ℕ) (candidate : Candidate) → l.candidate ≡ candidate → Decides l c (asks_next l svids candidate)
  unfolding asks_next
  next_decides svids Absent e = asks_identity (inl e) refl
  next_decides svids Open e = asks_other (discover pd_sid svids_command) (omega arith) (omega arith) refl
  next_decides svids Done e = asks_other (discover (get_or svids l.stored 0) modes_command) (omega arith) (omega arith) refl

  -- where Identity is awaited there is no candidate
  pub identity_absent : (r : Request) (m : Memory) → WaitFits (Some r) l.candidate l.pages l.stored m.svids → r.command ≡ 1 →
      l.candidate ≡ Absent
  identity_absent r m (inl f) e = f.1
  identity_absent r m (inr (inl f)) e = absurd (omega (arith, ap (λ (x : Request). x.command) f.0))
  identity_absent r m (inr (inr (inl f))) e = absurd (omega (arith, ap (λ (x : Request). x.command) f.0))
  identity_absent r m (inr (inr (inr f))) e = f.1

  over_decides : (r : Request) (m : Memory) (told : Told) → WaitFits (Some r) l.candidate l.pages l.stored m.svids → Decides l c (over l r told)
  unfolding over
  over_decides r m told f =
      checked (eqb r.command 1) _ _ (λ e. drops _ (inl (identity_absent r m f (eqb-true r.command 1 e))) refl)
      (λ e. either (ltb r.command 4) _ _ (ends _ refl) (ends told refl))

  timer_decides : (first last : ℕ) (m : Memory) (w : Option Request) → WaitFits w l.candidate l.pages l.stored m.svids → Decides l c (decide_timer first last l w)
  unfolding decide_timer
  timer_decides first last m None f = stays 9 (λ e. omega arith) refl
  timer_decides first last m (Some r) f =
      either (leb first r.command && leb r.command last) _ _ (over_decides r m (Timer r) f) (stays 9 (λ e. omega arith) refl)

  error_decides : (m : Memory) (w : Option Request) → WaitFits w l.candidate l.pages l.stored m.svids → Decides l c (decide_error l w)
  unfolding decide_error
  error_decides m None f = stays 9 (λ e. omega arith) refl
  error_decides m (Some r) f = over_decides r m (ProtocolError r) f

module _ (modes_of : ℕ → List ℕ) (d : Dock) (old : Holding) where
  module _ (l : Laptop) (m : Memory) (way : Way) (q : ℕ) (t : Standing) (v : Carried) (z : ℕ) (i : Inv modes_of d old l m way q t v z)
      (out : List ℕ) where
    abbrev After : Decision → Type 0
    After x =
        WellFormed (step_of l x (length out)).laptop m →
        Inv modes_of d old (step_of l x (length out)).laptop m (way_after (decided l m out x) way) q t v z

    held_same : (l' : Laptop) → holding l' m ≡ holding l m → HeldIs modes_of d old l m → HeldIs modes_of d old l' m
    held_same l' h (inl e) = inl (h ∙ e)
    held_same l' h (inr e) = inr (ap held_in h ∙ e)

    -- a laptop with the same candidate and holding, or without a candidate
    stands : (l' : Laptop) (way' : Way) → holding l' m ≡ holding l m →
        CandidateIs modes_of d l'.candidate l'.gathered l'.stored l'.pages m t q v z → WayFits l'.wait way' → WellFormed l' m →
        Inv modes_of d old l' m way' q t v z
    stands l' way' h c w f =
        record {
          formed = f;
          candidate_is = c;
          held_is = held_same l' h i.held_is;
          way_fits = w;
          fate_fits = i.fate_fits;
          asks_fit = i.asks_fit;
        }

    way_stays : (x : Decision) → (step_of l x (length out)).laptop ≡ l → (step_of l x (length out)).length ≡ 0 →
        WayFits (step_of l x (length out)).laptop.wait (way_after (decided l m out x) way)
    unfolding way_after
    way_stays x e n = rw (e, n) (go l.wait i.way_fits)
      where
        go : (w : Option Request) → WayFits w way → WayFits w (cond (is_awaiting w) way clear)
        go None f = tt
        go (Some r) f = f

    stays_after : (x : Decision) → (step_of l x (length out)).laptop ≡ l → (step_of l x (length out)).length ≡ 0 → After x
    stays_after x e n f =
        stands (step_of l x (length out)).laptop _ (ap (λ (y : Laptop). holding y m) e)
        (subst (λ (y : Laptop). CandidateIs modes_of d y.candidate y.gathered y.stored y.pages m t q v z) (sym e) i.candidate_is)
        (way_stays x e n) f

    -- a request goes out
    asks_after : (r : Request) (l' : Laptop) → l'.wait ≡ Some r → r.command ≤ 5 → holding l' m ≡ holding l m →
        CandidateIs modes_of d l'.candidate l'.gathered l'.stored l'.pages m t q v z → After (sends (request_message r) l')
    asks_after r l' w few h c = go (sends_out l l' m (request_message r) out way (ap is_awaiting w))
      where
        go : SendsOut l l' m (request_message r) out way (ap is_awaiting w) → After (sends (request_message r) l')
        go (inl s) f =
            subst (λ (y : Way). Inv modes_of d old (step_of l (sends (request_message r) l') (length out)).laptop m y q t v z) (sym s.1)
            (subst (λ (y : Laptop). WellFormed y m → Inv modes_of d old y m (request (message_bytes l'.edition (request_message r))) q t v z) (sym s.0)
            (λ g. stands l' (request (message_bytes l'.edition (request_message r))) h c
            (record { asked = r; awaited = w; asked_at = l'.edition; bytes_are = refl; shaped = s.2; few = few }) g) f)
        go (inr s) f = stays_after (sends (request_message r) l') s.0 s.1 f

    -- nothing is awaited any more
    turns_after : (told : Told) (l' : Laptop) → l'.wait ≡ None → holding l' m ≡ holding l m →
        CandidateIs modes_of d l'.candidate l'.gathered l'.stored l'.pages m t q v z → After (accepts told l')
    unfolding step_of way_after
    turns_after told l' w h c f = stands l' _ h c (subst (λ (x : Option Request). WayFits l'.wait (cond (is_awaiting x) way clear)) (sym w) tt) f

    refuses_after : (number : ℕ) → After (refuses number l)
    unfolding step_of
    refuses_after number f = stays_after (refuses number l) refl refl f

    decides_after : (c : Call) (x : Decision) → Decides l c x → After x
    decides_after c x (stays number n e) = subst After (sym e) (refuses_after number)
    decides_after c x (asks_identity a e) = subst After (sym e) (asks_after identity_request (identity_asked l) refl (omega arith) refl tt)
    decides_after c x (asks_other r least few e) = subst After (sym e) (asks_after r (awaiting r l) refl few refl i.candidate_is)
    decides_after c x (drops told a e) = subst After (sym e) (turns_after told (dropped l) refl refl tt)
    decides_after c x (ends told e) = subst After (sym e) (turns_after told (ended l) refl refl i.candidate_is)

-- each call at the laptop but a message
module _ (l : Laptop) (m : Memory) (f : WellFormed l m) where
  pub next_is : Decides l next (decide_next l m.svids m.entered (length m.run) (length m.held_run))
  unfolding decide_next
  next_is = unless_decides l next _ _ (next_decides l next m.svids l.candidate refl)

  pub start_over_is : Decides l start_over (decide_start_over l m.entered (length m.run) (length m.held_run))
  unfolding decide_start_over
  start_over_is = unless_decides l start_over _ _ (asks_identity (inr refl) refl)

  pub drop_is : Decides l drop (decide_drop l (length m.run) (length m.held_run))
  unfolding decide_drop
  drop_is = unless_decides l drop _ _ (drops _ (inr refl) refl)

  pub enter_is : (svid position : ℕ) →
      Decides l (enter svid position) (decide_enter l m.held_svids m.held_modes m.entered (length m.run) (length m.held_run) svid position)
  unfolding decide_enter
  enter_is svid position =
      unless_decides l _ _ _
      (unless_decides l _ _ _
      (unless_decides l _ _ _ (asks_other (record { svid = svid; command = enter_command; position = position }) (omega arith) (omega arith) refl)))

  pub exit_is : (svid position : ℕ) →
      Decides l (exit svid position) (decide_exit l m.held_svids m.held_modes m.entered (length m.run) (length m.held_run) svid position)
  unfolding decide_exit
  exit_is svid position =
      unless_decides l _ _ _
      (unless_decides l _ _ _ (asks_other (record { svid = svid; command = exit_command; position = position }) (omega arith) (omega arith) refl))

  pub timer_is : (first last : ℕ) → Decides l (timer first last) (decide_timer first last l l.wait)
  timer_is first last = timer_decides l (timer first last) first last m l.wait f.wait_fits

  pub error_is : Decides l protocol_error (decide_error l l.wait)
  error_is = error_decides l protocol_error m l.wait f.wait_fits

module _ (modes_of : ℕ → List ℕ) (d : Dock) (old : Holding) (h e : Edition) (l : Laptop) (m : Memory) (way : Way) (q : ℕ) (t : Standing) (v : Carried) (z : ℕ)
    (i : Inv modes_of d old l m way q t v z) (out : List ℕ) where
  decided_ok : (c : Call) (x : Decision) → Decides l c x → WellFormed (step_of l x (length out)).laptop m →
      Reached modes_of d old
      (record {
        laptop = (step_of l x (length out)).laptop;
        memory = m;
        way = way_after (decided l m out x) way;
        fate = fate_of modes_of d e v;
        dock = dock_at modes_of d e q t;
        highest = h;
        lost = z;
      })
  decided_ok c x is f = reached modes_of d old _ e q t v refl refl (decides_after modes_of d old l m way q t v z i out c x is f)

  pub call_ok : (c : Call) → Reached modes_of d old (called c out (system_of modes_of d old h e l m way q t v z))
  unfolding called
  call_ok (message bytes) = reached modes_of d old _ e q t v refl refl i
  call_ok next = decided_ok next _ (next_is l m i.formed) (keeps next l m out i.formed)
  call_ok start_over = decided_ok start_over _ (start_over_is l m i.formed) (keeps start_over l m out i.formed)
  call_ok drop = decided_ok drop _ (drop_is l m i.formed) (keeps drop l m out i.formed)
  call_ok (enter svid position) =
      decided_ok (enter svid position) _ (enter_is l m i.formed svid position) (keeps (enter svid position) l m out i.formed)
  call_ok (exit svid position) =
      decided_ok (exit svid position) _ (exit_is l m i.formed svid position) (keeps (exit svid position) l m out i.formed)
  call_ok (timer first last) =
      decided_ok (timer first last) _ (timer_is l m i.formed first last) (keeps (timer first last) l m out i.formed)
  call_ok protocol_error = decided_ok protocol_error _ (error_is l m i.formed) (keeps protocol_error l m out i.formed)
