-- An exchange in which nothing is lost, step by step.
use mathlib.Core.Path.{◌≡◌, refl, ap, ap₂, sym, ◌∙◌}
use mathlib.Core.Bool.{Bool, true, false, cond, false≢true}
use mathlib.Core.List.{List, []}
use Prim.Native.Nat.{ℕ, ◌≤◌}
use native.Mathlib.Omega.{arith}
use lib.ListN.{length}
use borrow.Author.Tests.{eq-eqb, le-leb}
use Rattle.messages.specs.Editions.{ours, lower}
use Rattle.messages.specs.Layout.{Message, message_bytes}
use Rattle.messages.specs.Reading.{Outcome, read_outcome}
use Rattle.messages.specs.Requests.{svids_command, modes_command}
use Rattle.messages.specs.Table.{pd_sid}
use Rattle.messages.specs.Writing.{well_shaped}
use Rattle.messages.specs.declared.request.Request.{Request}
use Rattle.messages.specs.declared.edition.Edition.{Edition}
use Rattle.dock.specs.Data.{listed, good_identity, with_edition}
use Rattle.dock.specs.Dock.{Decision, accepts, sends, step_of, is_empty, asking, sending, give_page, give_identity, give_modes, give_other, bare, decide_policy, decide_message, decide_policy_answer}
use Rattle.dock.specs.declared.Dock.{Dock}
use Rattle.dock.specs.declared.Policy.TheVariants.{Give}
use Rattle.dock.specs.declared.Standing.{Standing}
use Rattle.dock.specs.declared.Standing.TheVariants.{Ready, Asking, Sending}
use Rattle.hearing.specs.Hearing.{Result, heard}
use Rattle.laptop.specs.Calls.{unless, is_awaiting}
use Rattle.laptop.specs.Calls.{Decision as LaptopDecision}
use Rattle.laptop.specs.Calls.{sends as laptop_sends}
use Rattle.laptop.specs.Calls.{step_of as laptop_step_of}
use Rattle.owner.specs.Owner.{owner_refusal, any_entered, asking_refusal, discover, request_message, asks_next, decide_next}
use Rattle.laptop.specs.State.{Memory, identity_request}
use Rattle.laptop.specs.declared.Laptop.{Laptop}
use Rattle.std.specs.Prelude.{None}
use Rattle.laptop_laws.specs.Effects.{message, next, decided, effect_of}
use Rattle.laptop_laws.specs.Holding.{Holding}
use Rattle.laptop_laws.specs.WellFormed.{Lent}
use Rattle.link.specs.Ends.{heard_at, dock_hears}
use Rattle.link.specs.Joined.{Way, clear, request, Fate, gone, coming, confirmed, came, System, calls, reach, answer, arrive, sent}
use Rattle.link.specs.Link.{way_after, called, handed_over, lost_with, is_fair, brought, is_unsure, opens, step}
use Rattle.link.specs.Needed.{identity_answer, page_answer, empty_answer, modes_answer}
use Rattle.link.specs.Permits.{is_confirmed}
use Rattle.unharmed.proofs.AtDock.{page_then, request_turns, asking_at}
use Rattle.unharmed.proofs.Bytes.{reads, handed_over_lem, sent_out}
use Rattle.unharmed.proofs.Confirming.{sent_dock}
use Rattle.unharmed.proofs.Course.{moves_on}
use Rattle.unharmed.proofs.Hears.{not_short}
use Rattle.unharmed.proofs.Invariant.{dock_at}
use Rattle.progress.proofs.Shapes.{has_room}

module _ (modes_of : ℕ → List ℕ) (d : Dock) (h : Edition) (out : List ℕ) (room : 28 ≤ length out) where
  -- laptop and link, with the dock at an edition and a page
  abbrev pub standing : Edition → Laptop → Memory → Way → Fate → ℕ → Standing → ℕ → System
  standing e l m way fate q t z =
      record { laptop = l; memory = m; way = way; fate = fate; dock = dock_at modes_of d e q t; highest = h; lost = z }

  -- the edition at which the dock answers a request
  abbrev pub answered_at : Edition → Edition
  answered_at at = lower (lower at h) ours

  -- next sends what comes next
  module _ (e : Edition) (l : Laptop) (m : Memory) (way : Way) (fate : Fate) (q : ℕ) (t : Standing) (z : ℕ) (lent : Lent m) (idle : l.wait ≡ None)
      (unentered : any_entered m.entered ≡ false) where
    not_refused : asking_refusal l m.entered (length m.run) (length m.held_run) ≡ 0
    unfolding asking_refusal owner_refusal
    not_refused = rw (not_short m lent, idle, unentered)

    decides : decide_next l m.svids m.entered (length m.run) (length m.held_run) ≡ asks_next l m.svids l.candidate
    unfolding decide_next unless
    decides = rw not_refused

    pub next_sends : (r : Request) (after : Laptop) → asks_next l m.svids l.candidate ≡ laptop_sends (request_message r) after →
        is_awaiting after.wait ≡ true → well_shaped (request_message r) ≡ true →
        step modes_of (calls next out) (standing e l m way fate q t z) ≡
        standing e after m (request (message_bytes after.edition (request_message r))) fate q t z
    unfolding step called
    next_sends r after is awaits good =
        let goes = sent_out l after m (request_message r) out way awaits (has_room (request_message r) out good room) in
        ap (λ (x : LaptopDecision). record { laptop = (laptop_step_of l x (length out)).laptop; memory = m; way = way_after (decided l m out x) way; fate = fate; dock = dock_at modes_of d e q t; highest = h; lost = z })
        (decides ∙ is) ∙
        ap₂ (λ (y : Laptop) (w : Way). record { laptop = y; memory = m; way = w; fate = fate; dock = dock_at modes_of d e q t; highest = h; lost = z }) goes.0 goes.1

  -- the request reaches the dock
  module _ (at : Edition) (r : Request) (good : well_shaped (request_message r) ≡ true) (least : 1 ≤ r.command) (most : r.command ≤ 5) where
    abbrev bytes : List ℕ
    bytes = message_bytes at (request_message r)

    module _ (e : Edition) (q : ℕ) (t : Standing) where
      abbrev now : Dock
      now = dock_at modes_of d e q t

      hears : dock_hears h now bytes ≡ accepts (asking r (with_edition (answered_at at) now))
      hears =
          ap (λ (o : Outcome). decide_message now (heard_at h o)) (reads at (request_message r) good (λ k. omega arith)) ∙
          request_turns r least most now (lower at h)

      asked_now : (x : Decision) → x ≡ accepts (asking r (with_edition (answered_at at) now)) →
          ((step_of now x (length out)).dock ≡ dock_at modes_of d (answered_at at) (page_then r q) (Asking r)) × (handed_over now x out gone ≡ gone)
      unfolding step_of handed_over
      asked_now x is = (rw is (asking_at modes_of d e (answered_at at) r q t), rw is)

    pub reach_is : (e : Edition) (l : Laptop) (m : Memory) (fate : Fate) (q : ℕ) (t : Standing) (z : ℕ) → is_confirmed fate ≡ false →
        step modes_of (reach out) (standing e l m (request bytes) fate q t z) ≡
        standing (answered_at at) l m clear gone (page_then r q) (Asking r) (lost_with fate z)
    unfolding step
    reach_is e l m fate q t z free = go fate free
      where
        by : (f : Fate) →
            ◌≡◌ {A = System}
            (record {
              laptop = l;
              memory = m;
              way = clear;
              fate = handed_over (now e q t) (dock_hears h (now e q t) bytes) out gone;
              dock = (step_of (now e q t) (dock_hears h (now e q t) bytes) (length out)).dock;
              highest = h;
              lost = lost_with f z;
            }) (standing (answered_at at) l m clear gone (page_then r q) (Asking r) (lost_with f z))
        by f =
            let x = asked_now e q t _ (hears e q t) in
            ap₂ (λ (y : Fate) (c : Dock). record { laptop = l; memory = m; way = clear; fate = y; dock = c; highest = h; lost = lost_with f z }) x.1 x.0

        go : (f : Fate) → is_confirmed f ≡ false →
            step modes_of (reach out) (standing e l m (request bytes) f q t z) ≡
            standing (answered_at at) l m clear gone (page_then r q) (Asking r) (lost_with f z)
        go gone n = by gone
        go (coming a) n = by (coming a)
        go (confirmed a) n = absurd (false≢true (sym n))
        go (came b) n = by (came b)

  module _ (e : Edition) where
    -- policy gives
    pub give_is : (l : Laptop) (m : Memory) (way : Way) (fate : Fate) (q : ℕ) (r : Request) (z : ℕ) (x : Message) (b : Bool) →
        decide_policy_answer (dock_at modes_of d e q (Asking r)) (Asking r) Give r (brought modes_of Give r) ≡ sends x (dock_at modes_of d e q (Sending b)) →
        well_shaped x ≡ true →
        step modes_of (answer Give out) (standing e l m way fate q (Asking r) z) ≡ standing e l m way (coming (message_bytes e x)) q (Sending b) z
    unfolding step is_fair
    give_is l m way fate q r z x b is good =
        let asked : Dock = dock_at modes_of d e q (Asking r) in
        let hands = handed_over_lem asked (dock_at modes_of d e q (Sending b)) x out fate (has_room x out good room) in
        ap (λ (y : Decision). record { laptop = l; memory = m; way = way; fate = handed_over asked y out fate; dock = (step_of asked y (length out)).dock; highest = h; lost = z }) is ∙
        ap₂ (λ (y : Fate) (c : Dock). record { laptop = l; memory = m; way = way; fate = y; dock = c; highest = h; lost = z }) hands.0 hands.1

    -- the answer arrives
    abbrev pub way_of : Laptop → Memory → Way → Message → Way
    way_of l m way x = way_after (effect_of (message (message_bytes e x)) l m []) way

    pub arrive_is : (l : Laptop) (m : Memory) (way : Way) (q : ℕ) (b : Bool) (z : ℕ) (x : Message) (r : Result) →
        heard l m (read_outcome (message_bytes e x)) ≡ r →
        step modes_of arrive (standing e l m way (coming (message_bytes e x)) q (Sending b) z) ≡
        standing e r.step.laptop r.after (way_of l m way x) (came (is_unsure l r.step.laptop (listed d) q)) q (Sending b)
        (cond (opens l r.step.laptop) 0 z)
    unfolding step
    arrive_is l m way q b z x r is =
        ap (λ (y : Result). standing e y.step.laptop y.after (way_of l m way x) (came (is_unsure l y.step.laptop (listed d) q)) q (Sending b) (cond (opens l y.step.laptop) 0 z)) is

    -- the dock hears "sent"
    pub sent_is : (old : Holding) (l : Laptop) (m : Memory) (way : Way) (q : ℕ) (b u : Bool) (z : ℕ) →
        step modes_of sent (standing e l m way (came u) q (Sending b) z) ≡ standing e l m way gone (moves_on (listed d) b q) Ready z
    unfolding step
    sent_is old l m way q b u z =
        ap (λ (x : Dock). record { laptop = l; memory = m; way = way; fate = gone; dock = x; highest = h; lost = z }) (sent_dock modes_of d old e q b)

  -- what the dock gives
  pub identity_given : (e : Edition) (q : ℕ) → good_identity d.extent ≡ true →
      decide_policy_answer (dock_at modes_of d e q (Asking identity_request)) (Asking identity_request) Give identity_request (brought modes_of Give identity_request) ≡
      sends (identity_answer d) (dock_at modes_of d e q (Sending false))
  unfolding decide_policy_answer decide_policy brought bare give_other give_identity sending
  identity_given e q is = rw is

  pub page_given : (e : Edition) (q : ℕ) → is_empty (listed d) ≡ false →
      decide_policy_answer (dock_at modes_of d e q (Asking (discover pd_sid svids_command))) (Asking (discover pd_sid svids_command)) Give (discover pd_sid svids_command) (brought modes_of Give (discover pd_sid svids_command)) ≡
      sends (page_answer (listed d) q) (dock_at modes_of d e q (Sending true))
  unfolding decide_policy_answer decide_policy brought bare give_other give_page sending
  page_given e q is = rw is

  pub nak_given : (e : Edition) (q : ℕ) → is_empty (listed d) ≡ true →
      decide_policy_answer (dock_at modes_of d e q (Asking (discover pd_sid svids_command))) (Asking (discover pd_sid svids_command)) Give (discover pd_sid svids_command) (brought modes_of Give (discover pd_sid svids_command)) ≡
      sends empty_answer (dock_at modes_of d e q (Sending false))
  unfolding decide_policy_answer decide_policy brought bare give_other give_page sending
  nak_given e q is = rw is

  pub modes_given : (e : Edition) (q svid : ℕ) → 1 ≤ length (modes_of svid) → length (modes_of svid) ≤ 6 →
      decide_policy_answer (dock_at modes_of d e q (Asking (discover svid modes_command))) (Asking (discover svid modes_command)) Give (discover svid modes_command) (brought modes_of Give (discover svid modes_command)) ≡
      sends (modes_answer modes_of svid) (dock_at modes_of d e q (Sending false))
  unfolding decide_policy_answer decide_policy brought give_modes sending
  modes_given e q svid least most = rw (eq-eqb svid svid refl, le-leb 1 (length (modes_of svid)) least, le-leb (length (modes_of svid)) 6 most)
