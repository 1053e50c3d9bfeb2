-- No dead end: whatever has happened, the wait can be ended, and the dock's whole catalogue gathered.
use mathlib.Core.Path.{◌≡◌, refl, ap, sym, ◌∙◌, subst}
use mathlib.Core.Bool.{Bool, true, false, cond}
use mathlib.Core.List.{List, []}
use Prim.Native.Nat.{ℕ, ◌≤◌}
use lib.Dec.{ltb, eqb}
use lib.ListN.{length}
use Rattle.messages.specs.Editions.{ours}
use Rattle.messages.specs.Layout.{Message, message_bytes}
use Rattle.messages.specs.Reading.{Outcome, accepted, read_outcome}
use Rattle.messages.specs.declared.edition.Edition.{Edition}
use Rattle.dock.specs.Data.{listed}
use Rattle.dock.specs.declared.Dock.{Dock}
use Rattle.dock.specs.declared.Standing.{Standing}
use Rattle.dock.specs.declared.Standing.TheVariants.{Ready, Asking, Sending}
use Rattle.hearing.specs.Hearing.{Result, fits, is_late_page, heard}
use Rattle.laptop.specs.Calls.{accepts, step_of, unless}
use Rattle.owner.specs.Owner.{owner_refusal, any_entered, request_message, decide_drop}
use Rattle.laptop.specs.State.{Memory, ended, dropped, identity_request, identity_asked}
use Rattle.laptop.specs.declared.Candidate.TheVariants.{Absent}
use Rattle.laptop.specs.declared.Laptop.{Laptop}
use Rattle.laptop.specs.declared.Told.{Told}
use Rattle.laptop.specs.declared.Told.TheVariants.{Nothing as ToldNothing}
use Rattle.std.specs.Prelude.{Option, Some, None}
use Rattle.messages.specs.declared.request.Request.{Request}
use Rattle.laptop_laws.specs.Effects.{next, drop, protocol_error}
use Rattle.laptop_laws.specs.Holding.{Holding, holding}
use Rattle.laptop_laws.specs.WellFormed.{WellFormed}
use Rattle.link.specs.Demand.{Meets, Begins, whole, held_words, Holds}
use Rattle.link.specs.Exchanges.{HasAll, exchange, times, NoDeadEnd}
use Rattle.link.specs.Needed.{in_all_of}
use Rattle.link.specs.Joined.{Way, request, System, Event, calls, arrive}
use Rattle.link.specs.Link.{called, fate_on_arrival, step, run}
use Rattle.timers.specs.Timers.{over, decide_error}
use Rattle.unharmed.proofs.Arriving.{answer_read}
use Rattle.unharmed.proofs.AtDock.{Inv}
use Rattle.unharmed.proofs.Course.{FairAnswer, Carried, nothing, under_way, sure, arrived}
use Rattle.unharmed.proofs.Hears.{not_short, hear_late, hear_ignored}
use Rattle.unharmed.proofs.Invariant.{message_of, Shaped, system_of, Reached}
use Rattle.unharmed.proofs.Landed.{no_request}
use Rattle.unharmed.proofs.Laws.{identity_shaped, there}
use Rattle.unharmed.proofs.Runs.{steps}
use Rattle.link.specs.Permits.{is_confirmed}
use Rattle.progress.proofs.Exchange.{standing, next_sends}
use Rattle.progress.proofs.LossFree.{asks_identity, ends_whole}

-- a protocol error ends any wait
pub error_ends : (l : Laptop) (w : Option Request) (room : ℕ) → l.wait ≡ w → (step_of l (decide_error l w) room).laptop.wait ≡ None
unfolding step_of decide_error over
error_ends l None room e = e
error_ends l (Some r) room e = go (eqb r.command 1) (ltb r.command 4) _
  where
    go : (a b : Bool) (told : Told) →
        (step_of l (cond a (accepts ToldNothing (dropped l)) (cond b (accepts ToldNothing (ended l)) (accepts told (ended l)))) room).laptop.wait ≡ None
    go true b told = refl
    go false true told = refl
    go false false told = refl

-- drop is accepted where nothing is awaited
drop_taken : (l : Laptop) (m : Memory) (room : ℕ) → WellFormed l m → l.wait ≡ None →
    (step_of l (decide_drop l (length m.run) (length m.held_run)) room).laptop ≡ dropped l
unfolding step_of decide_drop owner_refusal unless
drop_taken l m room f e = rw (not_short m f.lent, e)

module _ (modes_of : ℕ → List ℕ) (d : Dock) (meets : Meets modes_of d) (old : Holding) where
  -- what arrives with nothing awaited changes nothing lent, and nothing that is confirmed has still to arrive then
  abbrev Heard : System → System → Type 0
  Heard s after = (after.laptop.wait ≡ None) × (after.memory ≡ s.memory) × (is_confirmed after.fate ≡ false)

  module _ (l : Laptop) (m : Memory) (formed : WellFormed l m) (idle : l.wait ≡ None) where
    unawaited : (at : Edition) (x : Message) → eqb x.head.kind 0 ≡ false →
        ((heard l m (accepted at x)).step.laptop.wait ≡ None) × ((heard l m (accepted at x)).after ≡ m)
    unawaited at x answers = go (is_late_page l x.head) refl
      where
        unfit : fits l.wait x.head ≡ false
        unfit = ap (λ (w : Option Request). fits w x.head) idle

        go : (b : Bool) → is_late_page l x.head ≡ b → ((heard l m (accepted at x)).step.laptop.wait ≡ None) × ((heard l m (accepted at x)).after ≡ m)
        go true e =
            let same = hear_late l m formed.lent at x answers unfit e in
            (ap (λ (r : Result). r.step.laptop.wait) same, ap (λ (r : Result). r.after) same)
        go false e =
            let same = hear_ignored l m formed.lent at x answers unfit e in
            (ap (λ (r : Result). r.step.laptop.wait) same ∙ idle, ap (λ (r : Result). r.after) same)

    read_so : (at : Edition) (a : FairAnswer) → Shaped modes_of d a → eqb (message_of modes_of d a).head.kind 0 ≡ false →
        ((heard l m (read_outcome (message_bytes at (message_of modes_of d a)))).step.laptop.wait ≡ None) ×
        ((heard l m (read_outcome (message_bytes at (message_of modes_of d a)))).after ≡ m)
    read_so at a shaped answers =
        subst (λ (o : Outcome). ((heard l m o).step.laptop.wait ≡ None) × ((heard l m o).after ≡ m)) (sym (answer_read modes_of d meets at a shaped))
        (unawaited at (message_of modes_of d a) answers)

  not_confirmed : (t : Standing) (b : Bool) → is_confirmed (fate_on_arrival t b) ≡ false
  not_confirmed Ready b = refl
  not_confirmed (Asking r) b = refl
  not_confirmed (Sending x) b = refl

  arrives_unawaited : (h e : Edition) (l : Laptop) (m : Memory) (way : Way) (q : ℕ) (t : Standing) (v : Carried) (z : ℕ) → Inv modes_of d old l m way q t v z → l.wait ≡ None →
      Heard (system_of modes_of d old h e l m way q t v z) (step modes_of arrive (system_of modes_of d old h e l m way q t v z))
  unfolding step
  arrives_unawaited h e l m way q t nothing z i idle = (idle, refl, refl)
  arrives_unawaited h e l m way q t (arrived b) z i idle = (idle, refl, refl)
  arrives_unawaited h e l m way q t (under_way a) z i idle =
      let f = read_so l m i.formed idle e a i.fate_fits.1 (no_request modes_of d meets l m q t z (under_way a) i.formed i.candidate_is a) in
      (f.0, f.1, not_confirmed t _)
  arrives_unawaited h e l m way q t (sure a) z i idle =
      let f = read_so l m i.formed idle e a i.fate_fits.1 (no_request modes_of d meets l m q t z (sure a) i.formed i.candidate_is a) in
      (f.0, f.1, refl)

  heard_out : (s : System) → Reached modes_of d old s → s.laptop.wait ≡ None → Heard s (step modes_of arrive s)
  heard_out s r idle =
      subst (λ (x : System). x.laptop.wait ≡ None → Heard x (step modes_of arrive x)) (sym r.is)
      (arrives_unawaited s.highest r.edition_at s.laptop s.memory s.way r.page_at r.standing_at r.carried s.lost r.invariant) idle

module _ (modes_of : ℕ → List ℕ) (start : System) (meets : Meets modes_of start.dock) (all : HasAll modes_of start.dock) (out : List ℕ) (room : 28 ≤ length out) where
  abbrev d : Dock
  d = start.dock

  abbrev old : Holding
  old = held_words start

  -- from a state in which nothing is awaited, gathered or entered
  gathers : (s : System) → Reached modes_of d old s → s.laptop.wait ≡ None → s.laptop.candidate ≡ Absent → any_entered s.memory.entered ≡ false →
      is_confirmed s.fate ≡ false → Holds (whole modes_of d) (run modes_of (times (in_all_of (length (listed d))) (exchange out)) s)
  gathers s r idle absent unentered free =
      let at : s ≡ standing modes_of d s.highest out room r.edition_at s.laptop s.memory s.way s.fate r.page_at r.standing_at s.lost =
      ap (λ (x : Dock). record { laptop = s.laptop; memory = s.memory; way = s.way; fate = s.fate; dock = x; highest = s.highest; lost = s.lost }) (ap (λ (x : System). x.dock) r.is) in
      let goes = next_sends modes_of d s.highest out room r.edition_at s.laptop s.memory s.way s.fate r.page_at r.standing_at s.lost r.invariant.formed.lent idle unentered
      identity_request (identity_asked s.laptop) (asks_identity s.laptop s.memory.svids absent) refl identity_shaped in
      let out_now : Reached modes_of d old (standing modes_of d s.highest out room r.edition_at (identity_asked s.laptop) s.memory (request (message_bytes ours (request_message identity_request))) s.fate r.page_at r.standing_at s.lost) =
      subst (Reached modes_of d old) (ap (step modes_of (calls next out)) at ∙ goes) (steps modes_of d meets old (calls next out) s r) in
      subst (λ (x : System). Holds (whole modes_of d) (run modes_of (times (in_all_of (length (listed d))) (exchange out)) x)) (sym at)
      (ends_whole modes_of start meets all old (holding s.laptop s.memory) s.highest out room r.edition_at s.laptop s.memory s.way s.fate r.page_at r.standing_at s.lost
      r.invariant.formed.lent idle absent unentered free refl out_now).1

  brought_to_rest : (s : System) → Reached modes_of d old s → any_entered s.memory.entered ≡ false → NoDeadEnd modes_of d s out
  unfolding run step called
  brought_to_rest s r unentered =
      let ended_now : (step modes_of (calls protocol_error []) s).laptop.wait ≡ None = error_ends s.laptop s.laptop.wait 0 refl in
      let after_error = steps modes_of d meets old (calls protocol_error []) s r in
      let heard_now = heard_out modes_of d meets old (step modes_of (calls protocol_error []) s) after_error ended_now in
      let after_arrival = steps modes_of d meets old arrive (step modes_of (calls protocol_error []) s) after_error in
      let b : System = step modes_of arrive (step modes_of (calls protocol_error []) s) in
      let dropped_now : (step modes_of (calls drop []) b).laptop ≡ dropped b.laptop =
      drop_taken b.laptop b.memory 0 after_arrival.invariant.formed heard_now.0 in (
        ended_now,
        gathers (step modes_of (calls drop []) b) (steps modes_of d meets old (calls drop []) b after_arrival) (ap (λ (x : Laptop). x.wait) dropped_now)
            (ap (λ (x : Laptop). x.candidate) dropped_now) (ap (λ (x : Memory). any_entered x.entered) heard_now.1 ∙ unentered) heard_now.2,
      )

  pub no_dead_end : Begins start → (events : List Event) → any_entered (run modes_of events start).memory.entered ≡ false →
      NoDeadEnd modes_of d (run modes_of events start) out
  no_dead_end begins events unentered = brought_to_rest (run modes_of events start) (there modes_of start meets begins events) unentered
