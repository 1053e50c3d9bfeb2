-- The run in which nothing is lost, for every list.
use mathlib.Core.Logic.{◌⊎◌, inl, inr}
use mathlib.Core.Path.{◌≡◌, refl, ap, ap₂, sym, ◌∙◌, subst}
use mathlib.Core.Bool.{Bool, true, false, cond}
use mathlib.Core.List.{List, [], ◌∷◌}
use Prim.Native.Nat.{ℕ, zero, suc, ◌+◌, ◌-◌, ◌/◌, ◌<◌, ◌≤◌}
use native.Mathlib.Omega.{arith}
use lib.ListN.{length, take, replicate}
use Rattle.laws.specs.Padded.{padded}
use Rattle.messages.specs.Editions.{ours, lower}
use Rattle.messages.specs.Layout.{Message, message_bytes}
use Rattle.messages.specs.Reading.{read_outcome}
use Rattle.messages.specs.declared.edition.Edition.{Edition}
use Rattle.dock.specs.Data.{listed}
use Rattle.dock.specs.declared.Dock.{Dock}
use Rattle.dock.specs.declared.Policy.TheVariants.{Give}
use Rattle.dock.specs.declared.Standing.{Standing}
use Rattle.dock.specs.declared.Standing.TheVariants.{Ready}
use Rattle.hearing.specs.Hearing.{Result, heard}
use Rattle.owner.specs.Owner.{any_entered, request_message, asks_next}
use Rattle.laptop.specs.Calls.{sends, accepted_with}
use Rattle.laptop.specs.State.{Memory, memory, opened, identity_request, identity_asked}
use Rattle.laptop.specs.declared.Candidate.TheVariants.{Absent}
use Rattle.laptop.specs.declared.Laptop.{Laptop}
use Rattle.laptop.specs.declared.Told.TheVariants.{Nothing as ToldNothing}
use Rattle.std.specs.Prelude.{None}
use Rattle.laptop_laws.specs.Effects.{next}
use Rattle.laptop_laws.specs.Holding.{Holding, holding}
use Rattle.laptop_laws.specs.WellFormed.{Lent}
use Rattle.link.specs.Demand.{Meets, AtRest, Begins, whole, held_words, Holds}
use Rattle.link.specs.Exchanges.{HasAll, exchange, times, up_to_arrival, Throughout, LossFree}
use Rattle.link.specs.Joined.{Way, clear, request, Fate, gone, System, Event, calls, reach, answer, arrive, sent}
use Rattle.link.specs.Link.{lost_with, opens, step, run}
use Rattle.link.specs.Needed.{identity_answer, needed, received, in_all_of}
use Rattle.unharmed.proofs.Arriving.{answer_read}
use Rattle.unharmed.proofs.AtDock.{page_then}
use Rattle.unharmed.proofs.Course.{identity_ack, moves_other}
use Rattle.unharmed.proofs.Hears.{hear_fit, identity_heard}
use Rattle.unharmed.proofs.Invariant.{Reached}
use Rattle.unharmed.proofs.Laws.{identity_shaped, begins_with, begun}
use Rattle.unharmed.proofs.Runs.{runs}
use Rattle.progress.proofs.Advancing.{HoldsBase, Advance, onward, finished}
use Rattle.progress.proofs.Clean.{rested, listing, Clean, confirms, held_reaching, held_handed, held_arrived}
use Rattle.progress.proofs.InOrder.{some_in_all}
use Rattle.progress.proofs.Events.{tells_after}
use Rattle.link.specs.Permits.{is_confirmed}
use Rattle.progress.proofs.Exchange.{answered_at, standing, way_of, next_sends, identity_given}
use Rattle.progress.proofs.Numbers.{open_number, empty_number}
use Rattle.progress.proofs.Shapes.{identity_answer_shaped}
use Rattle.progress.proofs.Stages.{advances}
use Rattle.progress.proofs.Tells.{Tells, none_came, empty_or_some}

pub asks_identity : (l : Laptop) (svids : List ℕ) → l.candidate ≡ Absent → asks_next l svids l.candidate ≡ sends (request_message identity_request) (identity_asked l)
unfolding asks_next
asks_identity l svids absent = rw absent

module _ (modes_of : ℕ → List ℕ) (start : System) (meets : Meets modes_of start.dock) (all : HasAll modes_of start.dock) (old base : Holding) (h : Edition)
    (out : List ℕ) (room : 28 ≤ length out) where
  abbrev d : Dock
  d = start.dock

  abbrev list : List ℕ
  list = listed d

  -- k exchanges and one more end with the dock's whole catalogue
  abbrev pub Finishes : ℕ → System → Type 0
  Finishes k s =
      Throughout modes_of (HoldsBase modes_of start meets old base h out room) (up_to_arrival k out) s × Holds (whole modes_of d) (run modes_of (times (suc k) (exchange out)) s) ×
      (0 < length list → (run modes_of (times (suc k) (exchange out)) s).laptop.pages ≡ length list / 12 + 1)

  advanced : (k : ℕ) (s : System) (got : List Message) → needed modes_of d got ≡ suc k →
      ((e : Edition) (l : Laptop) (m : Memory) (way : Way) (page : ℕ) (after : List Message) → Clean modes_of d meets old base h out room e l m way page after →
      (j : ℕ) → k ≡ suc j → needed modes_of d after ≡ suc j → Finishes j (rested modes_of d meets old base h out room e l m way page)) →
      Advance modes_of start meets old base h out room s got → Finishes k s
  unfolding run
  advanced zero s got n rest (finished one held pages along) = (along, held, pages)
  advanced (suc k) s got n rest (finished one held pages along) = absurd (omega arith)
  advanced zero s got n rest (onward e l m way page after there clean less some arrived along) = absurd (omega arith)
  advanced (suc k) s got n rest (onward e l m way page after there clean less some arrived along) =
      let then : Finishes k (run modes_of (exchange out) s) = subst (Finishes k) (sym there) (rest e l m way page after clean k refl (omega arith)) in
      ((along.0, (along.1.0, (along.1.1.0, (along.1.1.1, (arrived, then.0))))), then.1, then.2)

  pub finishes : (k : ℕ) (e : Edition) (l : Laptop) (m : Memory) (way : Way) (page : ℕ) (got : List Message) →
      Clean modes_of d meets old base h out room e l m way page got → needed modes_of d got ≡ suc k →
      Finishes k (rested modes_of d meets old base h out room e l m way page)
  finishes zero e l m way page got clean n =
      advanced zero _ got n (λ e' l' m' w q g c j same less. absurd (omega arith)) (advances modes_of start meets all old base h out room e l m way page got clean)
  finishes (suc k) e l m way page got clean n =
      advanced (suc k) _ got n
      (λ e' l' m' w q g c j next less.
      let same : k ≡ j = omega arith in
      subst (λ (i : ℕ). Finishes i (rested modes_of d meets old base h out room e' l' m' w q)) same (finishes k e' l' m' w q g c (omega arith)))
      (advances modes_of start meets all old base h out room e l m way page got clean)

  -- the first exchange: Identity is out, and nothing that is confirmed has still to arrive
  module _ (e : Edition) (l : Laptop) (m : Memory) (way : Way) (fate : Fate) (q : ℕ) (t : Standing) (z : ℕ) (lent : Lent m) (idle : l.wait ≡ None)
      (absent : l.candidate ≡ Absent) (unentered : any_entered m.entered ≡ false) (free : is_confirmed fate ≡ false) (holds_base : holding l m ≡ base)
      (reached_out : Reached modes_of d old (standing modes_of d h out room e (identity_asked l) m (request (message_bytes ours (request_message identity_request))) fate q t z)) where
    abbrev s : System
    s = standing modes_of d h out room e l m way fate q t z

    abbrev out_now : System
    out_now = standing modes_of d h out room e (identity_asked l) m (request (message_bytes ours (request_message identity_request))) fate q t z

    asked : step modes_of (calls next out) s ≡ out_now
    asked =
        next_sends modes_of d h out room e l m way fate q t z lent idle unentered identity_request (identity_asked l) (asks_identity l m.svids absent) refl identity_shaped

    -- the edition of the answer
    abbrev now : Edition
    now = answered_at modes_of d h out room ours

    abbrev opening : Result
    opening =
        record {
          step = accepted_with ToldNothing (opened (length (take d.extent d.identity)) (lower now ours) (identity_asked l));
          after =
              memory (replicate 72 0) m.modes (padded (take d.extent d.identity)) m.run m.held_svids m.held_modes m.held_identity
              m.held_run m.entered;
        }

    heard_is : heard (identity_asked l) m (read_outcome (message_bytes now (identity_answer d))) ≡ opening
    heard_is =
        ap (heard (identity_asked l) m) (answer_read modes_of d meets now identity_ack (identity_answer_shaped modes_of d meets all)) ∙
        hear_fit (identity_asked l) m lent now (identity_answer d) refl refl ∙ identity_heard (identity_asked l) m now (take d.extent d.identity)

    abbrev way_there : Way
    way_there = way_of modes_of d h out room now (identity_asked l) m clear (identity_answer d)

    abbrev there : System
    there = rested modes_of d meets old base h out room now opening.step.laptop opening.after way_there 0

    abbrev rest : List Event
    rest = reach out ∷ answer Give out ∷ arrive ∷ sent ∷ []

    opens_now : opens (identity_asked l) opening.step.laptop ≡ true
    unfolding opens
    opens_now = refl

    comes_to : run modes_of rest out_now ≡ there
    unfolding run page_then
    comes_to =
        confirms modes_of d meets old base h out room e ours (identity_asked l) m fate q t z free identity_request identity_shaped (omega arith) (omega arith)
        (identity_answer d) false (identity_given modes_of d h out room now 0 all.identity_good) (identity_answer_shaped modes_of d meets all) opening heard_is ∙
        ap₂ (λ (p n : ℕ). standing modes_of d h out room now opening.step.laptop opening.after way_there gone p Ready n) (moves_other (listed d) 0)
        (ap (λ (b : Bool). cond b 0 (lost_with fate z)) opens_now)

    abbrev got : List Message
    got = received modes_of rest out_now []

    tells : Tells modes_of d meets opening.step.laptop got
    tells =
        subst (λ (x : System). Tells modes_of d meets x.laptop got) comes_to
        (tells_after modes_of start meets old rest out_now reached_out [] (none_came refl refl))

    clean : Clean modes_of d meets old base h out room now opening.step.laptop opening.after way_there 0 got
    clean =
        record {
          reached_so = subst (Reached modes_of d old) comes_to (runs modes_of d meets old rest out_now reached_out);
          tells_so = tells;
          idle = refl;
          unentered = unentered;
          stage = listing refl refl;
          holds_base = holds_base;
        }

    one_less : needed modes_of d got + 1 ≡ in_all_of (length list)
    one_less = go (empty_or_some modes_of d meets list)
      where
        go : (list ≡ []) ⊎ (0 < length list) → needed modes_of d got + 1 ≡ in_all_of (length list)
        go (inl empty) =
            ap (λ (n : ℕ). n + 1) (empty_number modes_of d meets opening.step.laptop got refl empty tells).0 ∙ ap (λ (x : List ℕ). in_all_of (length x)) (sym empty)
        go (inr some) =
            omega (arith, (open_number modes_of d meets opening.step.laptop got refl 0 refl some tells).0, some_in_all modes_of d meets (length list) some)

    -- so many exchanges from here
    abbrev pub Ends : ℕ → ℕ → Type 0
    Ends number before =
        Throughout modes_of (HoldsBase modes_of start meets old base h out room) (up_to_arrival before out) s × Holds (whole modes_of d) (run modes_of (times number (exchange out)) s) ×
        (0 < length list → (run modes_of (times number (exchange out)) s).laptop.pages ≡ length list / 12 + 1)

    ends_so : (k : ℕ) → needed modes_of d got ≡ suc k → Ends (suc (suc k)) (suc k)
    unfolding run page_then
    ends_so k n =
        let whole_way : run modes_of (exchange out) s ≡ there = ap (run modes_of rest) asked ∙ comes_to in
        let then : Finishes k (run modes_of (exchange out) s) =
        subst (Finishes k) (sym whole_way) (finishes k now opening.step.laptop opening.after way_there 0 got clean n) in
        let reaching = ap (λ (y : System). held_words (step modes_of (reach out) y)) asked ∙
        held_reaching modes_of d meets old base h out room e ours (identity_asked l) m fate q t z free identity_request identity_shaped (omega arith) (omega arith)
        (identity_answer d) false (identity_given modes_of d h out room now 0 all.identity_good) (identity_answer_shaped modes_of d meets all) opening heard_is ∙ holds_base in
        let giving = ap (λ (y : System). held_words (step modes_of (answer Give out) (step modes_of (reach out) y))) asked ∙
        held_handed modes_of d meets old base h out room e ours (identity_asked l) m fate q t z free identity_request identity_shaped (omega arith) (omega arith)
        (identity_answer d) false (identity_given modes_of d h out room now 0 all.identity_good) (identity_answer_shaped modes_of d meets all) opening heard_is ∙ holds_base in
        let arriving = ap (λ (y : System). held_words (step modes_of arrive (step modes_of (answer Give out) (step modes_of (reach out) y)))) asked ∙
        held_arrived modes_of d meets old base h out room e ours (identity_asked l) m fate q t z free identity_request identity_shaped (omega arith) (omega arith)
        (identity_answer d) false (identity_given modes_of d h out room now 0 all.identity_good) (identity_answer_shaped modes_of d meets all) opening heard_is ∙ holds_base in
        ((holds_base, (ap held_words asked ∙ holds_base, (reaching, (giving, (arriving, then.0))))), then.1, then.2)

    pub ends_whole : Ends (in_all_of (length list)) (in_all_of (length list) - 1)
    ends_whole =
        let k : ℕ = in_all_of (length list) - 2 in
        let number : needed modes_of d got ≡ suc k = omega (arith, one_less, two_at_least (length list)) in
        let total : suc (suc k) ≡ in_all_of (length list) = omega (arith, two_at_least (length list)) in
        let before : suc k ≡ in_all_of (length list) - 1 = omega (arith, two_at_least (length list)) in
        subst (λ (i : ℕ). Ends i (in_all_of (length list) - 1)) total (subst (Ends (suc (suc k))) before (ends_so k number))
      where
        two_at_least : (n : ℕ) → 2 ≤ in_all_of n
        two_at_least zero = omega arith
        two_at_least (suc n) = omega arith

-- from rest, with no candidate and no mode entered
pub loss_free : (modes_of : ℕ → List ℕ) (s : System) → Meets modes_of s.dock → HasAll modes_of s.dock → AtRest s → s.laptop.candidate ≡ Absent →
    any_entered s.memory.entered ≡ false → (out : List ℕ) → 28 ≤ length out → LossFree modes_of s out
loss_free modes_of s meets all rest absent unentered out room =
    ends_whole modes_of start meets all (held_words s) (held_words s) s.highest out room s.dock.edition s.laptop s.memory s.way s.fate s.dock.page s.dock.standing s.lost
    rest.formed.lent rest.nothing_awaited absent unentered (ap is_confirmed rest.nothing_comes) refl
    (begun modes_of start meets begins)
  where
    start : System
    start =
        record {
          laptop = identity_asked s.laptop;
          memory = s.memory;
          way = request (message_bytes ours (request_message identity_request));
          fate = s.fate;
          dock = s.dock;
          highest = s.highest;
          lost = s.lost;
        }

    begins : Begins start
    begins = subst Begins goes (begins_with modes_of s rest out next (ap (λ (x : System). x.laptop.wait) goes))
      where
        goes : step modes_of (calls next out) s ≡ start
        goes =
            next_sends modes_of s.dock s.highest out room s.dock.edition s.laptop s.memory s.way s.fate s.dock.page s.dock.standing s.lost rest.formed.lent
            rest.nothing_awaited unentered identity_request (identity_asked s.laptop) (asks_identity s.laptop s.memory.svids absent) refl identity_shaped
