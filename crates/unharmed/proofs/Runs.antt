-- Each event keeps the invariant, and what it does to the gathering and to what is held.
use Rattle.std.specs.Prelude.{Some}
use mathlib.Core.Logic.{◌⊎◌, inl, inr}
use mathlib.Core.Path.{◌≡◌, refl, ap, ap₂, sym, ◌∙◌, subst}
use mathlib.Core.Bool.{Bool, true, false, cond, false≢true}
use mathlib.Core.List.{List, [], ◌∷◌}
use Prim.Native.Nat.{ℕ}
use lib.Dec.{eqb}
use lib.ListN.{length}
use Rattle.messages.specs.Layout.{Message, message_bytes, message_length}
use Rattle.messages.specs.Reading.{Outcome, accepted, read_outcome}
use Rattle.messages.specs.Writing.{write_refusal}
use Rattle.messages.specs.declared.edition.Edition.{Edition}
use Rattle.dock.specs.declared.Dock.{Dock}
use Rattle.dock.specs.declared.Policy.{Policy}
use Rattle.dock.specs.declared.Standing.{Standing}
use Rattle.dock.specs.declared.Standing.TheVariants.{Ready, Asking, Sending}
use Rattle.catalogue.specs.Bytes.{holding as holds}
use Rattle.laptop.specs.Calls.{Decision, sends, refused_by, sent_by, step_of}
use Rattle.hearing.specs.Hearing.{is_late_page, heard}
use Rattle.owner.specs.Owner.{is_absent, request_message}
use Rattle.laptop.specs.State.{Memory, ended, awaiting, identity_request, identity_asked}
use Rattle.laptop.specs.declared.Candidate.TheVariants.{Absent}
use Rattle.laptop.specs.declared.Laptop.{Laptop}
use Rattle.laptop_laws.specs.Effects.{Call, message, next, start_over, drop, enter, exit, timer, protocol_error}
use Rattle.laptop_laws.specs.Holding.{Holding, holding}
use Rattle.laptop_laws.specs.WellFormed.{WellFormed}
use Rattle.link.specs.Demand.{Meets, whole, held_in, held_words, refusal_of, Ending, by_drop, by_start_over, by_late_page, by_fourteen, NeverBad}
use Rattle.link.specs.Needed.{on_way, arriving}
use Rattle.unharmed.proofs.LastAnswer.{is_last_head, is_last_outcome, is_last_of, is_last_answer, ReplacesAt, EndsAt}
use Rattle.link.specs.Joined.{Way, clear, request, Fate, gone, coming, confirmed, came, System, Event, calls, lose_request, reach, answer, lose_answer, arrive, sent, failed}
use Rattle.link.specs.Link.{called, reaches, answered_by, is_fair, answers, hears_sent, hears_failed, loses_answer, step, run}
use Rattle.unharmed.proofs.Arriving.{arrive_ok, answer_read, timely_landed, sure_landed}
use Rattle.unharmed.proofs.AtDock.{Inv, lose_request_lem, reach_ok, answer_ok}
use Rattle.unharmed.proofs.Confirming.{lose_ok, sent_ok, failed_ok}
use Rattle.unharmed.proofs.AtLaptop.{Decides, stays, asks_identity, asks_other, drops, ends, next_is, start_over_is, drop_is, enter_is, exit_is, timer_is, error_is, call_ok}
use Rattle.unharmed.proofs.Course.{Carried, nothing, under_way, sure, arrived}
use Rattle.unharmed.proofs.Invariant.{message_of, fate_of, system_of, Reached}

module _ (modes_of : ℕ → List ℕ) (d : Dock) (meets : Meets modes_of d) (old : Holding) where
  step_ok : (h at : Edition) (e : Event) (l : Laptop) (m : Memory) (way : Way) (q : ℕ) (t : Standing) (v : Carried) (z : ℕ) →
      Inv modes_of d old l m way q t v z → Reached modes_of d old (step modes_of e (system_of modes_of d old h at l m way q t v z))
  unfolding step
  step_ok h at (calls c out) l m way q t v z i = call_ok modes_of d old h at l m way q t v z i out c
  step_ok h at lose_request l m way q t v z i = lose_request_lem modes_of d old h at l m way q t v z i
  step_ok h at (reach out) l m way q t v z i = reach_ok modes_of d old h at l m way q t v z i out
  step_ok h at (answer policy out) l m way q t v z i = answer_ok modes_of d old h at l m way q t v z i policy out
  step_ok h at lose_answer l m way q t v z i = lose_ok modes_of d old h at l m way q t v z i
  step_ok h at arrive l m way q t v z i = arrive_ok modes_of d meets old h at l m way q t v z i
  step_ok h at sent l m way q t v z i = sent_ok modes_of d old h at l m way q t v z i
  step_ok h at failed l m way q t v z i = failed_ok modes_of d old h at l m way q t v z i

  pub steps : (e : Event) (s : System) → Reached modes_of d old s → Reached modes_of d old (step modes_of e s)
  steps e s r =
      subst (λ (x : System). Reached modes_of d old (step modes_of e x)) (sym r.is)
      (step_ok s.highest r.edition_at e s.laptop s.memory s.way r.page_at r.standing_at r.carried s.lost r.invariant)

  pub runs : (events : List Event) (s : System) → Reached modes_of d old s → Reached modes_of d old (run modes_of events s)
  unfolding run
  runs [] s r = r
  runs (e ∷ events) s r = runs events (step modes_of e s) (steps e s r)

-- an event at the dock or on the link leaves the laptop as it was
abbrev Aside : (ℕ → List ℕ) → Event → System → Type 0
Aside modes_of e s = ((step modes_of e s).laptop ≡ s.laptop) × ((step modes_of e s).memory ≡ s.memory)

module _ (s : System) where
  pub reaches_aside : (out : List ℕ) (way : Way) (fate : Fate) → ((reaches out way fate s).laptop ≡ s.laptop) × ((reaches out way fate s).memory ≡ s.memory)
  reaches_aside out clear fate = (refl, refl)
  reaches_aside out (request bytes) gone = (refl, refl)
  reaches_aside out (request bytes) (coming a) = (refl, refl)
  reaches_aside out (request bytes) (confirmed a) = (refl, refl)
  reaches_aside out (request bytes) (came b) = (refl, refl)

  pub answers_aside : (modes_of : ℕ → List ℕ) (policy : Policy) (out : List ℕ) (t : Standing) →
      ((answers modes_of policy out t s).laptop ≡ s.laptop) × ((answers modes_of policy out t s).memory ≡ s.memory)
  answers_aside modes_of policy out Ready = (refl, refl)
  answers_aside modes_of policy out (Asking r) = go (is_fair policy r _) _
    where
      go : (b : Bool) (x : Rattle.dock.specs.Dock.Decision) →
          ((cond b (answered_by out x s) s).laptop ≡ s.laptop) × ((cond b (answered_by out x s) s).memory ≡ s.memory)
      go true x = (refl, refl)
      go false x = (refl, refl)
  answers_aside modes_of policy out (Sending b) = (refl, refl)

  pub loses_aside : (fate : Fate) → ((loses_answer fate s).laptop ≡ s.laptop) × ((loses_answer fate s).memory ≡ s.memory)
  loses_aside gone = (refl, refl)
  loses_aside (coming bytes) = (refl, refl)
  loses_aside (confirmed bytes) = (refl, refl)
  loses_aside (came b) = (refl, refl)

  pub sent_aside : (t : Standing) (fate : Fate) → ((hears_sent t fate s).laptop ≡ s.laptop) × ((hears_sent t fate s).memory ≡ s.memory)
  sent_aside Ready fate = (refl, refl)
  sent_aside (Asking r) fate = (refl, refl)
  sent_aside (Sending b) gone = (refl, refl)
  sent_aside (Sending b) (coming bytes) = (refl, refl)
  sent_aside (Sending b) (confirmed bytes) = (refl, refl)
  sent_aside (Sending b) (came x) = (refl, refl)

  pub failed_aside : (t : Standing) → ((hears_failed t s).laptop ≡ s.laptop) × ((hears_failed t s).memory ≡ s.memory)
  failed_aside Ready = (refl, refl)
  failed_aside (Asking r) = (refl, refl)
  failed_aside (Sending b) = (refl, refl)

-- what an event does to the gathering and to what is held
module _ (modes_of : ℕ → List ℕ) (start : System) where
  pub record Does (e : Event) (s : System) : Type 0 where
    pub replaces : ReplacesAt modes_of start e s
    pub ends_by : EndsAt modes_of e s
    pub never_bad : NeverBad e s

  aside_does : (e : Event) (s : System) → Aside modes_of e s → is_last_answer e s ≡ false → refusal_of s (arriving e s.fate) ≡ 0 → Does e s
  aside_does e s a n z =
      record {
        replaces = (λ x. absurd (false≢true (sym n ∙ x)), λ x. ap₂ holding a.0 a.1);
        ends_by = λ x y. absurd (false≢true (sym x ∙ ap (λ (l : Laptop). is_absent l.candidate) (sym a.0) ∙ y));
        never_bad = inl z;
      }

  -- a call at the laptop
  abbrev CallDoes : Laptop → Memory → Call → Laptop → Type 0
  CallDoes l m c after =
      (holding after m ≡ holding l m) × (is_absent l.candidate ≡ false → is_absent after.candidate ≡ true → (c ≡ drop) ⊎ (c ≡ start_over))

  sent_or_left : (l after : Laptop) (x : Message) (room : ℕ) (P : Laptop → Type 0) → P after → P l → P (step_of l (sends x after) room).laptop
  unfolding step_of
  sent_or_left l after x room P went left = go (eqb (write_refusal x room) 0)
    where
      go : (b : Bool) → P (cond b (sent_by (message_length x) after) (refused_by (write_refusal x room) l)).laptop
      go true = went
      go false = left

  no_end : (l : Laptop) (m : Memory) (c : Call) (after : Laptop) → after.candidate ≡ l.candidate → holding after m ≡ holding l m → CallDoes l m c after
  no_end l m c after e h = (h, λ x y. absurd (false≢true (sym x ∙ ap is_absent (sym e) ∙ y)))

  no_candidate : (l : Laptop) (c d : Call) → (l.candidate ≡ Absent) ⊎ (c ≡ d) → is_absent l.candidate ≡ false → c ≡ d
  no_candidate l c d (inl e) x = absurd (false≢true (sym x ∙ ap is_absent e))
  no_candidate l c d (inr e) x = e

  decided_does : (l : Laptop) (m : Memory) (c : Call) (x : Decision) (room : ℕ) → Decides l c x → CallDoes l m c (step_of l x room).laptop
  unfolding step_of
  decided_does l m c x room (stays number n e) =
      subst (λ (y : Decision). CallDoes l m c (step_of l y room).laptop) (sym e) (no_end l m c l refl refl)
  decided_does l m c x room (asks_identity a e) =
      subst (λ (y : Decision). CallDoes l m c (step_of l y room).laptop) (sym e)
      (sent_or_left l (identity_asked l) (request_message identity_request) room (CallDoes l m c) (refl, λ n y. inr (no_candidate l c start_over a n))
      (no_end l m c l refl refl))
  decided_does l m c x room (asks_other r least few e) =
      subst (λ (y : Decision). CallDoes l m c (step_of l y room).laptop) (sym e)
      (sent_or_left l (awaiting r l) (request_message r) room (CallDoes l m c) (no_end l m c (awaiting r l) refl refl) (no_end l m c l refl refl))
  decided_does l m c x room (drops told a e) =
      subst (λ (y : Decision). CallDoes l m c (step_of l y room).laptop) (sym e) (refl, λ n y. inl (no_candidate l c drop a n))
  decided_does l m c x room (ends told e) =
      subst (λ (y : Decision). CallDoes l m c (step_of l y room).laptop) (sym e) (no_end l m c (ended l) refl refl)

  made : (c : Call) (out : List ℕ) (s : System) (after : Laptop) → CallDoes s.laptop s.memory c after → (step modes_of (calls c out) s).laptop ≡ after →
      (step modes_of (calls c out) s).memory ≡ s.memory → Does (calls c out) s
  made c out s after f el em =
      record {
        replaces = (λ x. absurd (false≢true x), λ x. ap₂ holding el em ∙ f.0);
        ends_by = λ x y. inr (ended_by (f.1 x (ap (λ (l : Laptop). is_absent l.candidate) (sym el) ∙ y)));
        never_bad = inl refl;
      }
    where
      ended_by : (c ≡ drop) ⊎ (c ≡ start_over) → Ending s (calls c out)
      ended_by (inl e) = subst (λ (x : Call). Ending s (calls x out)) (sym e) (by_drop out)
      ended_by (inr e) = subst (λ (x : Call). Ending s (calls x out)) (sym e) (by_start_over out)

  pub call_does : (c : Call) (out : List ℕ) (s : System) → WellFormed s.laptop s.memory → Does (calls c out) s
  unfolding step called
  call_does (message bytes) out s f = aside_does (calls (message bytes) out) s (refl, refl) refl refl
  call_does next out s f =
      made next out s _ (decided_does s.laptop s.memory next _ (length out) (next_is s.laptop s.memory f)) refl refl
  call_does start_over out s f =
      made start_over out s _ (decided_does s.laptop s.memory start_over _ (length out) (start_over_is s.laptop s.memory f)) refl refl
  call_does drop out s f =
      made drop out s _ (decided_does s.laptop s.memory drop _ (length out) (drop_is s.laptop s.memory f)) refl refl
  call_does (enter svid position) out s f =
      made (enter svid position) out s _
      (decided_does s.laptop s.memory (enter svid position) _ (length out) (enter_is s.laptop s.memory f svid position)) refl refl
  call_does (exit svid position) out s f =
      made (exit svid position) out s _
      (decided_does s.laptop s.memory (exit svid position) _ (length out) (exit_is s.laptop s.memory f svid position)) refl refl
  call_does (timer first last) out s f =
      made (timer first last) out s _
      (decided_does s.laptop s.memory (timer first last) _ (length out) (timer_is s.laptop s.memory f first last)) refl refl
  call_does protocol_error out s f =
      made protocol_error out s _ (decided_does s.laptop s.memory protocol_error _ (length out) (error_is s.laptop s.memory f)) refl refl

  -- an answer arrives
  last_is : (l : Laptop) (o : Outcome) (at : Edition) (x : Message) → o ≡ accepted at x → is_last_outcome l o ≡ is_last_head l x.head
  unfolding is_last_outcome
  last_is l o at x e = rw e

  abbrev HeardDoes : System → List ℕ → Message → Type 0
  HeardDoes s bytes x =
      (is_last_head s.laptop x.head ≡ true →
      held_in (holding (heard s.laptop s.memory (read_outcome bytes)).step.laptop (heard s.laptop s.memory (read_outcome bytes)).after) ≡
      holds (whole modes_of start.dock)) ×
      (is_last_head s.laptop x.head ≡ false →
      holding (heard s.laptop s.memory (read_outcome bytes)).step.laptop (heard s.laptop s.memory (read_outcome bytes)).after ≡ held_words s) ×
      (is_absent s.laptop.candidate ≡ false → is_absent (heard s.laptop s.memory (read_outcome bytes)).step.laptop.candidate ≡ true →
      (is_last_head s.laptop x.head ≡ true) ⊎
      ((is_late_page s.laptop x.head ≡ true) ⊎ ((heard s.laptop s.memory (read_outcome bytes)).step.refusal ≡ 14))) ×
      (((heard s.laptop s.memory (read_outcome bytes)).step.refusal ≡ 0) ⊎
      (((heard s.laptop s.memory (read_outcome bytes)).step.refusal ≡ 6) ⊎ ((heard s.laptop s.memory (read_outcome bytes)).step.refusal ≡ 14)))

  arrived_does : (s : System) (bytes : List ℕ) (at : Edition) (x : Message) → on_way s.fate ≡ Some bytes → read_outcome bytes ≡ accepted at x →
      (step modes_of arrive s).laptop ≡ (heard s.laptop s.memory (read_outcome bytes)).step.laptop →
      (step modes_of arrive s).memory ≡ (heard s.laptop s.memory (read_outcome bytes)).after → HeardDoes s bytes x → Does arrive s
  arrived_does s bytes at x way read el em f =
      record {
        replaces = (λ b. ap held_in (ap₂ holding el em) ∙ f.0 (sym same ∙ b), λ b. ap₂ holding el em ∙ f.1 (sym same ∙ b));
        ends_by = λ n y. ended_by (f.2 n (ap (λ (l : Laptop). is_absent l.candidate) (sym el) ∙ y));
        never_bad = subst (λ (n : ℕ). (n ≡ 0) ⊎ ((n ≡ 6) ⊎ (n ≡ 14))) (sym refused) f.3;
      }
    where
      same : is_last_answer arrive s ≡ is_last_head s.laptop x.head
      same = ap (is_last_of s.laptop) way ∙ last_is s.laptop (read_outcome bytes) at x read

      refused : refusal_of s (on_way s.fate) ≡ (heard s.laptop s.memory (read_outcome bytes)).step.refusal
      refused = ap (refusal_of s) way

      ended_by : (is_last_head s.laptop x.head ≡ true) ⊎
          ((is_late_page s.laptop x.head ≡ true) ⊎ ((heard s.laptop s.memory (read_outcome bytes)).step.refusal ≡ 14)) →
          (is_last_answer arrive s ≡ true) ⊎ Ending s arrive
      ended_by (inl e) = inl (same ∙ e)
      ended_by (inr (inl e)) = inr (by_late_page bytes at x way read e)
      ended_by (inr (inr e)) = inr (by_fourteen (refused ∙ e))

  -- each event, at a state that a run reaches
  module _ (d : Dock) (old : Holding) (same : whole modes_of start.dock ≡ whole modes_of d) (meets : Meets modes_of d) where
    event_does : (h at : Edition) (e : Event) (l : Laptop) (m : Memory) (way : Way) (q : ℕ) (t : Standing) (v : Carried) (z : ℕ) →
        Inv modes_of d old l m way q t v z → Does e (system_of modes_of d old h at l m way q t v z)
    unfolding step
    event_does h at (calls c out) l m way q t v z i = call_does c out _ i.formed
    event_does h at lose_request l m way q t v z i = aside_does lose_request _ (refl, refl) refl refl
    event_does h at (reach out) l m way q t v z i = aside_does (reach out) _ (reaches_aside _ out way (fate_of modes_of d at v)) refl refl
    event_does h at (answer policy out) l m way q t v z i = aside_does (answer policy out) _ (answers_aside _ modes_of policy out t) refl refl
    event_does h at lose_answer l m way q t v z i = aside_does lose_answer _ (loses_aside _ (fate_of modes_of d at v)) refl refl
    event_does h at sent l m way q t v z i = aside_does sent _ (sent_aside _ t (fate_of modes_of d at v)) refl refl
    event_does h at failed l m way q t v z i = aside_does failed _ (failed_aside _ t) refl refl
    event_does h at arrive l m way q t nothing z i = aside_does arrive _ (refl, refl) refl refl
    event_does h at arrive l m way q t (arrived b) z i = aside_does arrive _ (refl, refl) refl refl
    event_does h at arrive l m way q t (under_way a) z i =
        let f = timely_landed modes_of d meets old at l m way q t z a i in
        arrived_does _ (message_bytes at (message_of modes_of d a)) at (message_of modes_of d a) refl (answer_read modes_of d meets at a i.fate_fits.1) refl refl
        (λ b. f.new_lands b ∙ ap holds (sym same), f.old_lands, f.end_lands, f.refusal_lands)
    event_does h at arrive l m way q t (sure a) z i =
        let f = sure_landed modes_of d meets old at l m way q t z a i in
        arrived_does _ (message_bytes at (message_of modes_of d a)) at (message_of modes_of d a) refl (answer_read modes_of d meets at a i.fate_fits.1) refl refl
        (λ b. f.new_lands b ∙ ap holds (sym same), f.old_lands, f.end_lands, f.refusal_lands)

    pub does : (e : Event) (s : System) → Reached modes_of d old s → Does e s
    does e s r =
        subst (Does e) (sym r.is)
        (event_does s.highest r.edition_at e s.laptop s.memory s.way r.page_at r.standing_at r.carried s.lost r.invariant)
