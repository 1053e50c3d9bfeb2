-- Each event, at a state that a run reaches: what it does to the number of answers still needed, and to what is held.
use Rattle.std.specs.Prelude.{Option, Some}
use mathlib.Core.Logic.{◌⊎◌, inl, inr}
use mathlib.Core.Path.{◌≡◌, refl, ap, sym, ◌∙◌, subst}
use mathlib.Core.Bool.{Bool, true, false, cond, false≢true}
use mathlib.Core.List.{List, [], ◌∷◌}
use Prim.Native.Nat.{ℕ, ◌+◌, ◌<◌}
use native.Mathlib.Omega.{arith}
use borrow.Author.Tests.{le-ltb}
use Rattle.messages.specs.Layout.{Message, message_bytes}
use Rattle.messages.specs.Reading.{Outcome as ReadingOutcome}
use Rattle.messages.specs.Reading.{accepted, read_outcome}
use Rattle.messages.specs.declared.edition.Edition.{Edition}
use Rattle.dock.specs.Data.{listed}
use Rattle.dock.specs.declared.Dock.{Dock}
use Rattle.dock.specs.declared.Standing.{Standing}
use Rattle.dock.specs.declared.Standing.TheVariants.{Ready, Asking, Sending}
use Rattle.hearing.specs.Hearing.{heard, is_late_page}
use Rattle.owner.specs.Owner.{decide_drop}
use Rattle.laptop.specs.State.{Memory}
use Rattle.laptop.specs.declared.Candidate.TheVariants.{Absent}
use Rattle.laptop.specs.declared.Laptop.{Laptop}
use Rattle.laptop_laws.specs.Effects.{Call, message, next, start_over, drop, enter, exit, timer, protocol_error}
use Rattle.laptop_laws.specs.Holding.{Holding}
use Rattle.laptop_laws.specs.WellFormed.{awaits_identity, WellFormed}
use Rattle.link.specs.Demand.{Meets, whole, held_words, Holds, refusal_of, Lowers, Replaces, Raises, EndsBy, Ending, by_drop, by_start_over, by_late_page, by_fourteen}
use Rattle.link.specs.Joined.{Way, System, Event, calls, lose_request, reach, answer, lose_answer, arrive, sent, failed}
use Rattle.link.specs.Link.{called, is_unsure, opens, lost_on_arrival, step, run}
use Rattle.link.specs.Needed.{answers_needed, needed, with_taken, with_message, with_arrival, is_new, new_in, new_of, on_way, begins_anew, received_by, received, brings_new}
use Rattle.unharmed.proofs.LastAnswer.{is_last_head, is_last_outcome, is_last_of, is_last_answer}
use Rattle.unharmed.proofs.Arriving.{gives_gave, answer_read, timely}
use Rattle.unharmed.proofs.Arrival.{confirmed_first}
use Rattle.unharmed.proofs.AtDock.{Inv}
use Rattle.unharmed.proofs.Awaited.{and_no}
use Rattle.unharmed.proofs.AtLaptop.{next_is, start_over_is, enter_is, exit_is, timer_is, error_is}
use Rattle.unharmed.proofs.Course.{Carried, nothing, under_way, sure, arrived}
use Rattle.unharmed.proofs.Invariant.{message_of, fate_of, system_of, Reached}
use Rattle.unharmed.proofs.Runs.{reaches_aside, answers_aside, loses_aside, sent_aside, failed_aside, Does, does, steps}
use Rattle.progress.proofs.AtCalls.{Outcome, decided_outcome, drop_outcome}
use Rattle.progress.proofs.OnArrival.{Comes}
use Rattle.progress.proofs.Missing.{missing_most}
use Rattle.progress.proofs.OthersArrive.{comes}
use Rattle.progress.proofs.Tells.{Tells, needs_some, finished_absent}

-- no confirmation is lost with an answer that is not counted and opens nothing
opens_none : (l after : Laptop) → after.candidate ≡ Absent → opens l after ≡ false
unfolding opens
opens_none l after e = rw e (and_no (awaits_identity l.wait))

lost_timely : (l after : Laptop) (t : Standing) (list : List ℕ) (page z : ℕ) → after.pages ≡ l.pages → after.candidate ≡ Absent →
    cond (opens l after) 0 (lost_on_arrival t (is_unsure l after list page) z) ≡ z
unfolding is_unsure
lost_timely l after t list page z e c = rw (opens_none l after c, e, le-ltb l.pages l.pages (omega arith)) (go t)
  where
    go : (s : Standing) → lost_on_arrival s false z ≡ z
    go Ready = refl
    go (Asking r) = refl
    go (Sending b) = refl

module _ (modes_of : ℕ → List ℕ) (start : System) (meets : Meets modes_of start.dock) where
  abbrev d : Dock
  d = start.dock

  pub record Tallies (e : Event) (s : System) (got : List Message) : Type 0 where
    pub tells_then : Tells modes_of d meets (step modes_of e s).laptop (received_by e s got)
    pub lowers : Lowers modes_of d e s got
    pub raises : Raises modes_of d e s got
    pub replaces : Replaces modes_of d e s got
    pub ends_by : EndsBy modes_of d e s got
    -- the last answer needed is no page
    pub pages_kept : 0 < needed modes_of d got → needed modes_of d (received_by e s got) ≡ 0 → (step modes_of e s).laptop.pages ≡ s.laptop.pages
    pub lost_kept : 0 < needed modes_of d got → needed modes_of d (received_by e s got) ≡ 0 → (step modes_of e s).lost ≡ s.lost

  -- an event with which nothing arrives
  module _ (e : Event) (s : System) (got : List Message) (does : Does modes_of start e s) (brings : brings_new e s got ≡ false)
      (last : is_last_answer e s ≡ false) where
    no_last : (is_last_answer e s ≡ true) ⊎ Ending s e → (needed modes_of d (received_by e s got) ≡ 0) ⊎ Ending s e
    no_last (inl x) = absurd (false≢true (sym last ∙ x))
    no_last (inr x) = inr x

    same_tallies : received_by e s got ≡ got → Tells modes_of d meets (step modes_of e s).laptop got → Tallies e s got
    same_tallies same tells =
        let number : needed modes_of d (received_by e s got) ≡ needed modes_of d got = ap (needed modes_of d) same in
        record {
          tells_then = subst (Tells modes_of d meets (step modes_of e s).laptop) (sym same) tells;
          lowers = (λ x. absurd (false≢true (sym brings ∙ x)), λ x. omega (arith, number));
          raises = λ h. absurd (omega (arith, number));
          replaces = (λ h x. absurd (omega (arith, number)), λ x. does.replaces.1 last);
          ends_by = λ x y. no_last (does.ends_by x y);
          pages_kept = λ h x. absurd (omega (arith, number));
          lost_kept = λ h x. absurd (omega (arith, number));
        }

    anew_tallies : received_by e s got ≡ [] → Tells modes_of d meets (step modes_of e s).laptop [] →
        (needed modes_of d got < needed modes_of d [] →
        ((needed modes_of d got ≡ 0) × (awaits_identity (step modes_of e s).laptop.wait ≡ true)) ⊎ Ending s e) →
        Tallies e s got
    anew_tallies anew tells why =
        let number : needed modes_of d (received_by e s got) ≡ needed modes_of d [] = ap (needed modes_of d) anew in
        record {
          tells_then = subst (Tells modes_of d meets (step modes_of e s).laptop) (sym anew) tells;
          lowers = (λ x. absurd (false≢true (sym brings ∙ x)), λ x. omega (arith, number, missing_most got (answers_needed modes_of d)));
          raises = λ h. why (omega (arith, number));
          replaces = (λ h x. absurd (omega (arith, number, needs_some modes_of d meets)), λ x. does.replaces.1 last);
          ends_by = λ x y. no_last (does.ends_by x y);
          pages_kept = λ h x. absurd (omega (arith, number, needs_some modes_of d meets));
          lost_kept = λ h x. absurd (omega (arith, number, needs_some modes_of d meets));
        }

  -- a call
  module _ (s : System) (got : List Message) (formed : WellFormed s.laptop s.memory) (tells : Tells modes_of d meets s.laptop got) (out : List ℕ) where
    ended_by_call : (c : Call) → Does modes_of start (calls c out) s → (ending : Type 0) → (ending → Ending s (calls c out)) →
        Outcome modes_of d meets got (step modes_of (calls c out) s).laptop (received_by (calls c out) s got) ending → Tallies (calls c out) s got
    ended_by_call c does ending end (inl f) = same_tallies (calls c out) s got does refl refl f.0 f.1
    ended_by_call c does ending end (inr f) = anew_tallies (calls c out) s got does refl refl f.0 f.1 (λ h. why (f.2 h))
      where
        why : ((needed modes_of d got ≡ 0) × (awaits_identity (step modes_of (calls c out) s).laptop.wait ≡ true)) ⊎ ending →
            ((needed modes_of d got ≡ 0) × (awaits_identity (step modes_of (calls c out) s).laptop.wait ≡ true)) ⊎ Ending s (calls c out)
        why (inl x) = inl x
        why (inr x) = inr (end x)

    start_over_ends : (c : Call) → c ≡ start_over → Ending s (calls c out)
    start_over_ends c e = subst (λ (x : Call). Ending s (calls x out)) (sym e) (by_start_over out)

    call_tallies : (c : Call) → Does modes_of start (calls c out) s → Tallies (calls c out) s got
    unfolding step called received_by begins_anew decide_drop
    call_tallies (message bytes) does = same_tallies (calls (message bytes) out) s got does refl refl refl tells
    call_tallies next does =
        ended_by_call next does (next ≡ start_over) (start_over_ends next)
        (decided_outcome modes_of d meets got s.laptop s.memory out tells next refl _ (next_is s.laptop s.memory formed))
    call_tallies start_over does =
        ended_by_call start_over does (start_over ≡ start_over) (start_over_ends start_over)
        (decided_outcome modes_of d meets got s.laptop s.memory out tells start_over refl _ (start_over_is s.laptop s.memory formed))
    call_tallies drop does =
        ended_by_call drop does (Ending s (calls drop out)) (λ x. x)
        (drop_outcome modes_of d meets got s.laptop s.memory out tells (Ending s (calls drop out)) (by_drop out) _)
    call_tallies (enter svid position) does =
        ended_by_call (enter svid position) does (enter svid position ≡ start_over) (start_over_ends (enter svid position))
        (decided_outcome modes_of d meets got s.laptop s.memory out tells (enter svid position) refl _ (enter_is s.laptop s.memory formed svid position))
    call_tallies (exit svid position) does =
        ended_by_call (exit svid position) does (exit svid position ≡ start_over) (start_over_ends (exit svid position))
        (decided_outcome modes_of d meets got s.laptop s.memory out tells (exit svid position) refl _ (exit_is s.laptop s.memory formed svid position))
    call_tallies (timer first last) does =
        ended_by_call (timer first last) does (timer first last ≡ start_over) (start_over_ends (timer first last))
        (decided_outcome modes_of d meets got s.laptop s.memory out tells (timer first last) refl _ (timer_is s.laptop s.memory formed first last))
    call_tallies protocol_error does =
        ended_by_call protocol_error does (protocol_error ≡ start_over) (start_over_ends protocol_error)
        (decided_outcome modes_of d meets got s.laptop s.memory out tells protocol_error refl _ (error_is s.laptop s.memory formed))

  -- an answer arrives
  module _ (s : System) (got : List Message) (bytes : List ℕ) (at : Edition) (x : Message) (read : read_outcome bytes ≡ accepted at x) (way : on_way s.fate ≡ Some bytes)
      (same_list : listed s.dock ≡ listed d) (does : Does modes_of start arrive s)
      (laptop_is : (step modes_of arrive s).laptop ≡ (heard s.laptop s.memory (read_outcome bytes)).step.laptop)
      (lost_is : (step modes_of arrive s).laptop.pages ≡ s.laptop.pages → (step modes_of arrive s).laptop.candidate ≡ Absent → (step modes_of arrive s).lost ≡ s.lost)
      (comes_as : Comes modes_of d meets s.laptop x got (heard s.laptop s.memory (accepted at x))) where
    then_is : received_by arrive s got ≡ with_taken s.laptop.wait (listed d) x got
    unfolding received_by with_message
    then_is =
        ap (λ (o : Option (List ℕ)). with_arrival s.laptop.wait (listed s.dock) o got) way ∙
        ap (λ (o : ReadingOutcome). with_message s.laptop.wait (listed s.dock) o got) read ∙
        ap (λ (list : List ℕ). with_taken s.laptop.wait list x got) same_list

    new_is : brings_new arrive s got ≡ is_new s.laptop.wait (listed d) x got
    unfolding new_in
    new_is =
        ap (λ (o : Option (List ℕ)). new_of s.laptop.wait (listed s.dock) o got) way ∙
        ap (λ (o : ReadingOutcome). new_in s.laptop.wait (listed s.dock) o got) read ∙
        ap (λ (list : List ℕ). is_new s.laptop.wait list x got) same_list

    last_is : is_last_answer arrive s ≡ is_last_head s.laptop x.head
    unfolding is_last_outcome
    last_is = ap (is_last_of s.laptop) way ∙ ap (is_last_outcome s.laptop) read

    number : needed modes_of d (received_by arrive s got) ≡ needed modes_of d (with_taken s.laptop.wait (listed d) x got)
    number = ap (needed modes_of d) then_is

    refused_is : refusal_of s (on_way s.fate) ≡ (heard s.laptop s.memory (accepted at x)).step.refusal
    refused_is = ap (refusal_of s) way ∙ ap (λ (o : ReadingOutcome). (heard s.laptop s.memory o).step.refusal) read

    laptop_now : (step modes_of arrive s).laptop ≡ (heard s.laptop s.memory (accepted at x)).step.laptop
    laptop_now = laptop_is ∙ ap (λ (o : ReadingOutcome). (heard s.laptop s.memory o).step.laptop) read

    arrive_tallies : Tallies arrive s got
    arrive_tallies =
        record {
          tells_then =
              subst (λ (l : Laptop). Tells modes_of d meets l (received_by arrive s got))
              (sym laptop_now)
              (subst (Tells modes_of d meets (heard s.laptop s.memory (accepted at x)).step.laptop) (sym then_is) comes_as.tells_on);
          lowers = (
            λ b. ap (λ (n : ℕ). n + 1) number ∙ comes_as.lowered (sym new_is ∙ b),
            λ b. omega (arith, number, comes_as.kept (sym new_is ∙ b)),
          );
          raises = λ h. inr (why (comes_as.raised (omega (arith, number))));
          replaces = (λ h n. replaced h n (is_last_answer arrive s) refl, λ h. unchanged h (is_last_answer arrive s) refl);
          ends_by = λ a b. ended_so (does.ends_by a b);
          pages_kept = λ h n. same_pages h n (is_last_answer arrive s) refl;
          lost_kept = λ h n. lost_is (same_pages h n (is_last_answer arrive s) refl) (given_up n comes_as.tells_on);
        }
      where
        why : (is_late_page s.laptop x.head ≡ true) ⊎ ((heard s.laptop s.memory (accepted at x)).step.refusal ≡ 14) → Ending s arrive
        why (inl e) = by_late_page bytes at x way read e
        why (inr e) = by_fourteen (refused_is ∙ e)

        none_left : is_last_answer arrive s ≡ true → needed modes_of d (received_by arrive s got) ≡ 0
        none_left e = number ∙ (comes_as.last_comes (sym last_is ∙ e)).1

        some_left : is_last_answer arrive s ≡ true → 0 < needed modes_of d got
        some_left e = (comes_as.last_comes (sym last_is ∙ e)).0

        not_now : (needed modes_of d got ≡ 0) ⊎ (0 < needed modes_of d (with_taken s.laptop.wait (listed d) x got)) →
            0 < needed modes_of d got → needed modes_of d (received_by arrive s got) ≡ 0 → ⊥
        not_now (inl e) h n = omega arith
        not_now (inr e) h n = omega (arith, number)

        replaced : 0 < needed modes_of d got → needed modes_of d (received_by arrive s got) ≡ 0 → (b : Bool) → is_last_answer arrive s ≡ b →
            Holds (whole modes_of d) (step modes_of arrive s)
        replaced h n true e = does.replaces.0 e
        replaced h n false e = absurd (not_now (comes_as.other_comes (sym last_is ∙ e)) h n)

        same_pages : 0 < needed modes_of d got → needed modes_of d (received_by arrive s got) ≡ 0 → (b : Bool) → is_last_answer arrive s ≡ b →
            (step modes_of arrive s).laptop.pages ≡ s.laptop.pages
        same_pages h n true e = ap (λ (l : Laptop). l.pages) laptop_now ∙ comes_as.pages_kept (sym last_is ∙ e)
        same_pages h n false e = absurd (not_now (comes_as.other_comes (sym last_is ∙ e)) h n)

        given_up : needed modes_of d (received_by arrive s got) ≡ 0 →
            Tells modes_of d meets (heard s.laptop s.memory (accepted at x)).step.laptop (with_taken s.laptop.wait (listed d) x got) →
            (step modes_of arrive s).laptop.candidate ≡ Absent
        given_up n t = ap (λ (l : Laptop). l.candidate) laptop_now ∙ finished_absent modes_of d meets _ _ (sym number ∙ n) t

        unchanged : (needed modes_of d got ≡ 0) ⊎ (0 < needed modes_of d (received_by arrive s got)) → (b : Bool) → is_last_answer arrive s ≡ b →
            held_words (step modes_of arrive s) ≡ held_words s
        unchanged h false e = does.replaces.1 e
        unchanged (inl h) true e = absurd (omega (arith, some_left e))
        unchanged (inr h) true e = absurd (omega (arith, none_left e))

        ended_so : (is_last_answer arrive s ≡ true) ⊎ Ending s arrive → (needed modes_of d (received_by arrive s got) ≡ 0) ⊎ Ending s arrive
        ended_so (inl e) = inl (none_left e)
        ended_so (inr e) = inr e

  -- each event, where the invariant holds
  module _ (old : Holding) where
    module _ (h on : Edition) (l : Laptop) (m : Memory) (way : Way) (q : ℕ) (t : Standing) (v : Carried) (z : ℕ)
        (i : Inv modes_of d old l m way q t v z) (got : List Message) (tells : Tells modes_of d meets l got) where
      abbrev at : System
      at = system_of modes_of d old h on l m way q t v z

      aside : (e : Event) → Does modes_of start e at → (step modes_of e at).laptop ≡ l → brings_new e at got ≡ false → is_last_answer e at ≡ false →
          received_by e at got ≡ got → Tallies e at got
      aside e does same brings last got_same =
          same_tallies e at got does brings last got_same (subst (λ (x : Laptop). Tells modes_of d meets x got) (sym same) tells)

    event_tallies : (h on : Edition) (e : Event) (l : Laptop) (m : Memory) (way : Way) (q : ℕ) (t : Standing) (v : Carried) (z : ℕ) →
        Does modes_of start e (system_of modes_of d old h on l m way q t v z) → Inv modes_of d old l m way q t v z → (got : List Message) →
        Tells modes_of d meets l got → Tallies e (system_of modes_of d old h on l m way q t v z) got
    unfolding step received_by
    event_tallies h on (calls c out) l m way q t v z does i got tells = call_tallies _ got i.formed tells out c does
    event_tallies h on lose_request l m way q t v z does i got tells = aside h on l m way q t v z i got tells lose_request does refl refl refl refl
    event_tallies h on (reach out) l m way q t v z does i got tells =
        aside h on l m way q t v z i got tells (reach out) does (reaches_aside _ out way (fate_of modes_of d on v)).0 refl refl refl
    event_tallies h on (answer policy out) l m way q t v z does i got tells =
        aside h on l m way q t v z i got tells (answer policy out) does (answers_aside _ modes_of policy out t).0 refl refl refl
    event_tallies h on lose_answer l m way q t v z does i got tells =
        aside h on l m way q t v z i got tells lose_answer does (loses_aside _ (fate_of modes_of d on v)).0 refl refl refl
    event_tallies h on sent l m way q t v z does i got tells =
        aside h on l m way q t v z i got tells sent does (sent_aside _ t (fate_of modes_of d on v)).0 refl refl refl
    event_tallies h on failed l m way q t v z does i got tells = aside h on l m way q t v z i got tells failed does (failed_aside _ t).0 refl refl refl
    event_tallies h on arrive l m way q t nothing z does i got tells = aside h on l m way q t nothing z i got tells arrive does refl refl refl refl
    event_tallies h on arrive l m way q t (arrived b) z does i got tells = aside h on l m way q t (arrived b) z i got tells arrive does refl refl refl refl
    event_tallies h on arrive l m way q t (under_way a) z does i got tells =
        arrive_tallies _ got (message_bytes on (message_of modes_of d a)) on (message_of modes_of d a) (answer_read modes_of d meets on a i.fate_fits.1) refl refl does refl
        (λ e c. lost_timely l _ t (listed d) q z e c)
        (comes modes_of d meets l m q t z (under_way a) i.formed i.candidate_is got on a i.fate_fits.1 (gives_gave modes_of d meets a q i.fate_fits.0)
        (timely modes_of d meets old on l m way q t z a i) tells)
    event_tallies h on arrive l m way q t (sure a) z does i got tells =
        arrive_tallies _ got (message_bytes on (message_of modes_of d a)) on (message_of modes_of d a) (answer_read modes_of d meets on a i.fate_fits.1) refl refl does refl
        (λ e c. ap (λ (b : Bool). cond b 0 z) (opens_none l _ c))
        (comes modes_of d meets l m q t z (sure a) i.formed i.candidate_is got on a i.fate_fits.1 i.fate_fits.0
        (confirmed_first (listed d) t q z a) tells)

    pub tallies : (e : Event) (s : System) → Reached modes_of d old s → (got : List Message) → Tells modes_of d meets s.laptop got → Tallies e s got
    tallies e s r got tells =
        subst (λ (x : System). Does modes_of start e x → Tallies e x got) (sym r.is)
        (λ f. event_tallies s.highest r.edition_at e s.laptop s.memory s.way r.page_at r.standing_at r.carried s.lost f r.invariant got tells)
        (does modes_of start d old refl meets e s r)

    -- and so after every run
    pub tells_after : (events : List Event) (s : System) → Reached modes_of d old s → (got : List Message) → Tells modes_of d meets s.laptop got →
        Tells modes_of d meets (run modes_of events s).laptop (received modes_of events s got)
    unfolding run received
    tells_after [] s r got tells = tells
    tells_after (e ∷ events) s r got tells =
        tells_after events (step modes_of e s) (steps modes_of d meets old e s r) (received_by e s got) (tallies e s r got tells).tells_then
