-- An answer to Identity, a NAK to SVIDs, an answer to Enter or Exit, or a BUSY arrives.
use mathlib.Core.Logic.{inl, inr}
use mathlib.Core.Path.{◌≡◌, refl, ap, ap₂, sym, ◌∙◌, subst}
use mathlib.Core.Bool.{true, false, cond, false≢true}
use mathlib.Core.List.{List, []}
use Prim.Native.Nat.{ℕ, ◌+◌, ◌*◌, ◌<◌, ◌≤◌}
use native.Mathlib.Omega.{arith}
use lib.Dec.{eqb}
use lib.ListN.{length, get_or, take, replicate}
use lib.Seq.{length-take-le, take-nil}
use borrow.Author.Tests.{ne_eqb}
use Rattle.laws.specs.Padded.{padded}
use Rattle.laws.proofs.Padded.{take_padded}
use Rattle.messages.specs.Editions.{ours, lower}
use Rattle.messages.specs.Layout.{busy}
use Rattle.messages.specs.Requests.{svids_command}
use Rattle.messages.specs.Table.{pd_sid}
use Rattle.messages.specs.Writing.{well_shaped}
use Rattle.messages.specs.declared.request.Request.{Request}
use Rattle.messages.proofs.Rule.{shape_count}
use Rattle.messages.specs.declared.edition.Edition.{Edition}
use Rattle.dock.specs.Data.{listed}
use Rattle.dock.specs.Dock.{reply}
use Rattle.dock.specs.declared.Dock.{Dock}
use Rattle.dock.specs.declared.Standing.{Standing}
use Rattle.catalogue.specs.Bytes.{holding as holds}
use Rattle.laptop.specs.Calls.{accepted_with}
use Rattle.laptop.specs.Catalogue.{Entry, entries_from, held_list}
use Rattle.hearing.specs.Answers.{declined_as, copied}
use Rattle.hearing.specs.Hearing.{Result, only, fits, hear_answer}
use Rattle.laptop.specs.Marks.{marks_after}
use Rattle.owner.specs.Owner.{discover}
use Rattle.laptop.specs.State.{is_open, Memory, memory, gathered_list, ended, dropped, opened, gathered_to, published, identity_request}
use Rattle.laptop.specs.declared.Candidate.{Candidate}
use Rattle.laptop.specs.declared.Candidate.TheVariants.{Absent, Open, Done}
use Rattle.laptop.specs.declared.Laptop.{Laptop}
use Rattle.laptop.specs.declared.Told.{Told}
use Rattle.laptop.specs.declared.Told.TheVariants.{Nothing as ToldNothing}
use Rattle.std.specs.Prelude.{Some}
use Rattle.laptop_laws.specs.Holding.{holding}
use Rattle.laptop_laws.specs.WellFormed.{Listed, CandidateFits, WaitFits, WellFormed}
use Rattle.link.specs.Demand.{Meets, entries_of, whole, held_in}
use Rattle.unharmed.proofs.LastAnswer.{is_last_head}
use Rattle.link.specs.Link.{is_unsure, opens}
use Rattle.unharmed.proofs.Arrival.{Arrival}
use Rattle.unharmed.proofs.Course.{identity_ack, mode_ack, list_nak, busy_to, Carried, At, in_step, lost_one, Course, even, undecided, early}
use Rattle.unharmed.proofs.Hears.{identity_busy, svids_busy, svids_nak, modes_busy, mode_busy, mode_marked}
use Rattle.unharmed.proofs.Invariant.{message_of, Gave, Shaped, CandidateIs}
use Rattle.unharmed.proofs.Awaited.{and_no, with_identity, with_svids, with_mode, awaits}
use Rattle.unharmed.proofs.Landing.{unsure_no, ended_lands, dropped_lands, LandsOf}

module _ (modes_of : ℕ → List ℕ) (d : Dock) (meets : Meets modes_of d) (l : Laptop) (m : Memory) (q : ℕ) (t : Standing) (z : ℕ) (v : Carried)
    (formed : WellFormed l m) (candidate : CandidateIs modes_of d l.candidate l.gathered l.stored l.pages m t q v z) where
  -- Identity ACK opens an empty list
  module _ (shaped : Shaped modes_of d identity_ack) (gave : Gave modes_of d identity_ack q) (arrival : Arrival (listed d) t q z identity_ack v)
      (waits : l.wait ≡ Some identity_request) where
    abbrev objects : List ℕ
    objects = take d.extent d.identity

    pub identity_last : is_last_head l (message_of modes_of d identity_ack).head ≡ false
    unfolding is_last_head
    identity_last = and_no (fits l.wait (message_of modes_of d identity_ack).head)

    identity_opens : (r : Result) → is_open r.step.laptop.candidate ≡ true → opens l r.step.laptop ≡ true
    unfolding opens
    identity_opens r e = rw (waits, e)

    few_objects : length objects ≤ 6
    unfolding well_shaped
    few_objects = omega (arith, (shape_count (message_of modes_of d identity_ack).head (length objects + 1) shaped).1)

    abbrev opened_result : Edition → Result
    opened_result at =
        record {
          step = accepted_with ToldNothing (opened (length objects) (lower at ours) l);
          after =
              memory (replicate 72 0) m.modes (padded objects) m.run m.held_svids m.held_modes m.held_identity m.held_run m.entered;
        }

    pub identity_lands : (at : Edition) → LandsOf modes_of d meets l m q t z v formed candidate identity_ack shaped gave arrival (opened_result at)
    identity_lands at =
        let absent = with_identity l.candidate l.pages l.stored m.svids (awaits l m formed identity_request waits) in
        let first : [] ≡ take (q * 12) (listed d) = ap (λ (n : ℕ). take (n * 12) (listed d)) (sym gave) in
        record {
          candidate_lands =
              rw (identity_opens (opened_result at) refl, unsure_no modes_of d meets l m q t z identity_ack v formed shaped gave candidate arrival (opened_result at) refl)
              (take_padded objects few_objects, even (in_step first (omega (arith, gave)) (omega (arith, absent.1, gave))) (arrival.quiet_no refl));
          new_lands = λ x. absurd (false≢true (sym identity_last ∙ x));
          old_lands = λ x. refl;
          wait_lands = inl refl;
          silent = refl;
          refusal_lands = inl refl;
          end_lands = λ x y. absurd (false≢true y);
        }

  -- NAK to SVIDs of an empty list: an empty catalogue is published
  module _ (shaped : Shaped modes_of d list_nak) (gave : Gave modes_of d list_nak q) (arrival : Arrival (listed d) t q z list_nak v)
      (waits : l.wait ≡ Some (discover pd_sid svids_command)) where
    pub nak_last : is_last_head l (message_of modes_of d list_nak).head ≡ true
    unfolding is_last_head
    nak_last = rw waits

    pub nak_open : l.candidate ≡ Open
    nak_open = with_svids l.candidate l.pages l.stored m.svids (awaits l m formed (discover pd_sid svids_command) waits)

    nak_is : (take l.gathered.extent m.identity ≡ take d.extent d.identity) × Course (listed d) (gathered_list l m.svids) l.pages t q v z
    nak_is = subst (λ (c : Candidate). CandidateIs modes_of d c l.gathered l.stored l.pages m t q v z) nak_open candidate

    nak_fits : Listed l.gathered 0 m.svids m.modes × (l.pages < 200) × (l.stored ≡ 0)
    nak_fits = subst (λ (c : Candidate). CandidateFits c l.gathered l.pages l.stored m.svids m.modes) nak_open formed.candidate_fits

    nothing_listed : (n : ℕ) → gathered_list l m.svids ≡ take n (listed d) → l.gathered.count ≡ 0
    nothing_listed n e =
        let none : length (gathered_list l m.svids) ≡ 0 = ap length (e ∙ ap (take n) gave ∙ take-nil n) in
        omega (arith, length-take-le l.gathered.count m.svids (omega (arith, formed.lent.svids_size, nak_fits.0.count_fits)))

    nothing_at : {p : ℕ} → At (listed d) (gathered_list l m.svids) l.pages p z → l.gathered.count ≡ 0
    nothing_at {p = p} (in_step e h k) = nothing_listed (p * 12) e
    nothing_at {p = p} (lost_one e h k) = nothing_listed (p * 12 + 12) e

    nothing_gathered : Course (listed d) (gathered_list l m.svids) l.pages t q v z → l.gathered.count ≡ 0
    nothing_gathered (even x y) = nothing_at x
    nothing_gathered (undecided e h k s f) = nothing_listed (q * 12 + 12) e
    nothing_gathered (early p x e s) = nothing_at x

    abbrev emptied : Result
    emptied =
        record {
          step = accepted_with ToldNothing (published (gathered_to Done 0 l));
          after =
              memory m.svids m.modes m.identity m.run m.svids m.modes m.identity
              (copied (take 0 m.modes) m.run 0 m.held_run) m.entered;
        }

    empty_whole : held_in (holding emptied.step.laptop emptied.after) ≡ holds (whole modes_of d)
    unfolding entries_from
    empty_whole =
        ap holds (ap₂ (λ (i : List ℕ) (e : List Entry). record { identity = i; entries = e }) nak_is.0 (ap (entries_of modes_of) (sym gave)))

    nak_lands : LandsOf modes_of d meets l m q t z v formed candidate list_nak shaped gave arrival emptied
    nak_lands =
        record {
          candidate_lands = tt;
          new_lands = λ x. empty_whole;
          old_lands = λ x. absurd (false≢true (sym x ∙ nak_last));
          wait_lands = inl refl;
          silent = refl;
          refusal_lands = inl refl;
          end_lands = λ x y. inl nak_last;
        }

    pub nak_landed : (at : Edition) → LandsOf modes_of d meets l m q t z v formed candidate list_nak shaped gave arrival (hear_answer l m at (message_of modes_of d list_nak))
    nak_landed at = subst (LandsOf modes_of d meets l m q t z v formed candidate list_nak shaped gave arrival) (sym (svids_nak l m at nak_open (nothing_gathered nak_is.1))) nak_lands

  -- Enter and Exit: a mark changes
  module _ (r : Request) (shaped : Shaped modes_of d (mode_ack r)) (gave : Gave modes_of d (mode_ack r) q) (arrival : Arrival (listed d) t q z (mode_ack r) v)
      (waits : l.wait ≡ Some r) where
    pub mode_last : is_last_head l (message_of modes_of d (mode_ack r)).head ≡ false
    unfolding is_last_head
    mode_last =
        let two : eqb r.command 2 ≡ false = ne_eqb r.command 2 (λ e. omega (arith, gave)) in
        let three : eqb r.command 3 ≡ false = ne_eqb r.command 3 (λ e. omega (arith, gave)) in
        rw (two, three) (and_no (fits l.wait (message_of modes_of d (mode_ack r)).head))

    pub mode_absent : l.candidate ≡ Absent
    mode_absent = with_mode l.candidate l.pages l.stored m.svids r gave (awaits l m formed r waits)

    abbrev marked : Result
    marked =
        record {
          step = accepted_with ToldNothing (ended l);
          after =
              memory m.svids m.modes m.identity m.run m.held_svids m.held_modes m.held_identity m.held_run
              (marks_after (held_list l.held m.held_svids) m.entered r.svid r.command r.position);
        }

    marked_lands : LandsOf modes_of d meets l m q t z v formed candidate (mode_ack r) shaped gave arrival marked
    marked_lands =
        record {
          candidate_lands =
              subst
              (λ (c : Candidate). CandidateIs modes_of d c l.gathered l.stored l.pages marked.after t q (arrival.fate_then (is_unsure l (ended l) (listed d) q)) (cond (opens l (ended l)) 0 (arrival.lost_then (is_unsure l (ended l) (listed d) q))))
              (sym mode_absent) tt;
          new_lands = λ x. absurd (false≢true (sym mode_last ∙ x));
          old_lands = λ x. refl;
          wait_lands = inl refl;
          silent = refl;
          refusal_lands = inl refl;
          end_lands = λ x y. absurd (false≢true (sym x ∙ y));
        }

    pub mode_landed : (at : Edition) → LandsOf modes_of d meets l m q t z v formed candidate (mode_ack r) shaped gave arrival (hear_answer l m at (message_of modes_of d (mode_ack r)))
    mode_landed at = subst (LandsOf modes_of d meets l m q t z v formed candidate (mode_ack r) shaped gave arrival) (sym (mode_marked l m at r gave)) marked_lands

  -- BUSY
  module _ (r : Request) (shaped : Shaped modes_of d (busy_to r)) (gave : Gave modes_of d (busy_to r) q) (arrival : Arrival (listed d) t q z (busy_to r) v)
      (waits : l.wait ≡ Some r) where
    pub busy_last : is_last_head l (message_of modes_of d (busy_to r)).head ≡ false
    unfolding is_last_head
    busy_last =
        rw (and_no (eqb r.command 3), and_no (eqb r.command 2)) (and_no (fits l.wait (message_of modes_of d (busy_to r)).head))

    abbrev BusyLands : Result → Type 0
    BusyLands x = LandsOf modes_of d meets l m q t z v formed candidate (busy_to r) shaped gave arrival x

    kept_lands : (told : Told) → BusyLands (only m (accepted_with told (ended l)))
    kept_lands told = ended_lands modes_of d meets l m q t z (busy_to r) v formed shaped gave candidate arrival told busy_last (λ c. refl)

    given_up_lands : l.candidate ≡ Absent → BusyLands (only m (accepted_with ToldNothing (dropped l)))
    given_up_lands c = dropped_lands modes_of d meets l m q t z (busy_to r) v formed shaped gave candidate arrival busy_last c

    pub busy_landed : (at : Edition) → BusyLands (hear_answer l m at (message_of modes_of d (busy_to r)))
    busy_landed at = go (awaits l m formed r waits)
      where
        go : WaitFits (Some r) l.candidate l.pages l.stored m.svids → BusyLands (hear_answer l m at (message_of modes_of d (busy_to r)))
        go (inl f) =
            subst BusyLands (sym (ap (λ (x : Request). hear_answer l m at (reply x busy [])) f.0 ∙ identity_busy l m at)) (given_up_lands f.1)
        go (inr (inl f)) =
            subst BusyLands (sym (ap (λ (x : Request). hear_answer l m at (reply x busy [])) f.0 ∙ svids_busy l m at f.1)) (kept_lands ToldNothing)
        go (inr (inr (inl f))) =
            let fit : Listed l.gathered l.stored m.svids m.modes × (l.stored < l.gathered.count) =
            subst (λ (c : Candidate). CandidateFits c l.gathered l.pages l.stored m.svids m.modes) f.1 formed.candidate_fits in
            subst BusyLands
            (sym (ap (λ (x : Request). hear_answer l m at (reply x busy [])) f.0 ∙ modes_busy l m at (get_or m.svids l.stored 0)))
            (kept_lands ToldNothing)
        go (inr (inr (inr f))) = subst BusyLands (sym (mode_busy l m at r f.0)) (kept_lands (declined_as 3 r))
