-- What the laptop makes of each answer of the fair dock.
use mathlib.Core.Logic.{◌⊎◌, inl, inr}
use mathlib.Core.Path.{◌≡◌, refl, ap, sym, ◌∙◌}
use mathlib.Core.Bool.{Bool, true, false, ◌&&◌}
use mathlib.Core.List.{List, []}
use Prim.Native.Nat.{ℕ, ◌+◌, ◌*◌, ◌<◌, ◌≤◌}
use native.Mathlib.Omega.{arith}
use lib.Dec.{leb, eqb}
use lib.ListN.{length, take, set, replicate}
use lib.Seq.{sets}
use borrow.Author.Tests.{ne_eqb, lt-ltb, le-ltb, le-leb, lt-leb}
use Rattle.laws.specs.Padded.{padded}
use Rattle.messages.specs.Editions.{ours, lower}
use Rattle.messages.specs.Layout.{ack, nak, busy, Message}
use Rattle.messages.specs.Reading.{accepted}
use Rattle.messages.specs.Requests.{svids_command, modes_command}
use Rattle.messages.specs.Table.{pd_sid}
use Rattle.messages.specs.declared.request.Request.{Request}
use Rattle.pages.specs.Pages.{halves}
use Rattle.taking.specs.Taking.{verdict}
use Rattle.taking.specs.declared.Verdict.TheVariants.{Repeat, More, Ends}
use Rattle.messages.specs.declared.edition.Edition.{Edition}
use Rattle.dock.specs.Dock.{reply}
use Rattle.gathering.specs.Gathering.{Gathering, gathering, hear_identity, take_page, none_gathered, hear_svids}
use Rattle.hearing.specs.Answers.{storing, store_modes, hear_modes, declined_as, hear_mode, is_done, is_whole, copied}
use Rattle.laptop.specs.Calls.{refused_by, accepted_with, short_runs}
use Rattle.laptop.specs.Catalogue.{held_list}
use Rattle.hearing.specs.Hearing.{Result, only, fits, is_late_page, hear_unawaited, with_gathering, with_storing, step_if_whole, list_if_whole, run_if_whole, published_if_whole, publishing, hear_answer, hear, heard}
use Rattle.laptop.specs.Marks.{marks_after}
use Rattle.owner.specs.Owner.{discover}
use Rattle.laptop.specs.State.{Memory, memory, gathered_list, ended, dropped, opened, with_pages, gathered_to, stored_to, published, identity_request}
use Rattle.laptop.specs.declared.Candidate.TheVariants.{Absent, Open, Done}
use Rattle.laptop.specs.declared.Laptop.{Laptop}
use Rattle.laptop.specs.declared.Told.TheVariants.{Nothing as ToldNothing}
use Rattle.gathering.proofs.Listing.{counted_more, take_repeat, take_repeat_last, take_full, take_full_last, take_ending}
use Rattle.laptop_laws.specs.WellFormed.{Lent}

pub not_short : (m : Memory) → Lent m → short_runs (length m.run) (length m.held_run) ≡ false
unfolding short_runs
not_short m lent = rw (le-ltb (length m.run) 432 lent.run_size, le-ltb (length m.held_run) 432 lent.held_run_size)

module _ (l : Laptop) (m : Memory) (lent : Lent m) (at : Edition) (x : Message) (answers : eqb x.head.kind 0 ≡ false) where
  pub hear_fit : fits l.wait x.head ≡ true → heard l m (accepted at x) ≡ hear_answer l m at x
  unfolding heard hear
  hear_fit e = rw (not_short m lent, answers, e)

  pub hear_late : fits l.wait x.head ≡ false → is_late_page l x.head ≡ true → heard l m (accepted at x) ≡ only m (refused_by 6 (dropped l))
  unfolding heard hear hear_unawaited
  hear_late e p = rw (not_short m lent, answers, e, p)

  pub hear_ignored : fits l.wait x.head ≡ false → is_late_page l x.head ≡ false → heard l m (accepted at x) ≡ only m (refused_by 6 l)
  unfolding heard hear hear_unawaited
  hear_ignored e p = rw (not_short m lent, answers, e, p)

-- a result that is not whole publishes nothing
whole_no : (x : Result) → is_whole x.step.laptop ≡ false → published_if_whole x ≡ x
unfolding step_if_whole list_if_whole run_if_whole
whole_no x e = rw e

whole_yes : (x : Result) → is_whole x.step.laptop ≡ true →
    published_if_whole x ≡
    record {
      step = record { refusal = x.step.refusal; length = x.step.length; told = x.step.told; laptop = published x.step.laptop };
      after =
          memory x.after.svids x.after.modes x.after.identity x.after.run x.after.svids x.after.modes x.after.identity
          (copied (take x.step.laptop.gathered.count x.after.modes) x.after.run 0 x.after.held_run) x.after.entered;
    }
unfolding step_if_whole list_if_whole run_if_whole
whole_yes x e = rw e

not_done : (l : Laptop) → (l.candidate ≡ Absent) ⊎ (l.candidate ≡ Open) → is_whole l ≡ false
unfolding is_whole
not_done l (inl e) = rw e
not_done l (inr e) = rw e

not_stored : (l : Laptop) → l.stored < l.gathered.count → is_whole l ≡ false
unfolding is_whole
not_stored l h = go (is_done l.candidate)
  where
    go : (t : Bool) → (t && leb l.gathered.count l.stored) ≡ false
    go true = lt-leb l.gathered.count l.stored h
    go false = refl

is_stored : (l : Laptop) → l.candidate ≡ Done → l.gathered.count ≤ l.stored → is_whole l ≡ true
unfolding is_whole
is_stored l e h = rw e (le-leb l.gathered.count l.stored h)

module _ (l : Laptop) (m : Memory) (at : Edition) where
  -- Identity
  pub identity_heard : (objects : List ℕ) →
      hear_answer l m at (reply identity_request ack objects) ≡
      record {
        step = accepted_with ToldNothing (opened (length objects) (lower at ours) l);
        after =
            memory (replicate 72 0) m.modes (padded objects) m.run m.held_svids m.held_modes m.held_identity m.held_run m.entered;
      }
  unfolding hear_answer hear_identity
  identity_heard objects = refl

  pub identity_busy : hear_answer l m at (reply identity_request busy []) ≡ only m (accepted_with ToldNothing (dropped l))
  unfolding hear_answer hear_identity
  identity_busy = refl

  -- SVIDs
  module _ (open_list : l.candidate ≡ Open) where
    pub svids_busy : hear_answer l m at (reply (discover pd_sid svids_command) busy []) ≡ only m (accepted_with ToldNothing (ended l))
    unfolding hear_answer hear_svids publishing
    svids_busy = refl

    pub svids_nak : l.gathered.count ≡ 0 →
        hear_answer l m at (reply (discover pd_sid svids_command) nak []) ≡
        record {
          step = accepted_with ToldNothing (published (gathered_to Done 0 l));
          after =
              memory m.svids m.modes m.identity m.run m.svids m.modes m.identity
              (copied (take 0 m.modes) m.run 0 m.held_run) m.entered;
        }
    unfolding hear_answer hear_svids none_gathered publishing
    svids_nak e = rw (e, open_list) (whole_yes _ (is_stored (gathered_to Done 0 l) refl (omega arith)))

    -- a page, counted
    abbrev counted_in : Laptop
    counted_in = with_pages (l.pages + 1) l

    abbrev gathered : List ℕ
    gathered = gathered_list l m.svids

    module _ (few : l.pages < 200) (objects : List ℕ) where
      page_taken : (g : Gathering) → take_page counted_in m.svids (halves objects) ≡ g → is_whole g.step.laptop ≡ false →
          hear_answer l m at (reply (discover pd_sid svids_command) ack objects) ≡ with_gathering m g
      unfolding hear_answer hear_svids publishing
      page_taken g e n =
          ap (λ (x : Laptop). published_if_whole (with_gathering m (take_page x m.svids (halves objects)))) (sym (counted_more l (omega arith))) ∙
          ap (λ (x : Gathering). published_if_whole (with_gathering m x)) e ∙ whole_no (with_gathering m g) n

      pub page_more : verdict gathered (halves objects) ≡ More → l.pages + 1 < 200 →
          hear_answer l m at (reply (discover pd_sid svids_command) ack objects) ≡
          with_gathering m (gathering (accepted_with ToldNothing (gathered_to Open (length gathered + 12) counted_in)) (sets m.svids (length gathered) (halves objects)))
      page_more e h = page_taken _ (take_full counted_in m.svids (halves objects) gathered refl (verdict gathered (halves objects)) refl e h) (not_done _ (inr refl))

      pub page_again : verdict gathered (halves objects) ≡ Repeat → l.pages + 1 < 200 →
          hear_answer l m at (reply (discover pd_sid svids_command) ack objects) ≡ with_gathering m (gathering (accepted_with ToldNothing (ended counted_in)) m.svids)
      page_again e h = page_taken _ (take_repeat counted_in m.svids (halves objects) gathered refl (verdict gathered (halves objects)) refl e h) (not_done _ (inr open_list))

      pub page_fourteen : (verdict gathered (halves objects) ≡ More) ⊎ (verdict gathered (halves objects) ≡ Repeat) → 200 ≤ l.pages + 1 →
          hear_answer l m at (reply (discover pd_sid svids_command) ack objects) ≡ with_gathering m (gathering (refused_by 14 (dropped counted_in)) m.svids)
      page_fourteen (inl e) h = page_taken _ (take_full_last counted_in m.svids (halves objects) gathered refl (verdict gathered (halves objects)) refl e h) (not_done _ (inl refl))
      page_fourteen (inr e) h = page_taken _ (take_repeat_last counted_in m.svids (halves objects) gathered refl (verdict gathered (halves objects)) refl e h) (not_done _ (inl refl))

      pub page_last : (n : ℕ) → verdict gathered (halves objects) ≡ Ends n → l.stored < length gathered + n →
          hear_answer l m at (reply (discover pd_sid svids_command) ack objects) ≡
          with_gathering m (gathering (accepted_with ToldNothing (gathered_to Done (length gathered + n) counted_in)) (sets m.svids (length gathered) (take n (halves objects))))
      page_last n e h = page_taken _ (take_ending counted_in m.svids (halves objects) gathered refl (verdict gathered (halves objects)) refl n e) (not_stored _ h)

  -- Modes
  module _ (svid : ℕ) where
    pub modes_busy : hear_answer l m at (reply (discover svid modes_command) busy []) ≡ only m (accepted_with ToldNothing (ended l))
    unfolding hear_answer hear_modes publishing
    modes_busy = refl

    abbrev stored : List ℕ → Result
    stored words =
        with_storing m
        (storing (accepted_with ToldNothing (stored_to (l.stored + 1) l)) (set m.modes l.stored (length words)) (sets m.run (l.stored * 6) words))

    modes_stored : (words : List ℕ) → l.stored < 72 → hear_answer l m at (reply (discover svid modes_command) ack words) ≡ published_if_whole (stored words)
    unfolding hear_answer hear_modes store_modes publishing
    modes_stored words h = rw (lt-ltb l.stored 72 h)

    pub modes_more : (words : List ℕ) → l.stored < 72 → l.stored + 1 < l.gathered.count →
        hear_answer l m at (reply (discover svid modes_command) ack words) ≡ stored words
    modes_more words h less = modes_stored words h ∙ whole_no (stored words) (not_stored (stored_to (l.stored + 1) l) less)

    pub modes_last : (words : List ℕ) → l.stored < 72 → l.candidate ≡ Done → l.gathered.count ≤ l.stored + 1 →
        hear_answer l m at (reply (discover svid modes_command) ack words) ≡
        record {
          step = accepted_with ToldNothing (published (stored_to (l.stored + 1) l));
          after =
              memory m.svids (set m.modes l.stored (length words)) m.identity (sets m.run (l.stored * 6) words) m.svids
              (set m.modes l.stored (length words)) m.identity
              (copied (take l.gathered.count (set m.modes l.stored (length words))) (sets m.run (l.stored * 6) words) 0 m.held_run)
              m.entered;
        }
    modes_last words h e least = modes_stored words h ∙ whole_yes (stored words) (is_stored (stored_to (l.stored + 1) l) e least)

  -- Enter and Exit
  module _ (r : Request) (late : 4 ≤ r.command) where
    not_one : eqb r.command 1 ≡ false
    not_one = ne_eqb r.command 1 (λ e. omega arith)

    not_two : eqb r.command 2 ≡ false
    not_two = ne_eqb r.command 2 (λ e. omega arith)

    not_three : eqb r.command 3 ≡ false
    not_three = ne_eqb r.command 3 (λ e. omega arith)

    pub mode_busy : hear_answer l m at (reply r busy []) ≡ only m (accepted_with (declined_as 3 r) (ended l))
    unfolding hear_answer hear_mode
    mode_busy = rw (not_one, not_two, not_three)

    pub mode_marked : hear_answer l m at (reply r ack []) ≡
        record {
          step = accepted_with ToldNothing (ended l);
          after =
              memory m.svids m.modes m.identity m.run m.held_svids m.held_modes m.held_identity m.held_run
              (marks_after (held_list l.held m.held_svids) m.entered r.svid r.command r.position);
        }
    unfolding hear_answer hear_mode
    mode_marked = rw (not_one, not_two, not_three)
