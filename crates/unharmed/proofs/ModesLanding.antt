-- The modes of an SVID arrive; with the last of them the catalogue is published.
use mathlib.Core.Logic.{inl}
use mathlib.Core.Path.{◌≡◌, refl, ap, ap₂, sym, ◌∙◌, subst}
use mathlib.Core.Bool.{Bool, true, false, false≢true}
use mathlib.Core.List.{List}
use Prim.Native.Nat.{ℕ, ◌+◌, ◌*◌, ◌/◌, ◌<◌, ◌≤◌}
use native.Mathlib.Omega.{arith}
use lib.Dec.{ltb, eqb}
use lib.ListN.{length, get_or, take, set, length-take}
use lib.Seq.{sets, length-sets, get_or-take}
use borrow.Author.Tests.{eqb-true, eqb-false, eq-eqb, ne_eqb, ltb-true, ltb-false}
use Rattle.messages.specs.Requests.{modes_command}
use Rattle.messages.specs.Writing.{well_shaped}
use Rattle.messages.proofs.Rule.{shape_count}
use Rattle.messages.specs.declared.edition.Edition.{Edition}
use Rattle.dock.specs.Data.{listed}
use Rattle.dock.specs.declared.Dock.{Dock}
use Rattle.dock.specs.declared.Standing.{Standing}
use Rattle.catalogue.specs.Bytes.{holding as holds}
use Rattle.laptop.specs.Calls.{accepted_with}
use Rattle.laptop.specs.Catalogue.{Entry, modes_at, entries_from}
use Rattle.hearing.specs.Answers.{storing, copied}
use Rattle.hearing.specs.Hearing.{Result, with_storing, hear_answer}
use Rattle.owner.specs.Owner.{discover}
use Rattle.laptop.specs.State.{Memory, memory, stored_to, published}
use Rattle.laptop.specs.declared.Candidate.{Candidate}
use Rattle.laptop.specs.declared.Candidate.TheVariants.{Done}
use Rattle.laptop.specs.declared.Laptop.{Laptop}
use Rattle.laptop.specs.declared.Told.TheVariants.{Nothing as ToldNothing}
use Rattle.std.specs.Prelude.{Some}
use Rattle.laptop_laws.specs.Holding.{holding}
use Rattle.laptop_laws.specs.WellFormed.{Listed, CandidateFits, awaits_identity, WellFormed}
use Rattle.laptop_laws.proofs.Behind.{below}
use Rattle.laptop_laws.proofs.Copies.{catalogue_copied}
use Rattle.link.specs.Demand.{Meets, whole, held_in}
use Rattle.unharmed.proofs.LastAnswer.{is_last_head}
use Rattle.unharmed.proofs.Arrival.{Arrival}
use Rattle.unharmed.proofs.Course.{modes_ack, Carried}
use Rattle.unharmed.proofs.Storing.{stored_here, stored_before, entries_are}
use Rattle.unharmed.proofs.Hears.{modes_more, modes_last}
use Rattle.unharmed.proofs.Invariant.{message_of, Gave, Shaped, Complete, CandidateIs}
use Rattle.unharmed.proofs.Awaited.{or_no, with_modes, awaits}
use Rattle.unharmed.proofs.Landing.{unsure_no, opens_no, goes_on, LandsOf}

module _ (modes_of : ℕ → List ℕ) (d : Dock) (meets : Meets modes_of d) (l : Laptop) (m : Memory) (q : ℕ) (t : Standing) (z : ℕ) (v : Carried)
    (formed : WellFormed l m) (candidate : CandidateIs modes_of d l.candidate l.gathered l.stored l.pages m t q v z) where
  -- Modes
  module _ (svid : ℕ) (shaped : Shaped modes_of d (modes_ack svid)) (gave : Gave modes_of d (modes_ack svid) q)
      (arrival : Arrival (listed d) t q z (modes_ack svid) v) (waits : l.wait ≡ Some (discover svid modes_command)) where
    pub modes_with : (l.candidate ≡ Done) × (svid ≡ get_or m.svids l.stored 0)
    modes_with = with_modes l.candidate l.pages l.stored m.svids svid (awaits l m formed (discover svid modes_command) waits)

    pub complete : Complete modes_of d l.gathered l.stored l.pages m v z
    complete = subst (λ (c : Candidate). CandidateIs modes_of d c l.gathered l.stored l.pages m t q v z) modes_with.0 candidate

    pub done_fits : Listed l.gathered l.stored m.svids m.modes × (l.stored < l.gathered.count)
    done_fits = subst (λ (c : Candidate). CandidateFits c l.gathered l.pages l.stored m.svids m.modes) modes_with.0 formed.candidate_fits

    abbrev words : List ℕ
    words = modes_of svid

    few_words : length words ≤ 6
    unfolding well_shaped
    few_words = omega (arith, (shape_count (message_of modes_of d (modes_ack svid)).head (length words + 1) shaped).1)

    pub places_left : l.stored < 72
    places_left = omega (arith, done_fits.1, done_fits.0.count_fits)

    abbrev modes_now : List ℕ
    modes_now = set m.modes l.stored (length words)

    abbrev run_now : List ℕ
    run_now = sets m.run (l.stored * 6) words

    pub named : svid ≡ get_or (listed d) l.stored 0
    named =
        modes_with.1 ∙ sym (get_or-take l.gathered.count m.svids l.stored 0 done_fits.1) ∙
        ap (λ (list : List ℕ). get_or list l.stored 0) complete.same_list

    -- the modes of one SVID more
    modes_now_lem : (i : ℕ) → i < l.stored + 1 → modes_at modes_now run_now i ≡ modes_of (get_or (listed d) i 0)
    modes_now_lem i h = go (eqb i l.stored) refl
      where
        room : l.stored * 6 + 6 ≤ length m.run
        room = omega (arith, places_left, formed.lent.run_size)

        place : l.stored < length m.modes
        place = omega (arith, places_left, formed.lent.modes_size)

        go : (b : Bool) → eqb i l.stored ≡ b → modes_at modes_now run_now i ≡ modes_of (get_or (listed d) i 0)
        go true e =
            let same : i ≡ l.stored = eqb-true i l.stored e in
            ap (modes_at modes_now run_now) same ∙ stored_here m.modes m.run words l.stored few_words room place ∙
            ap modes_of (named ∙ ap (λ (n : ℕ). get_or (listed d) n 0) (sym same))
        go false e =
            let other = eqb-false i l.stored e in
            let less : i < l.stored = below i l.stored h other in
            stored_before m.modes m.run words l.stored few_words room place i less ∙ complete.same_modes i less

    pub modes_head : is_last_head l (message_of modes_of d (modes_ack svid)).head ≡ eqb (l.stored + 1) l.gathered.count
    unfolding is_last_head
    modes_head = rw (waits, eq-eqb svid svid refl) (or_no (eqb (l.stored + 1) l.gathered.count))

    not_identity_3 : awaits_identity l.wait ≡ false
    not_identity_3 = ap awaits_identity waits

    abbrev stored : Result
    stored = with_storing m (storing (accepted_with ToldNothing (stored_to (l.stored + 1) l)) modes_now run_now)

    abbrev ModesLand : Result → Type 0
    ModesLand r = LandsOf modes_of d meets l m q t z v formed candidate (modes_ack svid) shaped gave arrival r

    stored_lands : l.stored + 1 < l.gathered.count → ModesLand stored
    stored_lands less =
        let last : is_last_head l (message_of modes_of d (modes_ack svid)).head ≡ false =
        modes_head ∙ ne_eqb (l.stored + 1) l.gathered.count (λ e. omega arith) in
        record {
          candidate_lands =
              goes_on modes_of d meets l m q t z (modes_ack svid) v formed shaped gave candidate arrival stored false
              (unsure_no modes_of d meets l m q t z (modes_ack svid) v formed shaped gave candidate arrival stored refl)
              (opens_no modes_of d meets l m q t z (modes_ack svid) v formed shaped gave candidate arrival stored (inl not_identity_3))
              (subst
              (λ (c : Candidate). CandidateIs modes_of d c l.gathered (l.stored + 1) l.pages stored.after t q (arrival.fate_then false) (arrival.lost_then false))
              (sym modes_with.0)
              (record {
                same_identity = complete.same_identity;
                same_list = complete.same_list;
                same_modes = modes_now_lem;
                sum = complete.sum ∙ ap (λ (k : ℕ). length (listed d) / 12 + 1 + k) (sym arrival.lost_no);
                settled = arrival.settled_no;
              }));
          new_lands = λ x. absurd (false≢true (sym last ∙ x));
          old_lands = λ x. refl;
          wait_lands = inl refl;
          silent = refl;
          refusal_lands = inl refl;
          end_lands = λ x y. absurd (false≢true (sym x ∙ y));
        }

    abbrev publishes : Result
    publishes =
        record {
          step = accepted_with ToldNothing (published (stored_to (l.stored + 1) l));
          after =
              memory m.svids modes_now m.identity run_now m.svids modes_now m.identity
              (copied (take l.gathered.count modes_now) run_now 0 m.held_run) m.entered;
        }

    whole_held : l.stored + 1 ≡ l.gathered.count → held_in (holding publishes.step.laptop publishes.after) ≡ holds (whole modes_of d)
    whole_held e =
        let room : 432 ≤ length run_now = omega (arith, length-sets m.run (l.stored * 6) words, formed.lent.run_size) in
        ap holds
        (catalogue_copied l.gathered m.identity m.svids modes_now run_now m.held_run done_fits.0.count_fits room formed.lent.held_run_size ∙
        ap₂ (λ (i : List ℕ) (x : List Entry). record { identity = i; entries = x }) complete.same_identity
        (ap (λ (list : List ℕ). entries_from 0 list modes_now run_now) complete.same_list ∙
        entries_are modes_of modes_now run_now 0 (listed d)
        (λ j h.
        ap (modes_at modes_now run_now) (none_more j) ∙
        modes_now_lem j (omega (arith, ap length complete.same_list, length-take l.gathered.count m.svids)))))
      where
        none_more : (j : ℕ) → 0 + j ≡ j
        none_more j = omega arith

    publish_lands : l.stored + 1 ≡ l.gathered.count → ModesLand publishes
    publish_lands e =
        let last : is_last_head l (message_of modes_of d (modes_ack svid)).head ≡ true = modes_head ∙ eq-eqb (l.stored + 1) l.gathered.count e in
        record {
          candidate_lands = tt;
          new_lands = λ x. whole_held e;
          old_lands = λ x. absurd (false≢true (sym x ∙ last));
          wait_lands = inl refl;
          silent = refl;
          refusal_lands = inl refl;
          end_lands = λ x y. inl last;
        }

    pub modes_landed : (at : Edition) → ModesLand (hear_answer l m at (message_of modes_of d (modes_ack svid)))
    modes_landed at = go (ltb (l.stored + 1) l.gathered.count) refl
      where
        go : (b : Bool) → ltb (l.stored + 1) l.gathered.count ≡ b → ModesLand (hear_answer l m at (message_of modes_of d (modes_ack svid)))
        go true b =
            let less = ltb-true (l.stored + 1) l.gathered.count b in
            subst ModesLand (sym (modes_more l m at svid words places_left less)) (stored_lands less)
        go false b =
            let least = ltb-false (l.stored + 1) l.gathered.count b in
            subst ModesLand (sym (modes_last l m at svid words places_left modes_with.0 least)) (publish_lands (omega (arith, done_fits.1)))
