-- A page arrives while the list is open.
use mathlib.Core.Logic.{◌⊎◌, inl, inr}
use mathlib.Core.Path.{◌≡◌, refl, ap, sym, ◌∙◌, subst}
use mathlib.Core.Bool.{Bool, true, false, not, false≢true}
use mathlib.Core.List.{List, ◌++◌}
use Prim.Native.Nat.{ℕ, ◌+◌, ◌*◌, ◌/◌, ◌<◌, ◌≤◌}
use native.Mathlib.Omega.{arith}
use lib.Dec.{ltb}
use lib.ListN.{length, take, length-append, length-take}
use lib.Seq.{sets, length-take-le}
use borrow.Author.Tests.{ltb-true, ltb-false}
use Rattle.messages.specs.Requests.{svids_command}
use Rattle.messages.specs.Table.{pd_sid}
use Rattle.pages.specs.Pages.{halves, page, is_last}
use Rattle.taking.specs.Taking.{verdict}
use Rattle.taking.specs.declared.Verdict.TheVariants.{Repeat, More, Ends}
use Rattle.taking.proofs.Sizes.{more_fits, ends_fits}
use Rattle.messages.specs.declared.edition.Edition.{Edition}
use Rattle.dock.specs.Data.{listed}
use Rattle.dock.specs.declared.Dock.{Dock}
use Rattle.dock.specs.declared.Standing.{Standing}
use Rattle.laptop.specs.Calls.{refused_by, accepted_with}
use Rattle.gathering.specs.Gathering.{Gathering, gathering}
use Rattle.hearing.specs.Hearing.{Result, fits, with_gathering, hear_answer}
use Rattle.owner.specs.Owner.{is_absent, discover}
use Rattle.laptop.specs.State.{Memory, gathered_list, ended, dropped, with_pages, gathered_to}
use Rattle.laptop.specs.declared.Candidate.{Candidate}
use Rattle.laptop.specs.declared.Candidate.TheVariants.{Open, Done}
use Rattle.laptop.specs.declared.Laptop.{Laptop}
use Rattle.laptop.specs.declared.Told.TheVariants.{Nothing as ToldNothing}
use Rattle.std.specs.Prelude.{Some, None}
use Rattle.laptop_laws.specs.Holding.{holding}
use Rattle.laptop_laws.specs.WellFormed.{Listed, CandidateFits, awaits_identity, WellFormed}
use Rattle.laptop_laws.proofs.Behind.{sets_behind}
use Rattle.link.specs.Demand.{Meets}
use Rattle.unharmed.proofs.LastAnswer.{is_last_head}
use Rattle.unharmed.proofs.Arrival.{Arrival}
use Rattle.unharmed.proofs.Course.{page_ack, Carried, Course, Taken, grows, again, finishes, taken}
use Rattle.unharmed.proofs.Hears.{page_more, page_again, page_fourteen, page_last}
use Rattle.unharmed.proofs.Invariant.{message_of, Gave, Shaped, CandidateIs}
use Rattle.unharmed.proofs.Awaited.{and_no, with_svids, awaits}
use Rattle.unharmed.proofs.Landing.{unsure_page, opens_no, goes_on, LandsOf}

module _ (modes_of : ℕ → List ℕ) (d : Dock) (meets : Meets modes_of d) (l : Laptop) (m : Memory) (q : ℕ) (t : Standing) (z : ℕ) (v : Carried)
    (formed : WellFormed l m) (candidate : CandidateIs modes_of d l.candidate l.gathered l.stored l.pages m t q v z) where
  -- a page, while the list is open
  module _ (p : ℕ) (shaped : Shaped modes_of d (page_ack p)) (gave : Gave modes_of d (page_ack p) q) (arrival : Arrival (listed d) t q z (page_ack p) v)
      (waits : l.wait ≡ Some (discover pd_sid svids_command)) where
    pub page_last_no : is_last_head l (message_of modes_of d (page_ack p)).head ≡ false
    unfolding is_last_head
    page_last_no = and_no (fits l.wait (message_of modes_of d (page_ack p)).head)

    pub open_list : l.candidate ≡ Open
    open_list = with_svids l.candidate l.pages l.stored m.svids (awaits l m formed (discover pd_sid svids_command) waits)

    abbrev gathered : List ℕ
    gathered = gathered_list l m.svids

    pub open_is : (take l.gathered.extent m.identity ≡ take d.extent d.identity) × Course (listed d) gathered l.pages t q v z
    open_is = subst (λ (c : Candidate). CandidateIs modes_of d c l.gathered l.stored l.pages m t q v z) open_list candidate

    pub open_fits : Listed l.gathered 0 m.svids m.modes × (l.pages < 200) × (l.stored ≡ 0)
    open_fits = subst (λ (c : Candidate). CandidateFits c l.gathered l.pages l.stored m.svids m.modes) open_list formed.candidate_fits

    abbrev values : List ℕ
    values = halves (page (listed d) p)

    pub few : length (listed d) ≤ 72
    few = omega (arith, length-take d.count d.svids, meets.sound.count_fits)

    not_identity : awaits_identity l.wait ≡ false
    not_identity = ap awaits_identity waits

    pub page_taken : Taken (listed d) gathered l.pages p z
    page_taken = taken (listed d) meets.svids_fit meets.sound.list_sound few gave (arrival.stands_at gathered l.pages p refl open_is.1)

    abbrev PageLands : Result → Type 0
    PageLands r = LandsOf modes_of d meets l m q t z v formed candidate (page_ack p) shaped gave arrival r

    -- what all pages have in common: what is held stays
    page_lands : (g : Gathering) → holding g.step.laptop m ≡ holding l m → g.step.laptop.wait ≡ None → g.step.length ≡ 0 →
        (g.step.refusal ≡ 0) ⊎ (g.step.refusal ≡ 14) → (is_absent g.step.laptop.candidate ≡ true → g.step.refusal ≡ 14) →
        g.step.laptop.pages ≡ l.pages + 1 →
        CandidateIs modes_of d g.step.laptop.candidate g.step.laptop.gathered g.step.laptop.stored g.step.laptop.pages
        (with_gathering m g).after t q (arrival.fate_then (not (is_last (listed d) q))) (arrival.lost_then (not (is_last (listed d) q))) →
        PageLands (with_gathering m g)
    page_lands g h w n r e k c =
        record {
          candidate_lands =
              goes_on modes_of d meets l m q t z (page_ack p) v formed shaped gave candidate arrival (with_gathering m g) (not (is_last (listed d) q))
              (unsure_page modes_of d meets l m q t z (page_ack p) v formed shaped gave candidate arrival (with_gathering m g) k)
              (opens_no modes_of d meets l m q t z (page_ack p) v formed shaped gave candidate arrival (with_gathering m g) (inl not_identity)) c;
          new_lands = λ x. absurd (false≢true (sym page_last_no ∙ x));
          old_lands = λ x. h;
          wait_lands = inl w;
          silent = n;
          refusal_lands = refused r;
          end_lands = λ x y. inr (inr (e y));
        }
      where
        refused : (g.step.refusal ≡ 0) ⊎ (g.step.refusal ≡ 14) → (g.step.refusal ≡ 0) ⊎ ((g.step.refusal ≡ 6) ⊎ (g.step.refusal ≡ 14))
        refused (inl x) = inl x
        refused (inr x) = inr (inr x)

    abbrev counted_in : Laptop
    counted_in = with_pages (l.pages + 1) l

    fourteen_lands : PageLands (with_gathering m (gathering (refused_by 14 (dropped counted_in)) m.svids))
    fourteen_lands = page_lands (gathering (refused_by 14 (dropped counted_in)) m.svids) refl refl refl (inr refl) (λ x. refl) refl tt

    -- a full page that is new
    more_lands : verdict gathered values ≡ More → gathered ++ values ≡ take (p * 12 + 12) (listed d) → p * 12 + 12 ≤ length (listed d) → l.pages ≡ p + z →
        PageLands (with_gathering m (gathering (accepted_with ToldNothing (gathered_to Open (length gathered + 12) counted_in)) (sets m.svids (length gathered) values)))
    more_lands e same h k =
        let fit = more_fits gathered values e in
        let size : length gathered + length values ≡ length gathered + 12 = omega (arith, fit.0) in
        let behind : take (length gathered + 12) (sets m.svids (length gathered) values) ≡ take (p * 12 + 12) (listed d) =
        ap (λ (n : ℕ). take n (sets m.svids (length gathered) values)) (sym size) ∙
        sets_behind m.svids l.gathered.count values (omega (arith, fit.1, formed.lent.svids_size)) ∙ same in
        page_lands (gathering (accepted_with ToldNothing (gathered_to Open (length gathered + 12) counted_in)) (sets m.svids (length gathered) values)) refl refl
        refl (inl refl) (λ x. absurd (false≢true x)) refl
        (open_is.0, arrival.more gathered l.pages p refl open_is.1 _ (l.pages + 1) behind h (omega arith))

    -- the last one again
    again_lands : gathered ≡ take (p * 12 + 12) (listed d) → p * 12 + 12 ≤ length (listed d) → l.pages ≡ p + z →
        PageLands (with_gathering m (gathering (accepted_with ToldNothing (ended counted_in)) m.svids))
    again_lands same h k =
        page_lands (gathering (accepted_with ToldNothing (ended counted_in)) m.svids) refl refl refl (inl refl)
        (λ x. absurd (false≢true (sym (ap is_absent open_list) ∙ x))) refl
        (subst
        (λ (c : Candidate). CandidateIs modes_of d c l.gathered l.stored (l.pages + 1) m t q (arrival.fate_then (not (is_last (listed d) q))) (arrival.lost_then (not (is_last (listed d) q))))
        (sym open_list) (open_is.0, arrival.more gathered l.pages p refl open_is.1 gathered (l.pages + 1) same h (omega arith)))

    -- the last page
    last_lands : (n : ℕ) → verdict gathered values ≡ Ends n → gathered ++ take n values ≡ listed d → is_last (listed d) p ≡ true →
        l.pages + 1 ≡ length (listed d) / 12 + 1 + z →
        PageLands (with_gathering m (gathering (accepted_with ToldNothing (gathered_to Done (length gathered + n) counted_in)) (sets m.svids (length gathered) (take n values))))
    last_lands n e same last k =
        let fit = ends_fits gathered values n e in
        let size : length gathered + length (take n values) ≡ length gathered + n = ap (λ (x : ℕ). length gathered + x) (length-take-le n values fit.0) in
        let behind : take (length gathered + n) (sets m.svids (length gathered) (take n values)) ≡ listed d =
        ap (λ (x : ℕ). take x (sets m.svids (length gathered) (take n values))) (sym size) ∙
        sets_behind m.svids l.gathered.count (take n values) (omega (arith, size, fit.1, formed.lent.svids_size)) ∙ same in
        let then = arrival.last gathered l.pages p refl open_is.1 last in
        page_lands (gathering (accepted_with ToldNothing (gathered_to Done (length gathered + n) counted_in)) (sets m.svids (length gathered) (take n values))) refl
        refl refl (inl refl) (λ x. absurd (false≢true x)) refl
        (record {
          same_identity = open_is.0;
          same_list = behind;
          same_modes = λ i h. absurd (omega (arith, open_fits.2));
          sum = k ∙ ap (λ (x : ℕ). length (listed d) / 12 + 1 + x) (sym then.1);
          settled = then.0;
        })

    pub svids_landed : (at : Edition) → PageLands (hear_answer l m at (message_of modes_of d (page_ack p)))
    svids_landed at = go page_taken
      where
        few_pages : (verdict gathered values ≡ More) ⊎ (verdict gathered values ≡ Repeat) → (b : Bool) → ltb (l.pages + 1) 200 ≡ b →
            (l.pages + 1 < 200 → PageLands (hear_answer l m at (message_of modes_of d (page_ack p)))) → PageLands (hear_answer l m at (message_of modes_of d (page_ack p)))
        few_pages e true b f = f (ltb-true (l.pages + 1) 200 b)
        few_pages e false b f =
            subst PageLands (sym (page_fourteen l m at open_list open_fits.1 (page (listed d) p) e (ltb-false (l.pages + 1) 200 b))) fourteen_lands

        go : Taken (listed d) gathered l.pages p z → PageLands (hear_answer l m at (message_of modes_of d (page_ack p)))
        go (grows e same h k) =
            few_pages (inl e) (ltb (l.pages + 1) 200) refl
            (λ less. subst PageLands (sym (page_more l m at open_list open_fits.1 (page (listed d) p) e less)) (more_lands e same h k))
        go (again e same h k) =
            few_pages (inr e) (ltb (l.pages + 1) 200) refl
            (λ less. subst PageLands (sym (page_again l m at open_list open_fits.1 (page (listed d) p) e less)) (again_lands same h k))
        go (finishes n e same last k) =
            let all : length (gathered ++ take n values) ≡ length (listed d) = ap length same in
            let fit = ends_fits gathered values n e in
            subst PageLands
            (sym
            (page_last l m at open_list open_fits.1 (page (listed d) p) n e
            (omega (arith, open_fits.2, length-append gathered (take n values), length-take-le n values fit.0, gave))))
            (last_lands n e same last k)
