-- A page arrives while the list is open.
use mathlib.Core.Logic.{◌⊎◌, inl, inr}
use mathlib.Core.Path.{◌≡◌, refl, ap, sym, ◌∙◌, subst}
use mathlib.Core.Bool.{Bool, true, false, false≢true}
use mathlib.Core.List.{List, ◌∷◌, ◌++◌}
use Prim.Native.Nat.{ℕ, ◌+◌, ◌*◌, ◌-◌, ◌/◌, ◌<◌, ◌≤◌}
use native.Mathlib.Omega.{arith}
use lib.Dec.{ltb}
use lib.ListN.{length, take, length-append}
use lib.Seq.{length-take-le}
use borrow.Author.Tests.{lt-ltb, le-ltb, ltb-true, ltb-false}
use Rattle.messages.specs.Layout.{Message}
use Rattle.messages.specs.Requests.{svids_command}
use Rattle.messages.specs.Table.{pd_sid}
use Rattle.pages.specs.Pages.{halves, page, is_last}
use Rattle.pages.proofs.Laws.{last_exactly}
use Rattle.taking.specs.Taking.{verdict}
use Rattle.taking.specs.declared.Verdict.TheVariants.{Repeat, More, Ends}
use Rattle.taking.proofs.Sizes.{more_fits, ends_fits}
use Rattle.messages.specs.declared.edition.Edition.{Edition}
use Rattle.dock.specs.Data.{listed}
use Rattle.dock.specs.declared.Dock.{Dock}
use Rattle.dock.specs.declared.Standing.{Standing}
use Rattle.hearing.specs.Hearing.{fits, hear_answer}
use Rattle.owner.specs.Owner.{discover}
use Rattle.laptop.specs.State.{is_open, Memory, gathered_list}
use Rattle.laptop.specs.declared.Candidate.TheVariants.{Open}
use Rattle.laptop.specs.declared.Laptop.{Laptop}
use Rattle.std.specs.Prelude.{Some}
use Rattle.laptop_laws.specs.WellFormed.{WellFormed}
use Rattle.link.specs.Demand.{Meets}
use Rattle.link.specs.Needed.{page_answer, list_answers, has_come, missing, needed, pages_in, is_listing, is_too_many, is_answer}
use Rattle.unharmed.proofs.LastAnswer.{is_last_head}
use Rattle.unharmed.proofs.Arrival.{Arrival}
use Rattle.unharmed.proofs.Course.{page_ack, Carried, At, in_step, lost_one, Taken, grows, again, finishes, last_no}
use Rattle.unharmed.proofs.Hears.{page_more, page_again, page_fourteen, page_last}
use Rattle.unharmed.proofs.Invariant.{message_of, Gave, Shaped, CandidateIs}
use Rattle.unharmed.proofs.PageLanding.{page_last_no, open_list, open_is, open_fits, page_taken}
use Rattle.progress.proofs.InOrder.{Come, page_comes, page_comes_again, pages_left, still_needed}
use Rattle.progress.proofs.OnArrival.{Comes, comes_new, comes_again, comes_none}
use Rattle.progress.proofs.Receiving.{list_open, list_done, too_many, few_enough, done_enough, added, ended_by_fourteen, is_new_lem, not_new_again, not_new_fourteen, is_answer_lem}
use Rattle.progress.proofs.Tells.{Tells, none_came, all_came, pages_come, modes_come}

module _ (modes_of : ℕ → List ℕ) (d : Dock) (meets : Meets modes_of d) (l : Laptop) (m : Memory) (q : ℕ) (t : Standing) (z : ℕ) (v : Carried)
    (formed : WellFormed l m) (candidate : CandidateIs modes_of d l.candidate l.gathered l.stored l.pages m t q v z) (p : ℕ)
    (shaped : Shaped modes_of d (page_ack p)) (gave : Gave modes_of d (page_ack p) q) (arrival : Arrival (listed d) t q z (page_ack p) v)
    (waits : l.wait ≡ Some (discover pd_sid svids_command)) (got : List Message) (at : Edition) where
  abbrev answer : Message
  answer = message_of modes_of d (page_ack p)

  abbrev list : List ℕ
  list = listed d

  abbrev pages_in_all : ℕ
  pages_in_all = length list / 12 + 1

  abbrev gathered : List ℕ
  gathered = gathered_list l m.svids

  abbrev PageComes : Type 0
  PageComes = Comes modes_of d meets l answer got (hear_answer l m at answer)

  awaited : is_answer l.wait answer ≡ true
  awaited = is_answer_lem l.wait answer (ap (λ w. fits w answer.head) waits) refl refl

  open_now : l.candidate ≡ Open
  open_now = open_list modes_of d meets l m q t z v formed candidate p shaped gave arrival waits

  size : length gathered ≡ l.gathered.count
  size =
      length-take-le l.gathered.count m.svids
      (omega (arith, formed.lent.svids_size, (open_fits modes_of d meets l m q t z v formed candidate p shaped gave arrival waits).0.count_fits))

  fit : l.pages < 200
  fit = (open_fits modes_of d meets l m q t z v formed candidate p shaped gave arrival waits).1

  unstored : l.stored ≡ 0
  unstored = (open_fits modes_of d meets l m q t z v formed candidate p shaped gave arrival waits).2

  not_last : is_last_head l answer.head ≡ false
  not_last = page_last_no modes_of d meets l m q t z v formed candidate p shaped gave arrival waits

  -- where the first n pages have come, and this is one of them or the next
  module _ (n : ℕ) (count : l.gathered.count ≡ n * 12) (most : n * 12 ≤ length list) (pages : l.pages ≡ pages_in got)
      (come : Come modes_of d meets n 0 got) where
    counted_in : pages_in (answer ∷ got) ≡ l.pages + 1
    counted_in = omega (arith, pages)

    -- two hundred pages without an end
    fourteen : (verdict gathered (halves (page list p)) ≡ More) ⊎ (verdict gathered (halves (page list p)) ≡ Repeat) → 200 ≤ l.pages + 1 →
        0 < missing (list_answers list) (answer ∷ got) → PageComes
    fourteen e h left =
        let many : is_too_many list (answer ∷ got) ≡ true = too_many list (answer ∷ got) (omega (arith, counted_in)) (list_open list (answer ∷ got) left) in
        subst (Comes modes_of d meets l answer got) (sym (page_fourteen l m at open_now fit (page list p) e h))
        (comes_none modes_of d meets l answer got _ (not_new_fourteen l.wait list answer got awaited many)
        (ended_by_fourteen l.wait list answer got awaited many) not_last (inr refl) (none_came refl refl))

    -- a full page that is new
    more : p ≡ n → verdict gathered (halves (page list p)) ≡ More → p * 12 + 12 ≤ length list → PageComes
    more same e h = go (ltb (l.pages + 1) 200) refl
      where
        come_now : Come modes_of d meets (n + 1) 0 (answer ∷ got)
        come_now =
            subst (λ (k : ℕ). Come modes_of d meets (n + 1) 0 (page_answer list k ∷ got)) (sym same) (page_comes modes_of d meets n 0 got come (omega arith))

        left : needed modes_of d (answer ∷ got) ≡ pages_in_all - (n + 1) + (length list - 0)
        left = still_needed modes_of d meets (n + 1) 0 (answer ∷ got) come_now gave

        new : has_come answer got ≡ false
        new = come.pages_came p (omega arith) ∙ le-ltb p n (omega arith)

        go : (b : Bool) → ltb (l.pages + 1) 200 ≡ b → PageComes
        go true b =
            let few : is_too_many list (answer ∷ got) ≡ false = few_enough list (answer ∷ got) (omega (arith, counted_in, ltb-true (l.pages + 1) 200 b)) in
            subst (Comes modes_of d meets l answer got) (sym (page_more l m at open_now fit (page list p) e (ltb-true (l.pages + 1) 200 b)))
            (comes_new modes_of d meets l answer got _ (is_new_lem l.wait list answer got awaited new few) (added l.wait list answer got awaited few)
            (omega (arith, left, still_needed modes_of d meets n 0 got come gave)) (λ x. absurd (false≢true (sym not_last ∙ x)))
            (λ x. omega (arith, left, gave)) (λ x. absurd (false≢true (sym not_last ∙ x)))
            (pages_come (n + 1) refl (omega (arith, size, count)) (omega arith) (sym counted_in) come_now))
        go false b =
            fourteen (inl e) (ltb-false (l.pages + 1) 200 b)
            (omega (arith, pages_left modes_of d meets (n + 1) 0 (answer ∷ got) come_now gave))

    -- the last one again
    repeated : p + 1 ≡ n → verdict gathered (halves (page list p)) ≡ Repeat → PageComes
    repeated same e = go (ltb (l.pages + 1) 200) refl
      where
        come_now : Come modes_of d meets n 0 (answer ∷ got)
        come_now = page_comes_again modes_of d meets n 0 got come p (omega arith) (omega arith)

        left : needed modes_of d (answer ∷ got) ≡ pages_in_all - n + (length list - 0)
        left = still_needed modes_of d meets n 0 (answer ∷ got) come_now gave

        old : has_come answer got ≡ true
        old = come.pages_came p (omega arith) ∙ lt-ltb p n (omega arith)

        go : (b : Bool) → ltb (l.pages + 1) 200 ≡ b → PageComes
        go true b =
            let few : is_too_many list (answer ∷ got) ≡ false = few_enough list (answer ∷ got) (omega (arith, counted_in, ltb-true (l.pages + 1) 200 b)) in
            subst (Comes modes_of d meets l answer got) (sym (page_again l m at open_now fit (page list p) e (ltb-true (l.pages + 1) 200 b)))
            (comes_again modes_of d meets l answer got _ (not_new_again l.wait list answer got awaited old) (added l.wait list answer got awaited few)
            (omega (arith, left, still_needed modes_of d meets n 0 got come gave)) not_last
            (omega (arith, still_needed modes_of d meets n 0 got come gave, gave))
            (pages_come n open_now count most (sym counted_in) come_now))
        go false b =
            fourteen (inr e) (ltb-false (l.pages + 1) 200 b) (omega (arith, pages_left modes_of d meets n 0 (answer ∷ got) come_now gave))

    -- the last page
    ends : (k : ℕ) → p ≡ n → verdict gathered (halves (page list p)) ≡ Ends k → gathered ++ take k (halves (page list p)) ≡ list →
        is_last list p ≡ true → PageComes
    ends k same e whole last =
        let at_end : n + 1 ≡ pages_in_all = omega (arith, (last_exactly list p (omega arith)).0 last) in
        let come_now : Come modes_of d meets pages_in_all 0 (answer ∷ got) =
        subst (λ (i : ℕ). Come modes_of d meets i 0 (answer ∷ got)) at_end
        (subst (λ (i : ℕ). Come modes_of d meets (n + 1) 0 (page_answer list i ∷ got)) (sym same) (page_comes modes_of d meets n 0 got come (omega arith))) in
        let left = still_needed modes_of d meets pages_in_all 0 (answer ∷ got) come_now gave in
        let listed_all : is_listing list (answer ∷ got) ≡ false =
        list_done list (answer ∷ got) (omega (arith, pages_left modes_of d meets pages_in_all 0 (answer ∷ got) come_now gave)) in
        let few : is_too_many list (answer ∷ got) ≡ false = done_enough list (answer ∷ got) listed_all in
        let new : has_come answer got ≡ false = come.pages_came p (omega arith) ∙ le-ltb p n (omega arith) in
        let all : length (gathered ++ take k (halves (page list p))) ≡ length list = ap length whole in
        let fits_page = ends_fits gathered (halves (page list p)) k e in
        subst (Comes modes_of d meets l answer got)
        (sym
        (page_last l m at open_now fit (page list p) k e
        (omega (arith, unstored, length-append gathered (take k (halves (page list p))), length-take-le k (halves (page list p)) fits_page.0, gave))))
        (comes_new modes_of d meets l answer got _ (is_new_lem l.wait list answer got awaited new few) (added l.wait list answer got awaited few)
        (omega (arith, left, still_needed modes_of d meets n 0 got come gave)) (λ x. absurd (false≢true (sym not_last ∙ x)))
        (λ x. omega (arith, left, gave)) (λ x. absurd (false≢true (sym not_last ∙ x)))
        (modes_come refl gave (omega (arith, unstored, gave)) (sym counted_in)
        (subst (λ (i : ℕ). Come modes_of d meets pages_in_all i (answer ∷ got)) (sym unstored) come_now)))

    long : (k : ℕ) → gathered ≡ take k list → k ≤ length list → k ≡ n * 12
    long k e h = omega (arith, ap length e, length-take-le k list h, size, count)

    taken_so : At list gathered l.pages p z → Taken list gathered l.pages p z → PageComes
    taken_so (in_step a h c) (grows e whole f k) = more (omega (arith, long (p * 12) a h)) e f
    taken_so (in_step a h c) (again e whole f k) =
        absurd (omega (arith, long (p * 12) a h, long (p * 12 + 12) whole f))
    taken_so (in_step a h c) (finishes k e whole last c') = ends k (omega (arith, long (p * 12) a h)) e whole last
    taken_so (lost_one a h c) (grows e whole f k) =
        let both : length (gathered ++ halves (page list p)) ≡ length (take (p * 12 + 12) list) = ap length whole in
        absurd
        (omega (arith, both, long (p * 12 + 12) a h, size, count, length-append gathered (halves (page list p)), length-take-le (p * 12 + 12) list f, (more_fits gathered (halves (page list p)) e).0))
    taken_so (lost_one a h c) (again e whole f k) = repeated (omega (arith, long (p * 12 + 12) a h)) e
    taken_so (lost_one a h c) (finishes k e whole last c') = absurd (false≢true (sym (last_no list p h) ∙ last))

  pub page_arrives : Tells modes_of d meets l got → PageComes
  page_arrives (none_came e a) = absurd (false≢true (ap is_open (sym a ∙ open_now)))
  page_arrives (all_came e f a w k) = absurd (false≢true (ap is_open (sym a ∙ open_now)))
  page_arrives (pages_come n a count most pages come) =
      taken_so n count most pages come
      (arrival.stands_at gathered l.pages p refl (open_is modes_of d meets l m q t z v formed candidate p shaped gave arrival waits).1)
      (page_taken modes_of d meets l m q t z v formed candidate p shaped gave arrival waits)
  page_arrives (modes_come a s h k come) = absurd (false≢true (ap is_open (sym a ∙ open_now)))
