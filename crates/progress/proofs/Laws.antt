-- The replacement, of the definitions that the promises of both ends cite.
use mathlib.Core.Path.{◌≡◌, refl, ap, sym, ◌∙◌, subst}
use mathlib.Core.Bool.{Bool, true, false, false≢true}
use mathlib.Core.List.{List, []}
use Prim.Native.Nat.{ℕ, ◌<◌}
use native.Mathlib.Omega.{arith}
use lib.ListN.{length}
use Rattle.messages.specs.Layout.{Message}
use Rattle.dock.specs.Data.{listed}
use Rattle.dock.specs.declared.Dock.{Dock}
use Rattle.laptop.specs.declared.Candidate.{Candidate}
use Rattle.link.specs.Demand.{Meets, Begins, held_words, Lowers, Replaces, Counts, Completes, Raises, EndsBy}
use Rattle.link.specs.Joined.{System, Event}
use Rattle.link.specs.Link.{step, run}
use Rattle.link.specs.Needed.{list_answers, missing, needed, pages_in, is_listing, received_by, received, brings_new, in_all_of}
use Rattle.unharmed.proofs.Invariant.{CandidateIs, Complete, Reached}
use Rattle.unharmed.proofs.Laws.{no_candidate, begun, there}
use Rattle.progress.proofs.InOrder.{still_needed, some_in_all, needed_in_all}
use Rattle.progress.proofs.Events.{Tallies, tallies, tells_after}
use Rattle.progress.proofs.Receiving.{list_open, list_done}
use Rattle.progress.proofs.Tells.{Tells, none_came, all_came, pages_come, modes_come, open_left, none_left, modes_left_list, finished_pages}

module _ (modes_of : ℕ → List ℕ) (start : System) (meets : Meets modes_of start.dock) where
  abbrev d : Dock
  d = start.dock

  -- in all, a gathering needs so many answers
  pub in_all : needed modes_of d [] ≡ in_all_of (length (listed d))
  in_all = needed_in_all modes_of d meets

  -- the pages counted, where the laptop stands as what has come tells
  counted : (s : System) (got : List Message) → Reached modes_of d (held_words start) s → Tells modes_of d meets s.laptop got → Counts modes_of d s got
  counted s got r (none_came e a) none some =
      absurd (false≢true (sym none ∙ list_open (listed d) got (subst (λ (g : List Message). 0 < missing (list_answers (listed d)) g) (sym e) (none_left modes_of d meets))))
  counted s got r (all_came n z a w k) none some = absurd (omega arith)
  counted s got r (pages_come p a count most pages come) none some =
      absurd (false≢true (sym none ∙ list_open (listed d) got (open_left modes_of d meets p got most come)))
  counted s got r (modes_come a many h pages come) none some =
      let c : Complete modes_of d s.laptop.gathered s.laptop.stored s.laptop.pages s.memory r.carried s.lost =
      subst (λ (x : Candidate). CandidateIs modes_of d x s.laptop.gathered s.laptop.stored s.laptop.pages s.memory r.standing_at r.page_at r.carried s.lost)
      a r.invariant.candidate_is in
      (c.same_list, pages, sym pages ∙ c.sum)

  module _ (begins : Begins start) (events : List Event) where
    abbrev after : System
    after = run modes_of events start

    abbrev got : List Message
    got = received modes_of events start []

    pub tells : Tells modes_of d meets after.laptop got
    tells =
        tells_after modes_of start meets (held_words start) events start (begun modes_of start meets begins) []
        (none_came refl (no_candidate modes_of start meets begins))

    tally : (e : Event) → Tallies modes_of start meets e after got
    tally e = tallies modes_of start meets (held_words start) e after (there modes_of start meets begins events) got tells

    -- a new answer lowers the number by exactly 1, and nothing else lowers it
    pub lowered_by_one : (e : Event) → Lowers modes_of d e after got
    lowered_by_one e = (tally e).lowers

    -- what raises it again
    pub raised_by : (e : Event) → Raises modes_of d e after got
    raised_by e = (tally e).raises

    -- what is held is replaced exactly when it comes to 0
    pub replaced_at_zero : (e : Event) → Replaces modes_of d e after got
    replaced_at_zero e = (tally e).replaces

    -- the pages add up
    pub pages_counted : Counts modes_of d after got
    pages_counted = counted after got (there modes_of start meets begins events) tells

    -- and do so when the last answer needed has come
    pub completed : (e : Event) → Completes modes_of d e after got
    completed e some none many =
        let last : needed modes_of d got ≡ 1 = one_left (brings_new e after got) refl in
        let before : is_listing (listed d) got ≡ false = listed_whole tells last in
        let sum = pages_counted before some in
        let pages : (step modes_of e after).laptop.pages ≡ pages_in (received_by e after got) =
        finished_pages modes_of d meets (step modes_of e after).laptop (received_by e after got) none (tally e).tells_then in
        (pages, omega (arith, pages, (tally e).pages_kept some none, (tally e).lost_kept some none, sum.1, sum.2))
      where
        one_left : (b : Bool) → brings_new e after got ≡ b → needed modes_of d got ≡ 1
        one_left true b = omega (arith, (tally e).lowers.0 b)
        one_left false b = absurd (omega (arith, (tally e).lowers.1 b))

        listed_whole : Tells modes_of d meets after.laptop got → needed modes_of d got ≡ 1 → is_listing (listed d) got ≡ false
        listed_whole (none_came g a) one = absurd (omega (arith, ap (needed modes_of d) g, in_all, some_in_all modes_of d meets (length (listed d)) many))
        listed_whole (all_came n z a w k) one = list_done (listed d) got z
        listed_whole (pages_come p a count most pages come) one =
            absurd (omega (arith, still_needed modes_of d meets p 0 got come many))
        listed_whole (modes_come a m h k come) one = list_done (listed d) got (modes_left_list modes_of d meets after.laptop.stored got m come)

    -- a candidate is given up only where it has come to 0, or by the ends of 01
    pub ends_only_by : (e : Event) → EndsBy modes_of d e after got
    ends_only_by e = (tally e).ends_by
