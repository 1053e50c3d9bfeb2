-- Each other answer of the fair dock as it arrives, and one that does not fit.
use mathlib.Core.Logic.{◌⊎◌, inl, inr}
use mathlib.Core.Path.{◌≡◌, refl, ap, sym, ◌∙◌, subst}
use mathlib.Core.Bool.{Bool, true, false, ◌&&◌, false≢true}
use mathlib.Core.List.{List, [], ◌∷◌}
use Prim.Native.Nat.{ℕ, ◌+◌, ◌*◌, ◌-◌, ◌/◌, ◌<◌, ◌≤◌}
use native.Mathlib.Omega.{arith}
use lib.Dec.{ltb, eqb}
use lib.ListN.{length, get_or, take, length-take}
use borrow.Author.Tests.{eq-eqb, ne_eqb, lt-leb, ltb-true, ltb-false}
use Rattle.laws.proofs.Lines.{and_left, and_right}
use Rattle.messages.specs.Layout.{ack, busy, Message}
use Rattle.messages.specs.Reading.{accepted}
use Rattle.messages.specs.Requests.{svids_command, modes_command, request_of}
use Rattle.messages.specs.Table.{pd_sid}
use Rattle.messages.specs.declared.Head.{Head}
use Rattle.messages.specs.declared.request.Request.{Request}
use Rattle.messages.specs.declared.edition.Edition.{Edition}
use Rattle.dock.specs.Data.{listed}
use Rattle.dock.specs.Dock.{reply}
use Rattle.dock.specs.declared.Dock.{Dock}
use Rattle.dock.specs.declared.Standing.{Standing}
use Rattle.hearing.specs.Answers.{declined_as}
use Rattle.hearing.specs.Hearing.{Result, only, fits, is_idle, is_late_page, hear_answer, heard}
use Rattle.laptop.specs.Calls.{refused_by, accepted_with, is_awaiting}
use Rattle.owner.specs.Owner.{is_absent, discover}
use Rattle.laptop.specs.State.{is_open, Memory, ended, dropped, identity_request}
use Rattle.laptop.specs.declared.Candidate.{Candidate}
use Rattle.laptop.specs.declared.Candidate.TheVariants.{Absent, Open, Done}
use Rattle.laptop.specs.declared.Laptop.{Laptop}
use Rattle.laptop.specs.declared.Told.{Told}
use Rattle.laptop.specs.declared.Told.TheVariants.{Nothing as ToldNothing}
use Rattle.std.specs.Prelude.{Option, Some, None}
use Rattle.laptop_laws.specs.WellFormed.{Listed, CandidateFits, WaitFits, awaits_identity, WellFormed}
use Rattle.link.specs.Demand.{Meets}
use Rattle.link.specs.Needed.{identity_answer, empty_answer, modes_answer, list_answers, missing, needed, is_page_answer, pages_in, is_listing, is_too_many, is_answer, is_late, in_all_of}
use Rattle.unharmed.proofs.LastAnswer.{is_last_head}
use Rattle.unharmed.proofs.Arrival.{Arrival}
use Rattle.laptop_laws.proofs.Fitting.{fits_is}
use Rattle.unharmed.proofs.Awaited.{with_identity, awaits}
use Rattle.unharmed.proofs.Course.{FairAnswer, identity_ack, page_ack, modes_ack, mode_ack, list_nak, busy_to, Carried}
use Rattle.unharmed.proofs.Hears.{hear_fit, hear_late, hear_ignored, identity_heard, identity_busy, svids_busy, svids_nak, modes_more, modes_last, modes_busy, mode_busy, mode_marked}
use Rattle.unharmed.proofs.Invariant.{message_of, Gave, Shaped, CandidateIs}
use Rattle.unharmed.proofs.Landed.{no_request}
use Rattle.unharmed.proofs.Landing.{last_unfit}
use Rattle.unharmed.proofs.ModesLanding.{modes_with, complete, done_fits, named, modes_head, places_left}
use Rattle.unharmed.proofs.OtherLanding.{identity_last, nak_last, nak_open, mode_last, busy_last}
use Rattle.progress.proofs.InOrder.{Come, identity_comes, modes_come as come_modes, still_needed, nak_needed, nak_comes, some_in_all, needed_in_all}
use Rattle.progress.proofs.OnArrival.{Comes, comes_same, comes_new, comes_none}
use Rattle.progress.proofs.PageArrives.{page_arrives}
use Rattle.progress.proofs.Receiving.{list_open, list_done, few_enough, done_enough, added, is_new_lem, dropped_late, not_late, not_new_other, is_answer_lem, no_answer_unfit, no_answer_busy, no_answer_mode, late_page, late_no, late_awaited, late_done}
use Rattle.progress.proofs.Tells.{Tells, none_came, all_came, pages_come, modes_come, tells_same, empty_or_some, open_left, open_needed, none_left, modes_left_list}

is_late_lem : (l : Laptop) (h : Head) → is_awaiting l.wait ≡ false → l.candidate ≡ Open → (eqb h.command svids_command && eqb h.kind ack) ≡ true →
    is_late_page l h ≡ true
unfolding is_late_page
is_late_lem l h idle open_now is_page = rw (rests l.wait idle, open_now, is_page)
  where
    rests : (w : Option Request) → is_awaiting w ≡ false → is_idle w ≡ true
    rests None e = refl
    rests (Some r) e = absurd (false≢true (sym e))

module _ (modes_of : ℕ → List ℕ) (d : Dock) (meets : Meets modes_of d) (l : Laptop) (m : Memory) (q : ℕ) (t : Standing) (z : ℕ) (v : Carried)
    (formed : WellFormed l m) (candidate : CandidateIs modes_of d l.candidate l.gathered l.stored l.pages m t q v z) (got : List Message)
    (at : Edition) where
  abbrev list : List ℕ
  list = listed d

  abbrev pages_in_all : ℕ
  pages_in_all = length list / 12 + 1

  abbrev ComesWith : FairAnswer → Type 0
  ComesWith a = Comes modes_of d meets l (message_of modes_of d a) got (hear_answer l m at (message_of modes_of d a))

  -- Identity
  module _ (shaped : Shaped modes_of d identity_ack) (gave : Gave modes_of d identity_ack q) (arrival : Arrival (listed d) t q z identity_ack v)
      (waits : l.wait ≡ Some identity_request) where
    identity_left : needed modes_of d (identity_answer d ∷ []) + 1 ≡ needed modes_of d []
    identity_left = go (empty_or_some modes_of d meets list)
      where
        come : Come modes_of d meets 0 0 (identity_answer d ∷ [])
        come = identity_comes modes_of d meets

        go : (list ≡ []) ⊎ (0 < length list) → needed modes_of d (identity_answer d ∷ []) + 1 ≡ needed modes_of d []
        go (inl e) =
            omega (arith, nak_needed modes_of d meets 0 0 (identity_answer d ∷ []) come e, needed_in_all modes_of d meets, ap (λ (x : List ℕ). in_all_of (length x)) e)
        go (inr some) =
            omega (arith, still_needed modes_of d meets 0 0 (identity_answer d ∷ []) come some, needed_in_all modes_of d meets, some_in_all modes_of d meets (length list) some)

    identity_first : got ≡ [] → ComesWith identity_ack
    identity_first e =
        let awaited : is_answer l.wait (identity_answer d) ≡ true = is_answer_lem l.wait (identity_answer d) (ap (λ (w : Option Request). fits w (identity_answer d).head) waits) refl refl in
        let few : is_too_many list (identity_answer d ∷ got) ≡ false =
        few_enough list (identity_answer d ∷ got) (omega (arith, ap pages_in e)) in
        let last = identity_last modes_of d meets l m q t z v formed candidate shaped gave arrival waits in
        let pages = (with_identity l.candidate l.pages l.stored m.svids (awaits l m formed identity_request waits)).1 in
        let less : needed modes_of d (identity_answer d ∷ got) + 1 ≡ needed modes_of d got =
        subst (λ (g : List Message). needed modes_of d (identity_answer d ∷ g) + 1 ≡ needed modes_of d g) (sym e) identity_left in
        let come : Come modes_of d meets 0 0 (identity_answer d ∷ got) =
        subst (λ (g : List Message). Come modes_of d meets 0 0 (identity_answer d ∷ g)) (sym e) (identity_comes modes_of d meets) in
        let more : 0 < needed modes_of d (identity_answer d ∷ got) = open_needed modes_of d meets 0 (identity_answer d ∷ got) (omega arith) come in
        subst (Comes modes_of d meets l (identity_answer d) got) (sym (identity_heard l m at (take d.extent d.identity)))
        (comes_new modes_of d meets l (identity_answer d) got _ (is_new_lem l.wait list (identity_answer d) got awaited refl few)
        (added l.wait list (identity_answer d) got awaited few) less (λ x. absurd (false≢true (sym last ∙ x))) (λ x. more)
        (λ x. absurd (false≢true (sym last ∙ x)))
        (pages_come 0 refl refl (omega arith) (omega (arith, pages, ap pages_in e)) come))

    identity_arrives : Tells modes_of d meets l got → ComesWith identity_ack
    identity_arrives (none_came e a) = identity_first e
    identity_arrives (all_came e n a w k) = absurd (false≢true (sym w ∙ ap awaits_identity waits))
    identity_arrives (pages_come p a count most pages come) =
        absurd (false≢true (sym (ap is_absent a) ∙ ap is_absent (with_identity l.candidate l.pages l.stored m.svids (awaits l m formed identity_request waits)).0))
    identity_arrives (modes_come a s h k come) =
        absurd (false≢true (sym (ap is_absent a) ∙ ap is_absent (with_identity l.candidate l.pages l.stored m.svids (awaits l m formed identity_request waits)).0))

  -- the modes of an SVID
  module _ (svid : ℕ) (shaped : Shaped modes_of d (modes_ack svid)) (gave : Gave modes_of d (modes_ack svid) q)
      (arrival : Arrival (listed d) t q z (modes_ack svid) v) (waits : l.wait ≡ Some (discover svid modes_command)) where
    abbrev words : Message
    words = message_of modes_of d (modes_ack svid)

    done_now : l.candidate ≡ Done
    done_now = (modes_with modes_of d meets l m q t z v formed candidate svid shaped gave arrival waits).0

    all_listed : length list ≡ l.gathered.count
    all_listed =
        omega (arith, ap length (complete modes_of d meets l m q t z v formed candidate svid shaped gave arrival waits).same_list, length-take l.gathered.count m.svids, formed.lent.svids_size, (done_fits modes_of d meets l m q t z v formed candidate svid shaped gave arrival waits).0.count_fits)

    head_last : is_last_head l words.head ≡ eqb (l.stored + 1) l.gathered.count
    head_last = modes_head modes_of d meets l m q t z v formed candidate svid shaped gave arrival waits

    places : l.stored < 72
    places = places_left modes_of d meets l m q t z v formed candidate svid shaped gave arrival waits

    modes_now_lem : 0 < length list → l.stored < length list → l.pages ≡ pages_in got → Come modes_of d meets pages_in_all l.stored got → ComesWith (modes_ack svid)
    modes_now_lem some h pages come =
        let which = named modes_of d meets l m q t z v formed candidate svid shaped gave arrival waits in
        let now : Come modes_of d meets pages_in_all (l.stored + 1) (words ∷ got) =
        subst (λ (s : ℕ). Come modes_of d meets pages_in_all (l.stored + 1) (modes_answer modes_of s ∷ got)) (sym which)
        (come_modes modes_of d meets pages_in_all l.stored got come h) in
        let left = still_needed modes_of d meets pages_in_all (l.stored + 1) (words ∷ got) now some in
        let before = still_needed modes_of d meets pages_in_all l.stored got come some in
        let listless : missing (list_answers list) (words ∷ got) ≡ 0 = modes_left_list modes_of d meets (l.stored + 1) (words ∷ got) some now in
        let few : is_too_many list (words ∷ got) ≡ false = done_enough list (words ∷ got) (list_done list (words ∷ got) listless) in
        let awaited : is_answer l.wait words ≡ true =
        is_answer_lem l.wait words (ap (λ (w : Option Request). fits w words.head) waits ∙ same) refl refl in
        go (ltb (l.stored + 1) l.gathered.count) refl now left before listless few awaited
      where
        same : fits (Some (discover svid modes_command)) words.head ≡ true
        same = rw (eq-eqb svid svid refl)

        go : (b : Bool) → ltb (l.stored + 1) l.gathered.count ≡ b → Come modes_of d meets pages_in_all (l.stored + 1) (words ∷ got) →
            needed modes_of d (words ∷ got) ≡ pages_in_all - pages_in_all + (length list - (l.stored + 1)) →
            needed modes_of d got ≡ pages_in_all - pages_in_all + (length list - l.stored) → missing (list_answers list) (words ∷ got) ≡ 0 →
            is_too_many list (words ∷ got) ≡ false → is_answer l.wait words ≡ true → ComesWith (modes_ack svid)
        go true b now left before listless few awaited =
            let less = ltb-true (l.stored + 1) l.gathered.count b in
            let last : is_last_head l words.head ≡ false = head_last ∙ ne_eqb (l.stored + 1) l.gathered.count (λ e. omega arith) in
            subst (Comes modes_of d meets l words got) (sym (modes_more l m at svid (modes_of svid) places less))
            (comes_new modes_of d meets l words got _ (is_new_lem l.wait list words got awaited refl few) (added l.wait list words got awaited few)
            (omega (arith, left, before)) (λ x. absurd (false≢true (sym last ∙ x))) (λ x. omega (arith, left, all_listed))
            (λ x. absurd (false≢true (sym last ∙ x)))
            (modes_come done_now some (omega (arith, all_listed)) (omega (arith, pages)) now))
        go false b now left before listless few awaited =
            let least = ltb-false (l.stored + 1) l.gathered.count b in
            let end : l.stored + 1 ≡ l.gathered.count = omega (arith, all_listed, h) in
            let last : is_last_head l words.head ≡ true = head_last ∙ eq-eqb (l.stored + 1) l.gathered.count end in
            subst (Comes modes_of d meets l words got) (sym (modes_last l m at svid (modes_of svid) places done_now least))
            (comes_new modes_of d meets l words got _ (is_new_lem l.wait list words got awaited refl few) (added l.wait list words got awaited few)
            (omega (arith, left, before)) (λ x. omega (arith, left, all_listed)) (λ x. absurd (false≢true (sym x ∙ last))) (λ x. refl)
            (all_came (omega (arith, left, all_listed)) listless refl refl (omega (arith, pages))))

    modes_arrive : Tells modes_of d meets l got → ComesWith (modes_ack svid)
    modes_arrive (none_came e a) = absurd (false≢true (ap is_absent (sym done_now ∙ a)))
    modes_arrive (all_came e n a w k) = absurd (false≢true (ap is_absent (sym done_now ∙ a)))
    modes_arrive (pages_come p a count most pages come) = absurd (false≢true (ap is_open (sym done_now ∙ a)))
    modes_arrive (modes_come a some h k come) = modes_now_lem some h k come

  -- NAK to SVIDs of an empty list
  module _ (shaped : Shaped modes_of d list_nak) (gave : Gave modes_of d list_nak q) (arrival : Arrival (listed d) t q z list_nak v)
      (waits : l.wait ≡ Some (discover pd_sid svids_command)) where
    empty_open : l.candidate ≡ Open
    empty_open = nak_open modes_of d meets l m q t z v formed candidate shaped gave arrival waits

    empty_now : (p : ℕ) → l.gathered.count ≡ p * 12 → p * 12 ≤ length list → l.pages ≡ pages_in got → Come modes_of d meets p 0 got → ComesWith list_nak
    empty_now p count most pages come =
        let last : is_last_head l empty_answer.head ≡ true = nak_last modes_of d meets l m q t z v formed candidate shaped gave arrival waits in
        let none = nak_comes modes_of d meets p 0 got come gave in
        let few : is_too_many list (empty_answer ∷ got) ≡ false = done_enough list (empty_answer ∷ got) (list_done list (empty_answer ∷ got) none.1) in
        let awaited : is_answer l.wait empty_answer ≡ true = is_answer_lem l.wait empty_answer (ap (λ (w : Option Request). fits w empty_answer.head) waits) refl refl in
        let empty : l.gathered.count ≡ 0 = omega (arith, count, most, ap length gave) in
        subst (Comes modes_of d meets l empty_answer got) (sym (svids_nak l m at empty_open empty))
        (comes_new modes_of d meets l empty_answer got _ (is_new_lem l.wait list empty_answer got awaited refl few) (added l.wait list empty_answer got awaited few)
        (omega (arith, none.0, nak_needed modes_of d meets p 0 got come gave)) (λ x. none.0) (λ x. absurd (false≢true (sym x ∙ last))) (λ x. refl)
        (all_came none.0 none.1 refl refl (omega (arith, pages))))

    empty_arrives : Tells modes_of d meets l got → ComesWith list_nak
    empty_arrives (none_came e a) = absurd (false≢true (ap is_open (sym a ∙ empty_open)))
    empty_arrives (all_came e n a w k) = absurd (false≢true (ap is_open (sym a ∙ empty_open)))
    empty_arrives (pages_come p a count most pages come) = empty_now p count most pages come
    empty_arrives (modes_come a some h k come) = absurd (false≢true (ap is_open (sym a ∙ empty_open)))

  -- what has come stays as it is
  left_alone : (x : Message) (r : Result) → is_answer l.wait x ≡ false → is_late l.wait list x got ≡ false → is_last_head l x.head ≡ false →
      Tells modes_of d meets r.step.laptop got → Comes modes_of d meets l x got r
  left_alone x r unawaited late last tells =
      comes_same modes_of d meets l x got r (not_new_other l.wait list x got unawaited) (not_late l.wait list x got unawaited late) last tells

  -- the wait ends
  ended_tells : Tells modes_of d meets l got → Tells modes_of d meets (ended l) got
  ended_tells = tells_same modes_of d meets l (ended l) got refl refl refl refl (λ w. refl)

  dropped_tells : l.candidate ≡ Absent → Tells modes_of d meets l got → Tells modes_of d meets (dropped l) got
  dropped_tells a = tells_same modes_of d meets l (dropped l) got (sym a) refl refl refl (λ w. refl)

  -- Enter and Exit
  mode_arrives : (r : Request) (shaped : Shaped modes_of d (mode_ack r)) (gave : Gave modes_of d (mode_ack r) q) (arrival : Arrival (listed d) t q z (mode_ack r) v) →
      l.wait ≡ Some r → Tells modes_of d meets l got → ComesWith (mode_ack r)
  mode_arrives r shaped gave arrival waits tells =
      subst (Comes modes_of d meets l (reply r ack []) got) (sym (mode_marked l m at r gave))
      (left_alone (reply r ack []) _ (no_answer_mode l.wait (reply r ack []) (lt-leb r.command 3 (omega (arith, gave))))
      (late_awaited l.wait list (reply r ack []) got (ap is_awaiting waits))
      (mode_last modes_of d meets l m q t z v formed candidate r shaped gave arrival waits) (ended_tells tells))

  -- BUSY
  module _ (r : Request) (shaped : Shaped modes_of d (busy_to r)) (gave : Gave modes_of d (busy_to r) q) (arrival : Arrival (listed d) t q z (busy_to r) v)
      (waits : l.wait ≡ Some r) (tells : Tells modes_of d meets l got) where
    busy_comes : (told : Told) (after : Laptop) → Tells modes_of d meets after got →
        Comes modes_of d meets l (reply r busy []) got (only m (accepted_with told after))
    busy_comes told after tells_then =
        left_alone (reply r busy []) _ (no_answer_busy l.wait (reply r busy []) refl)
        (late_awaited l.wait list (reply r busy []) got (ap is_awaiting waits))
        (busy_last modes_of d meets l m q t z v formed candidate r shaped gave arrival waits) tells_then

    busy_arrives : ComesWith (busy_to r)
    busy_arrives = go (awaits l m formed r waits)
      where
        go : WaitFits (Some r) l.candidate l.pages l.stored m.svids → ComesWith (busy_to r)
        go (inl f) =
            subst (Comes modes_of d meets l (reply r busy []) got)
            (sym (ap (λ (x : Request). hear_answer l m at (reply x busy [])) f.0 ∙ identity_busy l m at))
            (busy_comes ToldNothing (dropped l) (dropped_tells f.1 tells))
        go (inr (inl f)) =
            subst (Comes modes_of d meets l (reply r busy []) got)
            (sym (ap (λ (x : Request). hear_answer l m at (reply x busy [])) f.0 ∙ svids_busy l m at f.1))
            (busy_comes ToldNothing (ended l) (ended_tells tells))
        go (inr (inr (inl f))) =
            let fit : Listed l.gathered l.stored m.svids m.modes × (l.stored < l.gathered.count) =
            subst (λ (c : Candidate). CandidateFits c l.gathered l.pages l.stored m.svids m.modes) f.1 formed.candidate_fits in
            subst (Comes modes_of d meets l (reply r busy []) got)
            (sym (ap (λ (x : Request). hear_answer l m at (reply x busy [])) f.0 ∙ modes_busy l m at (get_or m.svids l.stored 0)))
            (busy_comes ToldNothing (ended l) (ended_tells tells))
        go (inr (inr (inr f))) =
            subst (Comes modes_of d meets l (reply r busy []) got) (sym (mode_busy l m at r f.0))
            (busy_comes (declined_as 3 r) (ended l) (ended_tells tells))

  -- all of them
  answer_arrives : (a : FairAnswer) (shaped : Shaped modes_of d a) (gave : Gave modes_of d a q) (arrival : Arrival (listed d) t q z a v) →
      l.wait ≡ Some (request_of (message_of modes_of d a).head) → Tells modes_of d meets l got → ComesWith a
  answer_arrives identity_ack shaped gave arrival waits tells = identity_arrives shaped gave arrival waits tells
  answer_arrives (page_ack p) shaped gave arrival waits tells =
      page_arrives modes_of d meets l m q t z v formed candidate p shaped gave arrival waits got at tells
  answer_arrives (modes_ack svid) shaped gave arrival waits tells = modes_arrive svid shaped gave arrival waits tells
  answer_arrives (mode_ack r) shaped gave arrival waits tells = mode_arrives r shaped gave arrival waits tells
  answer_arrives list_nak shaped gave arrival waits tells = empty_arrives shaped gave arrival waits tells
  answer_arrives (busy_to r) shaped gave arrival waits tells = busy_arrives r shaped gave arrival waits tells

  -- what does not fit: a late page with nothing awaited while the list is open, or nothing to the gathering
  late_arrives : (a : FairAnswer) → fits l.wait (message_of modes_of d a).head ≡ false → is_late_page l (message_of modes_of d a).head ≡ true →
      Tells modes_of d meets l got → Comes modes_of d meets l (message_of modes_of d a) got (only m (refused_by 6 (dropped l)))
  unfolding is_late_page
  late_arrives a unfit late tells =
      let x : Message = message_of modes_of d a in
      let is_page : is_page_answer x ≡ true = and_right (is_open l.candidate) _ (and_right (is_idle l.wait) _ late) in
      let open_now : is_open l.candidate ≡ true = and_left (is_open l.candidate) _ (and_right (is_idle l.wait) _ late) in
      let still : is_listing list got ≡ true = list_open list got (listing open_now tells) in
      let unawaited = no_answer_unfit l.wait x unfit in
      comes_none modes_of d meets l x got _ (not_new_other l.wait list x got unawaited)
      (dropped_late l.wait list x got unawaited (late_page l.wait list x got (idle l.wait (and_left (is_idle l.wait) _ late)) is_page still))
      (last_unfit l x.head unfit) (inl late) (none_came refl refl)
    where
      idle : (w : Option Request) → is_idle w ≡ true → is_awaiting w ≡ false
      idle None e = refl
      idle (Some r) e = absurd (false≢true e)

      listing : is_open l.candidate ≡ true → Tells modes_of d meets l got → 0 < missing (list_answers list) got
      listing o (none_came e a) = absurd (false≢true (sym (ap is_open a) ∙ o))
      listing o (all_came e n a w k) = absurd (false≢true (sym (ap is_open a) ∙ o))
      listing o (pages_come p a count most pages come) = open_left modes_of d meets p got most come
      listing o (modes_come a some h k come) = absurd (false≢true (sym (ap is_open a) ∙ o))

  ignored_arrives : (a : FairAnswer) → fits l.wait (message_of modes_of d a).head ≡ false → is_late_page l (message_of modes_of d a).head ≡ false →
      Tells modes_of d meets l got → Comes modes_of d meets l (message_of modes_of d a) got (only m (refused_by 6 l))
  ignored_arrives a unfit early tells =
      go (is_page_answer x) (is_awaiting l.wait) refl refl tells
    where
      x : Message
      x = message_of modes_of d a

      alone : is_late l.wait list x got ≡ false → Comes modes_of d meets l x got (only m (refused_by 6 l))
      alone late = left_alone x _ (no_answer_unfit l.wait x unfit) late (last_unfit l x.head unfit) tells

      go : (b c : Bool) → is_page_answer x ≡ b → is_awaiting l.wait ≡ c → Tells modes_of d meets l got → Comes modes_of d meets l x got (only m (refused_by 6 l))
      go false c is_page idle t = alone (late_no l.wait list x got is_page)
      go true true is_page idle t = alone (late_awaited l.wait list x got idle)
      go true false is_page idle (none_came e absent) =
          comes_same modes_of d meets l x got _ (not_new_other l.wait list x got (no_answer_unfit l.wait x unfit))
          (dropped_late l.wait list x got (no_answer_unfit l.wait x unfit)
          (late_page l.wait list x got idle is_page
          (list_open list got (subst (λ (g : List Message). 0 < missing (list_answers list) g) (sym e) (none_left modes_of d meets)))) ∙ sym e)
          (last_unfit l x.head unfit) (none_came e absent)
      go true false is_page idle (all_came e n absent w k) = alone (late_done l.wait list x got (list_done list got n))
      go true false is_page idle (pages_come p open_now count most pages come) =
          absurd (false≢true (sym early ∙ is_late_lem l x.head idle open_now is_page))
      go true false is_page idle (modes_come done_now some h k come) =
          alone (late_done l.wait list x got (list_done list got (modes_left_list modes_of d meets l.stored got some come)))

  -- any of them, whatever is awaited
  pub comes : (a : FairAnswer) (shaped : Shaped modes_of d a) (gave : Gave modes_of d a q) (arrival : Arrival (listed d) t q z a v) →
      Tells modes_of d meets l got → Comes modes_of d meets l (message_of modes_of d a) got (heard l m (accepted at (message_of modes_of d a)))
  comes a shaped gave arrival tells = go (fits l.wait x.head) (is_late_page l x.head) refl refl
    where
      x : Message
      x = message_of modes_of d a

      answers : eqb x.head.kind 0 ≡ false
      answers = no_request modes_of d meets l m q t z v formed candidate a

      go : (b c : Bool) → fits l.wait x.head ≡ b → is_late_page l x.head ≡ c → Comes modes_of d meets l x got (heard l m (accepted at x))
      go true c e n =
          subst (Comes modes_of d meets l x got) (sym (hear_fit l m formed.lent at x answers e))
          (answer_arrives a shaped gave arrival (fits_is l.wait x.head e) tells)
      go false true e n =
          subst (Comes modes_of d meets l x got) (sym (hear_late l m formed.lent at x answers e n)) (late_arrives a e n tells)
      go false false e n =
          subst (Comes modes_of d meets l x got) (sym (hear_ignored l m formed.lent at x answers e n)) (ignored_arrives a e n tells)
