-- Each kind of exchange: for a page, for the NAK of an empty list, and for the modes of an SVID.
use mathlib.Core.Logic.{◌⊎◌, inl, inr}
use mathlib.Core.Path.{◌≡◌, refl, ap, sym, ◌∙◌, subst}
use mathlib.Core.Bool.{Bool, true, false, false≢true}
use mathlib.Core.List.{List, [], ◌∷◌, ◌++◌}
use Prim.Native.Nat.{ℕ, ◌+◌, ◌*◌, ◌-◌, ◌/◌, ◌<◌, ◌≤◌}
use native.Mathlib.Omega.{arith}
use lib.Dec.{ltb, eqb}
use lib.ListN.{length, get_or, take, length-take, length-append}
use lib.Seq.{length-take-le, get_or-take}
use borrow.Author.Tests.{eq-eqb, ltb-true, ltb-false}
use Rattle.messages.specs.Layout.{ack, Message, message_bytes}
use Rattle.messages.specs.Reading.{read_outcome}
use Rattle.messages.specs.Requests.{svids_command, modes_command, head_for}
use Rattle.messages.specs.Table.{pd_sid}
use Rattle.messages.specs.Writing.{well_shaped}
use Rattle.messages.specs.declared.request.Request.{Request}
use Rattle.pages.specs.Pages.{halves, page, is_last}
use Rattle.pages.proofs.Laws.{last_exactly}
use Rattle.taking.specs.Taking.{verdict}
use Rattle.taking.specs.declared.Verdict.TheVariants.{More, Ends}
use Rattle.taking.proofs.Sizes.{ends_fits}
use Rattle.messages.specs.declared.edition.Edition.{Edition}
use Rattle.dock.specs.Data.{listed}
use Rattle.dock.specs.Dock.{is_empty}
use Rattle.dock.specs.declared.Dock.{Dock}
use Rattle.dock.specs.declared.Standing.TheVariants.{Ready}
use Rattle.hearing.specs.Hearing.{Result, fits, hear_answer, heard}
use Rattle.laptop.specs.Calls.{sends}
use Rattle.owner.specs.Owner.{discover, request_message, asks_next}
use Rattle.laptop.specs.State.{Memory, gathered_list, awaiting}
use Rattle.laptop.specs.declared.Candidate.{Candidate}
use Rattle.laptop.specs.declared.Candidate.TheVariants.{Open, Done}
use Rattle.laptop.specs.declared.Laptop.{Laptop}
use Rattle.std.specs.Prelude.{Some}
use Rattle.laptop_laws.specs.Holding.{Holding}
use Rattle.laptop_laws.specs.WellFormed.{Listed, CandidateFits}
use Rattle.link.specs.Demand.{Meets}
use Rattle.link.specs.Exchanges.{HasAll}
use Rattle.link.specs.Joined.{Way, System}
use Rattle.link.specs.Needed.{page_answer, empty_answer, modes_answer, needed}
use Rattle.unharmed.proofs.LastAnswer.{is_last_head}
use Rattle.unharmed.proofs.Arriving.{answer_read}
use Rattle.unharmed.proofs.AtDock.{Inv, page_then}
use Rattle.unharmed.proofs.Course.{FairAnswer, page_ack, modes_ack, list_nak, Carried, nothing, under_way, sure, arrived, is_ready, moves_on, At, in_step, lost_one, Course, even, undecided, early, last_no, moves_more, Taken, grows, again, finishes, taken}
use Rattle.unharmed.proofs.Hears.{hear_fit, page_more, page_last, svids_nak, modes_more, modes_last}
use Rattle.unharmed.proofs.Invariant.{message_of, Shaped, Complete, CandidateIs}
use Rattle.progress.proofs.Advancing.{Advance, goes_on, ends_with}
use Rattle.progress.proofs.Clean.{rested, Stage, listing, storing, Clean, rested_inv}
use Rattle.progress.proofs.Exchange.{answered_at, page_given, nak_given, modes_given}
use Rattle.progress.proofs.Numbers.{open_number, empty_number, done_number}
use Rattle.progress.proofs.Shapes.{svids_request_shaped, empty_answer_shaped, page_answer_shaped, request_shaped, modes_answer_shaped}
use Rattle.progress.proofs.Tells.{empty_or_some}

-- what tells the fates apart
abbrev is_nothing : Carried → Bool
is_nothing nothing = true
is_nothing (under_way a) = false
is_nothing (sure a) = false
is_nothing (arrived b) = false

pub asks_svids : (l : Laptop) (svids : List ℕ) → l.candidate ≡ Open →
    asks_next l svids l.candidate ≡ sends (request_message (discover pd_sid svids_command)) (awaiting (discover pd_sid svids_command) l)
unfolding asks_next
asks_svids l svids e = rw e

pub asks_modes : (l : Laptop) (svids : List ℕ) → l.candidate ≡ Done →
    asks_next l svids l.candidate ≡
    sends (request_message (discover (get_or svids l.stored 0) modes_command)) (awaiting (discover (get_or svids l.stored 0) modes_command) l)
unfolding asks_next
asks_modes l svids e = rw e

last_of : (l : Laptop) (svid : ℕ) → l.wait ≡ Some (discover svid modes_command) → l.stored + 1 ≡ l.gathered.count →
    is_last_head l (head_for (discover svid modes_command) ack) ≡ true
unfolding is_last_head
last_of l svid waits e = rw (waits, eq-eqb svid svid refl, eq-eqb (l.stored + 1) l.gathered.count e)

some_list : (list : List ℕ) → 0 < length list → is_empty list ≡ false
some_list [] h = absurd (omega arith)
some_list (svid ∷ list) h = refl

module _ (modes_of : ℕ → List ℕ) (start : System) (meets : Meets modes_of start.dock) (all : HasAll modes_of start.dock) (old base : Holding) (h : Edition)
    (out : List ℕ) (room : 28 ≤ length out) where
  abbrev d : Dock
  d = start.dock

  abbrev list : List ℕ
  list = listed d

  module _ (e : Edition) (l : Laptop) (m : Memory) (way : Way) (p : ℕ) (got : List Message)
      (clean : Clean modes_of d meets old base h out room e l m way p got) where
    -- the edition of the answer
    abbrev now : Edition
    now = answered_at modes_of d h out room l.edition

    abbrev Advances : Type 0
    Advances = Advance modes_of start meets old base h out room (rested modes_of d meets old base h out room e l m way p) got

    invariant : Inv modes_of d old l m way p Ready nothing 0
    invariant = rested_inv modes_of d meets old base h out room e l m way p clean.reached_so

    -- what the laptop hears
    hears : (r : Request) (a : FairAnswer) (result : Result) → Shaped modes_of d a → eqb (message_of modes_of d a).head.kind 0 ≡ false →
        fits (Some r) (message_of modes_of d a).head ≡ true → hear_answer (awaiting r l) m now (message_of modes_of d a) ≡ result →
        heard (awaiting r l) m (read_outcome (message_bytes now (message_of modes_of d a))) ≡ result
    hears r a result shaped answers fit is =
        ap (heard (awaiting r l) m) (answer_read modes_of d meets now a shaped) ∙
        hear_fit (awaiting r l) m invariant.formed.lent now (message_of modes_of d a) answers fit ∙ is

    -- the list is open
    module _ (open_now : l.candidate ≡ Open) (count : l.gathered.count ≡ p * 12) where
      abbrev request : Request
      request = discover pd_sid svids_command

      open_fits : Listed l.gathered 0 m.svids m.modes × (l.pages < 200) × (l.stored ≡ 0)
      open_fits = subst (λ (c : Candidate). CandidateFits c l.gathered l.pages l.stored m.svids m.modes) open_now invariant.formed.candidate_fits

      abbrev gathered : List ℕ
      gathered = gathered_list l m.svids

      size : length gathered ≡ p * 12
      size = length-take-le l.gathered.count m.svids (omega (arith, invariant.formed.lent.svids_size, open_fits.0.count_fits)) ∙ count

      -- the dock is in step
      in_step_now : At list gathered l.pages p 0
      in_step_now = go (subst (λ (c : Candidate). CandidateIs modes_of d c l.gathered l.stored l.pages m Ready p nothing 0) open_now invariant.candidate_is).1
        where
          go : Course list gathered l.pages Ready p nothing 0 → At list gathered l.pages p 0
          go (even x y) = x
          go (undecided a h c e f) = absurd (false≢true (sym (ap is_ready e)))
          go (early n x e f) = absurd (false≢true (sym (ap is_nothing e)))

      module _ (some : 0 < length list) where
        few : length list ≤ 72
        few = omega (arith, length-take d.count d.svids, meets.sound.count_fits)

        abbrev values : List ℕ
        values = halves (page list p)

        before : (needed modes_of d got ≡ length list / 12 + 1 - p + length list) × (p * 12 ≤ length list)
        before = open_number modes_of d meets l got open_now p count some clean.tells_so

        more_advances : verdict gathered values ≡ More → p * 12 + 12 ≤ length list → l.pages ≡ p + 0 → Advances
        unfolding page_then
        more_advances is more k =
            goes_on modes_of start meets old base h out room e l m way p got clean request (awaiting request l) (asks_svids l m.svids open_now) refl refl
            svids_request_shaped (omega arith) (omega arith) (page_answer list p) true (page_given modes_of d h out room now p (some_list list some))
            (page_answer_shaped list p) _
            (hears request (page_ack p) _ (page_answer_shaped list p) refl refl (page_more (awaiting request l) m now open_now (omega (arith, few)) (page list p) is (omega (arith, few))))
            refl refl refl (listing refl counted)
            (λ t. let after = open_number modes_of d meets _ _ refl (p + 1) (omega (arith, size)) some t in
            (omega (arith, after.0, before.0), omega (arith, after.0)))
          where
            counted : length gathered + 12 ≡ moves_on list true p * 12
            counted = rw (moves_more list p (last_no list p more)) (omega (arith, size))

        last_advances : (k : ℕ) → verdict gathered values ≡ Ends k → gathered ++ take k values ≡ list → is_last list p ≡ true → l.pages ≡ p + 0 → Advances
        unfolding page_then
        last_advances k is whole last pages =
            let fit = ends_fits gathered values k is in
            let both : length (gathered ++ take k values) ≡ length list = ap length whole in
            let all_pages : p ≡ length list / 12 = (last_exactly list p (omega (arith, before.1))).0 last in
            goes_on modes_of start meets old base h out room e l m way p got clean request (awaiting request l) (asks_svids l m.svids open_now) refl refl
            svids_request_shaped (omega arith) (omega arith) (page_answer list p) true (page_given modes_of d h out room now p (some_list list some))
            (page_answer_shaped list p) _
            (hears request (page_ack p) _ (page_answer_shaped list p) refl refl
            (page_last (awaiting request l) m now open_now (omega (arith, few, before.1)) (page list p) k is
            (omega (arith, open_fits.2, length-append gathered (take k values), length-take-le k values fit.0, some))))
            refl refl refl (storing refl)
            (λ t. let after = done_number modes_of d meets _ _ refl t in
            (omega (arith, after.0, before.0, open_fits.2), omega (arith, after.0, open_fits.2, some)))

        page_advances : At list gathered l.pages p 0 → Advances
        page_advances (lost_one a h k) = absurd (omega (arith, ap length a, length-take-le (p * 12 + 12) list h, size))
        page_advances (in_step a h k) = go (taken list meets.svids_fit meets.sound.list_sound few some (in_step a h k))
          where
            go : Taken list gathered l.pages p 0 → Advances
            go (grows e whole f c) = more_advances e f c
            go (again e whole f c) = absurd (omega (arith, ap length whole, length-take-le (p * 12 + 12) list f, size))
            go (finishes n e whole last c) = last_advances n e whole last k

      -- NAK of an empty list
      empty_advances : list ≡ [] → Advances
      unfolding page_then is_last_head
      empty_advances empty =
          let before = empty_number modes_of d meets l got open_now empty clean.tells_so in
          ends_with modes_of start meets old base h out room e l m way p got clean request (awaiting request l) (asks_svids l m.svids open_now) refl refl
          svids_request_shaped (omega arith) (omega arith) empty_answer false (nak_given modes_of d h out room now p (ap is_empty empty))
          empty_answer_shaped _
          (hears request list_nak _ empty_answer_shaped refl refl (svids_nak (awaiting request l) m now open_now before.1))
          refl (answer_read modes_of d meets now list_nak empty_answer_shaped) before.0 (λ some. absurd (omega (arith, ap length empty)))

      listing_advances : Advances
      listing_advances = go (empty_or_some modes_of d meets list)
        where
          go : (list ≡ []) ⊎ (0 < length list) → Advances
          go (inl empty) = empty_advances empty
          go (inr some) = page_advances some in_step_now

    -- modes are missing
    module _ (done_now : l.candidate ≡ Done) where
      done_fits : Listed l.gathered l.stored m.svids m.modes × (l.stored < l.gathered.count)
      done_fits = subst (λ (c : Candidate). CandidateFits c l.gathered l.pages l.stored m.svids m.modes) done_now invariant.formed.candidate_fits

      complete : Complete modes_of d l.gathered l.stored l.pages m nothing 0
      complete = subst (λ (c : Candidate). CandidateIs modes_of d c l.gathered l.stored l.pages m Ready p nothing 0) done_now invariant.candidate_is

      all_listed : length list ≡ l.gathered.count
      all_listed =
          omega (arith, ap length complete.same_list, length-take l.gathered.count m.svids, invariant.formed.lent.svids_size, done_fits.0.count_fits)

      before_modes : (needed modes_of d got ≡ length list - l.stored) × (l.stored < length list)
      before_modes = done_number modes_of d meets l got done_now clean.tells_so

      abbrev svid : ℕ
      svid = get_or m.svids l.stored 0

      named : get_or list l.stored 0 ≡ svid
      named =
          ap (λ (x : List ℕ). get_or x l.stored 0) (sym complete.same_list) ∙ get_or-take l.gathered.count m.svids l.stored 0 done_fits.1

      abbrev asked : Request
      asked = discover svid modes_command

      asked_shaped : well_shaped (request_message asked) ≡ true
      asked_shaped =
          subst (λ (s : ℕ). well_shaped (request_message (discover s modes_command)) ≡ true) named (request_shaped modes_of d meets all l.stored before_modes.1)

      answer_shaped : well_shaped (modes_answer modes_of svid) ≡ true
      answer_shaped = subst (λ (s : ℕ). well_shaped (modes_answer modes_of s) ≡ true) named (modes_answer_shaped modes_of d meets all l.stored before_modes.1)

      fits_answer : fits (Some asked) (modes_answer modes_of svid).head ≡ true
      fits_answer = rw (eq-eqb svid svid refl)

      some_modes : 1 ≤ length (modes_of svid)
      some_modes = subst (λ (s : ℕ). 1 ≤ length (modes_of s)) named (all.some_modes l.stored before_modes.1)

      few_modes : length (modes_of svid) ≤ 6
      few_modes = subst (λ (s : ℕ). length (modes_of s) ≤ 6) named (all.few_modes l.stored before_modes.1)

      places : l.stored < 72
      places = omega (arith, done_fits.1, done_fits.0.count_fits)

      stored_advances : l.stored + 1 < l.gathered.count → Advances
      unfolding page_then
      stored_advances less =
          goes_on modes_of start meets old base h out room e l m way p got clean asked (awaiting asked l) (asks_modes l m.svids done_now) refl refl
          asked_shaped (omega arith) (omega arith) (modes_answer modes_of svid) false (modes_given modes_of d h out room now p svid some_modes few_modes)
          answer_shaped _
          (hears asked (modes_ack svid) _ answer_shaped refl fits_answer (modes_more (awaiting asked l) m now svid (modes_of svid) places less))
          refl refl refl (storing done_now)
          (λ t. let after = done_number modes_of d meets _ _ done_now t in
          (omega (arith, after.0, before_modes.0, before_modes.1), omega (arith, after.0, all_listed)))

      last_stored : l.gathered.count ≤ l.stored + 1 → Advances
      unfolding page_then
      last_stored least =
          ends_with modes_of start meets old base h out room e l m way p got clean asked (awaiting asked l) (asks_modes l m.svids done_now) refl refl
          asked_shaped (omega arith) (omega arith) (modes_answer modes_of svid) false (modes_given modes_of d h out room now p svid some_modes few_modes)
          answer_shaped _
          (hears asked (modes_ack svid) _ answer_shaped refl fits_answer (modes_last (awaiting asked l) m now svid (modes_of svid) places done_now least))
          is_last_lem (answer_read modes_of d meets now (modes_ack svid) answer_shaped) (omega (arith, before_modes.0, before_modes.1, all_listed))
          (λ some. omega (arith, complete.sum))
        where
          is_last_lem : is_last_head (awaiting asked l) (modes_answer modes_of svid).head ≡ true
          is_last_lem = last_of (awaiting asked l) svid refl (omega (arith, done_fits.1))

      storing_advances : Advances
      storing_advances = go (ltb (l.stored + 1) l.gathered.count) refl
        where
          go : (b : Bool) → ltb (l.stored + 1) l.gathered.count ≡ b → Advances
          go true b = stored_advances (ltb-true (l.stored + 1) l.gathered.count b)
          go false b = last_stored (ltb-false (l.stored + 1) l.gathered.count b)

    pub advances : Advances
    advances = go clean.stage
      where
        go : Stage modes_of d meets old base h out room l p → Advances
        go (listing open_now count) = listing_advances open_now count
        go (storing done_now) = storing_advances done_now
