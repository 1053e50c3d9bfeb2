-- A well-formed laptop stays so by every message.
use mathlib.Core.Logic.{◌⊎◌, inl, inr}
use mathlib.Core.Path.{◌≡◌, refl, ap, sym, ◌∙◌, subst}
use mathlib.Core.Bool.{Bool, true, false, cond, not, ◌&&◌, ◌||◌, false≢true}
use mathlib.Core.List.{List, [], ◌++◌}
use Prim.Native.Nat.{ℕ, ◌+◌, ◌*◌, ◌-◌, ◌^◌, ◌<◌, ◌≤◌}
use native.Mathlib.Omega.{arith}
use lib.Bits.{bit_and, bit_or, and_le_l, or_lt}
use lib.Dec.{leb, ltb, eqb}
use lib.ListN.{length, get_or, take, set, replicate, length-set, length-replicate, get_or-eq_default}
use lib.Seq.{sets, length-sets, get_or-set_same, get_or-set_other}
use borrow.Author.Tests.{eqb-true, eqb-false, leb-true, leb-false, ltb-true, ltb-false}
use Rattle.laws.specs.Padded.{padded}
use Rattle.laws.proofs.Lines.{and_left, and_right}
use Rattle.messages.specs.Editions.{ours, lower}
use Rattle.messages.specs.Layout.{Message}
use Rattle.messages.specs.Reading.{Outcome, accepted, refused, read_outcome}
use Rattle.messages.specs.Requests.{request_of, same_request}
use Rattle.messages.specs.Writing.{well_shaped}
use Rattle.messages.specs.declared.Head.{Head}
use Rattle.messages.specs.declared.edition.Edition.{Edition}
use Rattle.messages.specs.declared.request.Request.{Request}
use Rattle.messages.proofs.Laws.{identity_least, modes_least, read_shape, read_count}
use Rattle.pages.specs.Lists.{sound_list}
use Rattle.pages.specs.Pages.{halves}
use Rattle.taking.specs.Taking.{verdict}
use Rattle.taking.specs.declared.Verdict.{Verdict}
use Rattle.taking.specs.declared.Verdict.TheVariants.{Bad, Repeat, More, Ends}
use Rattle.taking.proofs.Growing.{more_sound, ends_sound}
use Rattle.taking.proofs.Sizes.{more_fits, ends_fits}
use Rattle.gathering.specs.Gathering.{Gathering, hear_identity, unless_last, take_as, take_page, none_gathered, hear_svids}
use Rattle.hearing.specs.Answers.{Storing, storing, Marking, store_modes, hear_modes, hear_mode, is_done, is_whole, copied}
use Rattle.laptop.specs.Catalogue.{held_list}
use Rattle.laptop.specs.Calls.{refused_by, accepted_with, short_runs}
use Rattle.hearing.specs.Hearing.{Result, hear_request, fits, is_late_page, hear_unawaited, with_opening, with_gathering, with_storing, with_marking, step_if_whole, list_if_whole, run_if_whole, published_if_whole, publishing, hear_answer, hear, heard}
use Rattle.laptop.specs.Marks.{place_of, named, marked_by, marks_after}
use Rattle.owner.specs.Owner.{any_entered, is_absent}
use Rattle.laptop.specs.State.{Memory, memory, gathered_list, ended, dropped, opened, with_pages, counted, published}
use Rattle.laptop_laws.specs.WellFormed.{Listed, HeldFits, CandidateFits, WaitFits, awaits_identity, EnterFits, ExitFits, ModeFits, WellFormed}
use Rattle.laptop.specs.declared.Candidate.{Candidate}
use Rattle.laptop.specs.declared.Candidate.TheVariants.{Absent, Open, Done}
use Rattle.std.specs.Prelude.{Option, Some, None}
use Rattle.laptop.specs.declared.Laptop.{Laptop}
use Rattle.laptop.specs.declared.Size.{Size}
use Rattle.laptop.specs.Step.{Step}
use Rattle.laptop.specs.declared.Told.TheVariants.{Nothing as ToldNothing}
use Rattle.laptop_laws.proofs.Behind.{sets_behind, below}
use Rattle.laptop_laws.proofs.Bits.{Set, none_entered}
use Rattle.laptop_laws.proofs.Copies.{length_copied}
use Rattle.laptop_laws.proofs.Keeping.{ended_formed, dropped_formed}
use Rattle.gathering.proofs.Listing.{counted_more}
use Rattle.laptop_laws.proofs.Fitting.{fits_is}
use Rattle.laptop_laws.proofs.Marks.{marks_before}
use Rattle.laptop_laws.proofs.Places.{there, OneOf}
use Rattle.laptop.proofs.Marking.{named_most}
use Rattle.laptop.proofs.Numbers.{number_most}

sound_nil : sound_list [] ≡ true
unfolding sound_list
sound_nil = refl

-- a message that fits what is awaited: the wait's own facts, by the message's command
same_command : (r : Request) (h : Head) → same_request r (request_of h) ≡ true → r.command ≡ h.command
same_command r h e =
    eqb-true r.command h.command (and_left (eqb r.command h.command) _ (and_right (eqb r.svid h.svid) _ e))

module _ (pages stored : ℕ) (svids : List ℕ) where
  fits_identity : (w : Option Request) (c : Candidate) (h : Head) → WaitFits w c pages stored svids → fits w h ≡ true → h.command ≡ 1 →
      (pages ≡ 0) × (awaits_identity w ≡ true)
  fits_identity None c h f e k = absurd (false≢true e)
  fits_identity (Some r) c h (inl a) e k = (a.2, rw (same_command r h e ∙ k))
  fits_identity (Some r) c h (inr (inl a)) e k = absurd (omega (arith, same_command r h e, k, ap (λ (x : Request). x.command) a.0))
  fits_identity (Some r) c h (inr (inr (inl a))) e k = absurd (omega (arith, same_command r h e, k, ap (λ (x : Request). x.command) a.0))
  fits_identity (Some r) c h (inr (inr (inr a))) e k = absurd (omega (arith, same_command r h e, k, a.0))

  fits_svids : (w : Option Request) (c : Candidate) (h : Head) → WaitFits w c pages stored svids → fits w h ≡ true → h.command ≡ 2 → c ≡ Open
  fits_svids None c h f e k = absurd (false≢true e)
  fits_svids (Some r) c h (inl a) e k = absurd (omega (arith, same_command r h e, k, ap (λ (x : Request). x.command) a.0))
  fits_svids (Some r) c h (inr (inl a)) e k = a.1
  fits_svids (Some r) c h (inr (inr (inl a))) e k = absurd (omega (arith, same_command r h e, k, ap (λ (x : Request). x.command) a.0))
  fits_svids (Some r) c h (inr (inr (inr a))) e k = absurd (omega (arith, same_command r h e, k, a.0))

  fits_modes : (w : Option Request) (c : Candidate) (h : Head) → WaitFits w c pages stored svids → fits w h ≡ true → h.command ≡ 3 → c ≡ Done
  fits_modes None c h f e k = absurd (false≢true e)
  fits_modes (Some r) c h (inl a) e k = absurd (omega (arith, same_command r h e, k, ap (λ (x : Request). x.command) a.0))
  fits_modes (Some r) c h (inr (inl a)) e k = absurd (omega (arith, same_command r h e, k, ap (λ (x : Request). x.command) a.0))
  fits_modes (Some r) c h (inr (inr (inl a))) e k = a.1
  fits_modes (Some r) c h (inr (inr (inr a))) e k = absurd (omega (arith, same_command r h e, k, a.0))

  fits_mode : (w : Option Request) (c : Candidate) (h : Head) → WaitFits w c pages stored svids → fits w h ≡ true → (h.command ≡ 1 → ⊥) →
      (h.command ≡ 2 → ⊥) → (h.command ≡ 3 → ⊥) → (4 ≤ h.command) × (c ≡ Absent)
  fits_mode None c h f e x y z = absurd (false≢true e)
  fits_mode (Some r) c h (inl a) e x y z = absurd (x (sym (same_command r h e) ∙ ap (λ (q : Request). q.command) a.0))
  fits_mode (Some r) c h (inr (inl a)) e x y z = absurd (y (sym (same_command r h e) ∙ ap (λ (q : Request). q.command) a.0))
  fits_mode (Some r) c h (inr (inr (inl a))) e x y z = absurd (z (sym (same_command r h e) ∙ ap (λ (q : Request). q.command) a.0))
  fits_mode (Some r) c h (inr (inr (inr a))) e x y z = (omega (arith, same_command r h e, a.0), a.1)

-- before anything is published: as well-formed, with nothing awaited and no mode entered; modes may be complete
abbrev Nearly : Candidate → Size → ℕ → ℕ → List ℕ → List ℕ → Type 0
Nearly Absent size pages stored svids modes = Unit
Nearly Open size pages stored svids modes = Listed size 0 svids modes × (pages < 200) × (stored ≡ 0)
Nearly Done size pages stored svids modes = Listed size stored svids modes

nearly : (c : Candidate) (size : Size) (pages stored : ℕ) (svids modes : List ℕ) → CandidateFits c size pages stored svids modes →
    Nearly c size pages stored svids modes
nearly Absent size pages stored svids modes f = tt
nearly Open size pages stored svids modes f = f
nearly Done size pages stored svids modes f = f.0

-- all SVIDs have their modes
all_listed : (size : Size) (n : ℕ) (svids modes : List ℕ) → size.count ≤ n → Listed size n svids modes → Listed size size.count svids modes
all_listed size n svids modes h f =
    record {
      extent_least = f.extent_least;
      extent_most = f.extent_most;
      count_fits = f.count_fits;
      list_sound = f.list_sound;
      some_modes = λ i k. f.some_modes i (omega arith);
      few_modes = λ i k. f.few_modes i (omega arith);
    }

missing : (c : Candidate) (size : Size) (pages stored : ℕ) (svids modes : List ℕ) → (is_done c && leb size.count stored) ≡ false →
    Nearly c size pages stored svids modes → CandidateFits c size pages stored svids modes
missing Absent size pages stored svids modes e f = tt
missing Open size pages stored svids modes e f = f
missing Done size pages stored svids modes e f = (f, leb-false size.count stored e)

complete : (c : Candidate) (size : Size) (pages stored : ℕ) (svids modes : List ℕ) → (is_done c && leb size.count stored) ≡ true →
    Nearly c size pages stored svids modes → Listed size size.count svids modes
complete Absent size pages stored svids modes e f = absurd (false≢true e)
complete Open size pages stored svids modes e f = absurd (false≢true e)
complete Done size pages stored svids modes e f = all_listed size stored svids modes (leb-true size.count stored e) f

-- what a message leads to is well-formed
abbrev FormedBy : Result → Type 0
FormedBy r = WellFormed r.step.laptop r.after

-- BUSY publishes nothing
unless_busy : (kind : ℕ) (r : Result) → (kind ≡ 3 → FormedBy r) → FormedBy (published_if_whole r) → FormedBy (publishing kind r)
unfolding publishing
unless_busy kind r busy other = go (eqb kind 3) refl
  where
    go : (t : Bool) → eqb kind 3 ≡ t → FormedBy (cond t r (published_if_whole r))
    go true e = busy (eqb-true kind 3 e)
    go false e = other

-- what is lent and held, and the entered sets, while a list or modes come
module _ (l : Laptop) (m : Memory) (w : WellFormed l m) (none : any_entered m.entered ≡ false) where
  module _ (s : Step) (svids modes run : List ℕ) (sv : length svids ≡ 72) (mo : length modes ≡ 72) (ru : 432 ≤ length run)
      (idle : s.laptop.wait ≡ None) (held : s.laptop.held ≡ l.held)
      (near : Nearly s.laptop.candidate s.laptop.gathered s.laptop.pages s.laptop.stored svids modes) where
    abbrev came : Result
    came =
        record { step = s; after = memory svids modes m.identity run m.held_svids m.held_modes m.held_identity m.held_run m.entered }

    published_formed : (is_done s.laptop.candidate && leb s.laptop.gathered.count s.laptop.stored) ≡ true →
        WellFormed (published s.laptop)
        (memory svids modes m.identity run svids modes m.identity
        (copied (take s.laptop.gathered.count modes) run 0 m.held_run) m.entered)
    published_formed e =
        record {
          lent =
              record {
                svids_size = sv;
                modes_size = mo;
                run_size = ru;
                held_run_size = omega (arith, w.lent.held_run_size, length_copied (take s.laptop.gathered.count modes) run 0 m.held_run);
              };
          held_fits = complete s.laptop.candidate s.laptop.gathered s.laptop.pages s.laptop.stored svids modes e near;
          candidate_fits = tt;
          wait_fits = tt;
          none_entered = λ a. none;
          sets_fit = w.sets_fit;
          entered_held = λ i p x. absurd (none_entered m.entered none i p x);
          mode_fits = tt;
        }

    left_formed : (is_done s.laptop.candidate && leb s.laptop.gathered.count s.laptop.stored) ≡ false →
        WellFormed s.laptop came.after
    left_formed e =
        record {
          lent = record { svids_size = sv; modes_size = mo; run_size = ru; held_run_size = w.lent.held_run_size };
          held_fits = subst (λ (h : Option Size). HeldFits h m.held_svids m.held_modes) (sym held) w.held_fits;
          candidate_fits = missing s.laptop.candidate s.laptop.gathered s.laptop.pages s.laptop.stored svids modes e near;
          wait_fits =
              subst (λ (x : Option Request). WaitFits x s.laptop.candidate s.laptop.pages s.laptop.stored svids) (sym idle) tt;
          none_entered = λ a. none;
          sets_fit = w.sets_fit;
          entered_held = λ i p x. absurd (none_entered m.entered none i p x);
          mode_fits = subst (λ (x : Option Request). ModeFits x s.laptop came.after) (sym idle) tt;
        }

    whole_true : is_whole s.laptop ≡ true →
        WellFormed (published s.laptop)
        (memory svids modes m.identity run svids modes m.identity
        (copied (take s.laptop.gathered.count modes) run 0 m.held_run) m.entered) →
        WellFormed (published_if_whole came).step.laptop (published_if_whole came).after
    unfolding step_if_whole list_if_whole run_if_whole
    whole_true e f = rw e f

    whole_false : is_whole s.laptop ≡ false → WellFormed s.laptop came.after → WellFormed (published_if_whole came).step.laptop (published_if_whole came).after
    unfolding step_if_whole list_if_whole run_if_whole
    whole_false e f = rw e f

    whole_is : is_whole s.laptop ≡ (is_done s.laptop.candidate && leb s.laptop.gathered.count s.laptop.stored)
    unfolding is_whole
    whole_is = refl

    whole_formed : WellFormed (published_if_whole came).step.laptop (published_if_whole came).after
    whole_formed = go (is_whole s.laptop) refl
      where
        go : (t : Bool) → is_whole s.laptop ≡ t → WellFormed (published_if_whole came).step.laptop (published_if_whole came).after
        go true e = whole_true e (published_formed (sym whole_is ∙ e))
        go false e = whole_false e (left_formed (sym whole_is ∙ e))

  -- a page: what it leads to, with the page counted
  abbrev PageNear : Laptop → Gathering → Type 0
  PageNear x g =
      (length g.svids ≡ 72) × (g.step.laptop.wait ≡ None) × (g.step.laptop.held ≡ x.held) ×
      Nearly g.step.laptop.candidate g.step.laptop.gathered g.step.laptop.pages g.step.laptop.stored g.svids m.modes

  page_either : (x : Laptop) (t : Bool) (a b : Gathering) → (t ≡ true → PageNear x a) → (t ≡ false → PageNear x b) → PageNear x (cond t a b)
  page_either x true a b na nb = na refl
  page_either x false a b na nb = nb refl

  module _ (x : Laptop) (size : length m.svids ≡ 72) (opened_list : x.candidate ≡ Open) (listed : Listed x.gathered 0 m.svids m.modes)
      (start : x.stored ≡ 0) where
    -- values behind the gathered list
    taken : (v : List ℕ) → length (gathered_list x m.svids) + length v ≤ 72 →
        take (length (gathered_list x m.svids) + length v) (sets m.svids (length (gathered_list x m.svids)) v) ≡
        gathered_list x m.svids ++ v
    taken v fit = sets_behind m.svids x.gathered.count v (omega (arith, size))

    grown : (c : ℕ) (v : List ℕ) → c ≡ length (gathered_list x m.svids) + length v → c ≤ 72 → sound_list (gathered_list x m.svids ++ v) ≡ true →
        Listed (record { extent = x.gathered.extent; count = c }) 0 (sets m.svids (length (gathered_list x m.svids)) v) m.modes
    grown c v e fit sound =
        record {
          extent_least = listed.extent_least;
          extent_most = listed.extent_most;
          count_fits = fit;
          list_sound =
              ap sound_list (ap (λ (k : ℕ). take k (sets m.svids (length (gathered_list x m.svids)) v)) e ∙ taken v (omega (arith, e))) ∙ sound;
          some_modes = λ i h. absurd (omega arith);
          few_modes = λ i h. absurd (omega arith);
        }

    last_near : (g : Gathering) → (x.pages < 200 → PageNear x g) → PageNear x (unless_last x m.svids g)
    unfolding unless_last
    last_near g f =
        page_either x (leb 200 x.pages) _ g (λ e. (size, refl, refl, tt)) (λ e. f (leb-false 200 x.pages e))

    near_as : (v : List ℕ) (judged : Verdict) → verdict (gathered_list x m.svids) v ≡ judged →
        PageNear x (take_as x m.svids v (length (gathered_list x m.svids)) judged)
    unfolding take_as
    near_as v Bad e = (size, refl, refl, tt)
    near_as v Repeat e =
        last_near _ (λ h. (size, refl, refl, subst (λ (c : Candidate). Nearly c x.gathered x.pages x.stored m.svids m.modes) (sym opened_list) (listed, h, start)))
    near_as v More e =
        let fit = more_fits (gathered_list x m.svids) v e in
        last_near _
        (λ h. (
          length-sets m.svids _ v ∙ size,
          refl,
          refl,
          (
            grown (length (gathered_list x m.svids) + 12) v (omega (arith, fit.0)) (omega (arith, fit.0, fit.1))
                (more_sound (gathered_list x m.svids) v listed.list_sound e),
            h,
            start,
          ),
        ))
    near_as v (Ends k) e =
        let fit = ends_fits (gathered_list x m.svids) v k e in
        let n : length (take k v) ≡ k = lib.Seq.length-take-le k v fit.0 in (
          length-sets m.svids _ (take k v) ∙ size,
          refl,
          refl,
          subst
              (λ (f : ℕ). Listed (record { extent = x.gathered.extent; count = length (gathered_list x m.svids) + k }) f (sets m.svids (length (gathered_list x m.svids)) (take k v)) m.modes)
              (sym start)
              (grown (length (gathered_list x m.svids) + k) (take k v) (omega (arith, n)) fit.1
              (ends_sound (gathered_list x m.svids) v listed.list_sound k e).0),
        )

    page_near : (v : List ℕ) → PageNear x (take_page x m.svids v)
    unfolding take_page
    page_near v = near_as v (verdict (gathered_list x m.svids) v) refl

  -- SVIDs, with the list open
  module _ (is : l.candidate ≡ Open) where
    open_fits : Listed l.gathered 0 m.svids m.modes × (l.pages < 200) × (l.stored ≡ 0)
    open_fits =
        subst (λ (c : Candidate). CandidateFits c l.gathered l.pages l.stored m.svids m.modes) is w.candidate_fits

    page_counted : (v : List ℕ) → PageNear l (take_page (counted l) m.svids v)
    page_counted v =
        subst (λ (x : Laptop). PageNear l (take_page x m.svids v)) (counted_more l (omega (arith, open_fits.1)))
        (page_near (with_pages (l.pages + 1) l) w.lent.svids_size is open_fits.0 open_fits.2 v)

    empty_listed : Listed (record { extent = l.gathered.extent; count = 0 }) l.stored m.svids m.modes
    empty_listed =
        record {
          extent_least = open_fits.0.extent_least;
          extent_most = open_fits.0.extent_most;
          count_fits = omega arith;
          list_sound = sound_nil;
          some_modes = λ i h. absurd (omega (arith, open_fits.2));
          few_modes = λ i h. absurd (omega (arith, open_fits.2));
        }

    svids_near : (kind : ℕ) (v : List ℕ) → PageNear l (hear_svids l kind v m.svids)
    unfolding hear_svids
    svids_near kind v =
        page_either l (eqb kind 1) _ _ (λ e. page_counted v)
        (λ e.
        page_either l (eqb kind 3) _ _
        (λ b. (
          w.lent.svids_size,
          refl,
          refl,
          nearly l.candidate l.gathered l.pages l.stored m.svids m.modes w.candidate_fits,
        ))
        (λ b.
        page_either l (none_gathered l) _ _ (λ z. (w.lent.svids_size, refl, refl, empty_listed))
        (λ z. (w.lent.svids_size, refl, refl, tt))))

    svids_busy : (v : List ℕ) → FormedBy (with_gathering m (hear_svids l 3 v m.svids))
    unfolding hear_svids
    svids_busy v = ended_formed l m w

    svids_formed : (kind : ℕ) (v : List ℕ) →
        WellFormed (publishing kind (with_gathering m (hear_svids l kind v m.svids))).step.laptop
        (publishing kind (with_gathering m (hear_svids l kind v m.svids))).after
    unfolding publishing
    svids_formed kind v =
        let near = svids_near kind v in
        unless_busy kind _ (λ e. subst (λ (k : ℕ). FormedBy (with_gathering m (hear_svids l k v m.svids))) (sym e) (svids_busy v))
        (whole_formed (hear_svids l kind v m.svids).step (hear_svids l kind v m.svids).svids m.modes m.run near.0
        w.lent.modes_size w.lent.run_size near.1 near.2 near.3)

  -- Modes, with the list done
  abbrev FillNear : Storing → Type 0
  FillNear f =
      (length f.modes ≡ 72) × (432 ≤ length f.run) × (f.step.laptop.wait ≡ None) × (f.step.laptop.held ≡ l.held) ×
      Nearly f.step.laptop.candidate f.step.laptop.gathered f.step.laptop.pages f.step.laptop.stored m.svids f.modes

  store_either : (t : Bool) (a b : Storing) → (t ≡ true → FillNear a) → FillNear b → FillNear (cond t a b)
  store_either true a b na nb = na refl
  store_either false a b na nb = nb

  module _ (is : l.candidate ≡ Done) where
    done_fits : Listed l.gathered l.stored m.svids m.modes × (l.stored < l.gathered.count)
    done_fits =
        subst (λ (c : Candidate). CandidateFits c l.gathered l.pages l.stored m.svids m.modes) is w.candidate_fits

    void_near : (number : ℕ) → FillNear (storing (refused_by number (dropped l)) m.modes m.run)
    void_near number = (w.lent.modes_size, w.lent.run_size, refl, refl, tt)

    -- the modes of one SVID more
    module _ (n : ℕ) (some : 1 ≤ n) (few : n ≤ 6) where
      number_at : (i : ℕ) → i < l.stored + 1 → (1 ≤ get_or (set m.modes l.stored n) i 0) × (get_or (set m.modes l.stored n) i 0 ≤ 6)
      number_at i h = go (eqb i l.stored) refl
        where
          go : (t : Bool) → eqb i l.stored ≡ t → (1 ≤ get_or (set m.modes l.stored n) i 0) × (get_or (set m.modes l.stored n) i 0 ≤ 6)
          go true e =
              let here : get_or (set m.modes l.stored n) i 0 ≡ n =
              ap (λ (k : ℕ). get_or (set m.modes l.stored n) k 0) (eqb-true i l.stored e) ∙
              get_or-set_same m.modes l.stored n 0 (omega (arith, w.lent.modes_size, done_fits.1, done_fits.0.count_fits)) in
              (omega (arith, here), omega (arith, here))
          go false e =
              let other = eqb-false i l.stored e in
              let there : get_or (set m.modes l.stored n) i 0 ≡ get_or m.modes i 0 = get_or-set_other m.modes l.stored i n 0 other in
              let less : i < l.stored = below i l.stored h other in
              (omega (arith, there, done_fits.0.some_modes i less), omega (arith, there, done_fits.0.few_modes i less))

      more_listed : Listed l.gathered (l.stored + 1) m.svids (set m.modes l.stored n)
      more_listed =
          record {
            extent_least = done_fits.0.extent_least;
            extent_most = done_fits.0.extent_most;
            count_fits = done_fits.0.count_fits;
            list_sound = done_fits.0.list_sound;
            some_modes = λ i h. (number_at i h).0;
            few_modes = λ i h. (number_at i h).1;
          }

    modes_near : (kind : ℕ) (words : List ℕ) → (kind ≡ 1 → 1 ≤ length words) → length words ≤ 6 → FillNear (hear_modes l kind words m.modes m.run)
    unfolding hear_modes store_modes
    modes_near kind words some few =
        store_either (eqb kind 3) _ _
        (λ e. (
          w.lent.modes_size,
          w.lent.run_size,
          refl,
          refl,
          nearly l.candidate l.gathered l.pages l.stored m.svids m.modes w.candidate_fits,
        ))
        (store_either (eqb kind 1) _ _
        (λ e.
        store_either (ltb l.stored 72) _ _
        (λ h. (
          length-set m.modes l.stored (length words) ∙ w.lent.modes_size,
          omega (arith, length-sets m.run (l.stored * 6) words, w.lent.run_size),
          refl,
          refl,
          subst (λ (c : Candidate). Nearly c l.gathered l.pages (l.stored + 1) m.svids (set m.modes l.stored (length words))) (sym is)
              (more_listed (length words) (some (eqb-true kind 1 e)) few),
        )) (void_near 8)) (void_near 8))

    modes_busy : (words : List ℕ) → FormedBy (with_storing m (hear_modes l 3 words m.modes m.run))
    unfolding hear_modes
    modes_busy words = ended_formed l m w

    modes_formed : (kind : ℕ) (words : List ℕ) → (kind ≡ 1 → 1 ≤ length words) → length words ≤ 6 →
        WellFormed (publishing kind (with_storing m (hear_modes l kind words m.modes m.run))).step.laptop
        (publishing kind (with_storing m (hear_modes l kind words m.modes m.run))).after
    unfolding publishing
    modes_formed kind words some few =
        let near = modes_near kind words some few in
        unless_busy kind _ (λ e. subst (λ (k : ℕ). FormedBy (with_storing m (hear_modes l k words m.modes m.run))) (sym e) (modes_busy words))
        (whole_formed (hear_modes l kind words m.modes m.run).step m.svids (hear_modes l kind words m.modes m.run).modes
        (hear_modes l kind words m.modes m.run).run w.lent.svids_size near.0 near.1 near.2 near.3 near.4)

-- Identity
module _ (l : Laptop) (m : Memory) (w : WellFormed l m) where
  opened_formed : (at : Edition) (n : ℕ) (objects : List ℕ) → 3 ≤ n → n ≤ 6 → l.pages ≡ 0 → any_entered m.entered ≡ false →
      WellFormed (opened n at l)
      (memory (replicate 72 0) m.modes objects m.run m.held_svids m.held_modes m.held_identity m.held_run m.entered)
  opened_formed at n objects least most start none =
      record {
        lent =
            record {
              svids_size = length-replicate {A = ℕ} 72 0;
              modes_size = w.lent.modes_size;
              run_size = w.lent.run_size;
              held_run_size = w.lent.held_run_size;
            };
        held_fits = w.held_fits;
        candidate_fits = (
          record {
            extent_least = least;
            extent_most = most;
            count_fits = omega arith;
            list_sound = sound_nil;
            some_modes = λ i h. absurd (omega arith);
            few_modes = λ i h. absurd (omega arith);
          },
          omega (arith, start),
          refl,
        );
        wait_fits = tt;
        none_entered = λ a. none;
        sets_fit = w.sets_fit;
        entered_held = λ i p x. absurd (none_entered m.entered none i p x);
        mode_fits = tt;
      }

  identity_formed : (at : Edition) (kind n : ℕ) (objects : List ℕ) → (kind ≡ 1 → 3 ≤ n) → n ≤ 6 → l.pages ≡ 0 → any_entered m.entered ≡ false →
      WellFormed (with_opening m (hear_identity l at kind n objects m.svids m.identity)).step.laptop
      (with_opening m (hear_identity l at kind n objects m.svids m.identity)).after
  unfolding hear_identity
  identity_formed at kind n objects least most start none = go (eqb kind 1) refl
    where
      go : (t : Bool) → eqb kind 1 ≡ t →
          WellFormed (with_opening m (cond t (record { step = accepted_with ToldNothing (opened n (lower at ours) l); svids = replicate 72 0; identity = objects }) (record { step = accepted_with ToldNothing (dropped l); svids = m.svids; identity = m.identity }))).step.laptop
          (with_opening m (cond t (record { step = accepted_with ToldNothing (opened n (lower at ours) l); svids = replicate 72 0; identity = objects }) (record { step = accepted_with ToldNothing (dropped l); svids = m.svids; identity = m.identity }))).after
      go true e = opened_formed (lower at ours) n objects (least (eqb-true kind 1 e)) most start none
      go false e = dropped_formed l m w

  -- marks
  mark_most : (command position set : ℕ) → set ≤ 63 → marked_by command position set ≤ 63
  unfolding marked_by
  mark_most command position s h = go (eqb command 4)
    where
      go : (t : Bool) → cond t (bit_or s (named position)) (bit_and s (63 - named position)) ≤ 63
      go true = let less : bit_or s (named position) < 2 ^ 6 = or_lt 6 s (named position) (omega arith) (omega (arith, named_most position)) in omega arith
      go false = omega (arith, and_le_l s (63 - named position))

  set_most : (place mark : ℕ) → mark ≤ 63 → (i : ℕ) → get_or (set m.entered place mark) i 0 ≤ 63
  set_most place mark h i = go (eqb i place) (ltb place (length m.entered)) refl refl
    where
      go : (t u : Bool) → eqb i place ≡ t → ltb place (length m.entered) ≡ u → get_or (set m.entered place mark) i 0 ≤ 63
      go true true e k =
          let here = ap (λ (x : ℕ). get_or (set m.entered place mark) x 0) (eqb-true i place e) ∙ get_or-set_same m.entered place mark 0 (ltb-true place (length m.entered) k) in
          omega (arith, here)
      go true false e k =
          let past : get_or (set m.entered place mark) i 0 ≡ 0 =
          get_or-eq_default (set m.entered place mark) 0 (omega (arith, length-set m.entered place mark, eqb-true i place e, ltb-false place (length m.entered) k)) in
          omega (arith, past)
      go false u e k =
          let there = get_or-set_other m.entered place i mark 0 (eqb-false i place e) in omega (arith, there, w.sets_fit i)

  marks_most : (list : List ℕ) (svid command position : ℕ) (i : ℕ) → get_or (marks_after list m.entered svid command position) i 0 ≤ 63
  unfolding marks_after
  marks_most list svid command position i = go (ltb (place_of svid list) (length list))
    where
      go : (t : Bool) →
          get_or (cond t (set m.entered (place_of svid list) (marked_by command position (get_or m.entered (place_of svid list) 0))) m.entered) i 0 ≤ 63
      go true = set_most (place_of svid list) _ (mark_most command position _ (w.sets_fit (place_of svid list))) i
      go false = w.sets_fit i

  abbrev held : List ℕ
  held = held_list l.held m.held_svids

  marked_formed : l.candidate ≡ Absent → (marks : List ℕ) → ((i : ℕ) → get_or marks i 0 ≤ 63) →
      ((i p : ℕ) → Set (get_or marks i 0) p → (i < length held) × OneOf m.held_modes p i) →
      WellFormed (ended l) (memory m.svids m.modes m.identity m.run m.held_svids m.held_modes m.held_identity m.held_run marks)
  marked_formed e marks h on =
      record {
        lent =
            record {
              svids_size = w.lent.svids_size;
              modes_size = w.lent.modes_size;
              run_size = w.lent.run_size;
              held_run_size = w.lent.held_run_size;
            };
        held_fits = w.held_fits;
        candidate_fits = w.candidate_fits;
        wait_fits = tt;
        none_entered = λ a. absurd (false≢true (sym (ap (λ (c : Candidate). not (is_absent c) || false) e) ∙ a));
        sets_fit = h;
        entered_held = on;
        mode_fits = tt;
      }

  -- an awaited Enter names a held mode, so that it may be marked
  module _ (r : Request) (least : 4 ≤ r.command) (awaited : l.wait ≡ Some r) where
    enters : EnterFits r l m ⊎ ExitFits r l m → r.command ≡ 4 → (place_of r.svid held < length held) × OneOf m.held_modes r.position (place_of r.svid held)
    enters (inl f) e = there held r.svid (OneOf m.held_modes r.position) (f.1.0, f.1.1, f.1.2)
    enters (inr f) e = absurd (omega (arith, e, f.0))

    entered_at : r.command ≡ 4 → (place_of r.svid held < length held) × OneOf m.held_modes r.position (place_of r.svid held)
    entered_at = enters (subst (λ (x : Option Request). ModeFits x l m) awaited w.mode_fits least)

    marks_held : (i p : ℕ) → Set (get_or (marks_after held m.entered r.svid r.command r.position) i 0) p →
        (i < length held) × OneOf m.held_modes p i
    marks_held i p x =
        by
        (marks_before r.command r.position
        (λ e. ((entered_at e).1.0, omega (arith, (entered_at e).1.1, number_most m.held_modes (place_of r.svid held)))) held m.entered r.svid i p x)
      where
        by : Set (get_or m.entered i 0) p ⊎ ((i ≡ place_of r.svid held) × (place_of r.svid held < length held) × (r.command ≡ 4) × (p ≡ r.position)) →
            (i < length held) × OneOf m.held_modes p i
        by (inl y) = w.entered_held i p y
        by (inr y) = (
          omega (arith, y.0, y.1),
          subst (λ (q : ℕ). OneOf m.held_modes q i) (sym y.3)
              (subst (λ (j : ℕ). OneOf m.held_modes r.position j) (sym y.0) (entered_at y.2).1),
        )

    mode_formed : (kind : ℕ) → l.candidate ≡ Absent →
        WellFormed (with_marking m (hear_mode l kind r m.held_svids m.entered)).step.laptop
        (with_marking m (hear_mode l kind r m.held_svids m.entered)).after
    unfolding hear_mode
    mode_formed kind e = go (eqb kind 1) _ _
        (marked_formed e _ (λ i. marks_most held r.svid r.command r.position i) marks_held)
        (marked_formed e m.entered w.sets_fit w.entered_held)
      where
        go : (t : Bool) (a b : Marking) → WellFormed (with_marking m a).step.laptop (with_marking m a).after →
            WellFormed (with_marking m b).step.laptop (with_marking m b).after →
            WellFormed (with_marking m (cond t a b)).step.laptop (with_marking m (cond t a b)).after
        go true a b fa fb = fa
        go false a b fa fb = fb

  -- any message
  abbrev Formed : Result → Type 0
  Formed r = WellFormed r.step.laptop r.after

  formed_either : (t : Bool) (a b : Result) → (t ≡ true → Formed a) → (t ≡ false → Formed b) → Formed (cond t a b)
  formed_either true a b fa fb = fa refl
  formed_either false a b fa fb = fb refl

  open_none : l.candidate ≡ Open → any_entered m.entered ≡ false
  open_none e = w.none_entered (ap (λ (c : Candidate). not (is_absent c) || awaits_identity l.wait) e)

  done_none : l.candidate ≡ Done → any_entered m.entered ≡ false
  done_none e = w.none_entered (ap (λ (c : Candidate). not (is_absent c) || awaits_identity l.wait) e)

  asked_none : awaits_identity l.wait ≡ true → any_entered m.entered ≡ false
  asked_none e = w.none_entered (go (not (is_absent l.candidate)))
    where
      go : (t : Bool) → (t || awaits_identity l.wait) ≡ true
      go true = refl
      go false = e

  answer_formed : (at : Edition) (x : Message) → well_shaped x ≡ true → length x.objects ≤ 6 → fits l.wait x.head ≡ true → Formed (hear_answer l m at x)
  unfolding hear_answer
  answer_formed at x good few fit =
      formed_either (eqb x.head.command 1) _ _
      (λ e.
      let k = eqb-true x.head.command 1 e in
      let id = fits_identity l.pages l.stored m.svids l.wait l.candidate x.head w.wait_fits fit k in
      identity_formed at x.head.kind (length x.objects) (padded x.objects) (λ a. identity_least x good k a) few id.0 (asked_none id.1))
      (λ n1.
      formed_either (eqb x.head.command 2) _ _
      (λ e.
      let is = fits_svids l.pages l.stored m.svids l.wait l.candidate x.head w.wait_fits fit (eqb-true x.head.command 2 e) in
      svids_formed l m w (open_none is) is x.head.kind (halves x.objects))
      (λ n2.
      formed_either (eqb x.head.command 3) _ _
      (λ e.
      let k = eqb-true x.head.command 3 e in
      let is = fits_modes l.pages l.stored m.svids l.wait l.candidate x.head w.wait_fits fit k in
      modes_formed l m w (done_none is) is x.head.kind x.objects (λ a. modes_least x good k a) few)
      (λ n3.
      let is = fits_mode l.pages l.stored m.svids l.wait l.candidate x.head w.wait_fits fit (eqb-false _ 1 n1) (eqb-false _ 2 n2)
      (eqb-false _ 3 n3) in
      mode_formed (request_of x.head) is.0 (fits_is l.wait x.head fit) x.head.kind is.1)))

  step_either : (t : Bool) (a b : Step) → WellFormed a.laptop m → WellFormed b.laptop m → WellFormed (cond t a b).laptop m
  step_either true a b fa fb = fa
  step_either false a b fa fb = fb

  request_formed : (h : Head) (count object : ℕ) → WellFormed (hear_request l h count object).laptop m
  unfolding hear_request
  request_formed h count object = step_either (eqb h.command 6) _ _ w w

  unawaited_formed : (h : Head) → WellFormed (hear_unawaited l h).laptop m
  unfolding hear_unawaited
  unawaited_formed h = step_either (is_late_page l h) _ _ (dropped_formed l m w) w

  message_formed : (at : Edition) (x : Message) → well_shaped x ≡ true → length x.objects ≤ 6 → Formed (hear l m (accepted at x))
  unfolding hear
  message_formed at x good few =
      formed_either (eqb x.head.kind 0) _ _ (λ e. request_formed x.head _ _)
      (λ e. formed_either (fits l.wait x.head) _ _ (λ f. answer_formed at x good few f) (λ f. unawaited_formed x.head))

  refused_formed : (number : ℕ) → Formed (hear l m (refused number))
  unfolding hear
  refused_formed number = w

  outcome_formed : (bytes : List ℕ) (o : Outcome) → read_outcome bytes ≡ o → Formed (hear l m o)
  outcome_formed bytes (accepted at x) e = message_formed at x (read_shape bytes at x e) (read_count bytes at x e)
  outcome_formed bytes (refused number) e = refused_formed number

  pub message_keeps : (bytes : List ℕ) → Formed (heard l m (read_outcome bytes))
  unfolding heard
  message_keeps bytes =
      formed_either (short_runs (length m.run) (length m.held_run)) _ _ (λ e. w) (λ e. outcome_formed bytes (read_outcome bytes) refl)
