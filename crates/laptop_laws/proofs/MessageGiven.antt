-- The numbers of a message are given exactly when 01's lines say.
use mathlib.Core.Logic.{◌⊎◌, inl, inr}
use mathlib.Core.Path.{◌≡◌, refl, ap, sym, ◌∙◌, subst}
use mathlib.Core.Bool.{Bool, true, false, cond, ◌&&◌, false≢true}
use mathlib.Core.List.{List, [], ◌∷◌, ◌++◌}
use Prim.Native.Nat.{ℕ, ◌+◌, ◌/◌, ◌<◌, ◌≤◌}
use native.Mathlib.Omega.{arith}
use lib.Dec.{leb, ltb, eqb}
use lib.ListN.{length, take}
use borrow.Author.Tests.{eqb-true, eqb-false, leb-false}
use Rattle.messages.specs.Layout.{head_of, Message}
use Rattle.messages.specs.Reading.{accepted, refused, outcome, wrong_length, unstructured, wrong_major, wrong_shape, header_in, message_in, edition_in, read_refusal, read_outcome}
use Rattle.messages.specs.declared.Head.{Head}
use Rattle.messages.specs.declared.edition.Edition.{Edition}
use Rattle.messages.specs.declared.request.Request.{Request}
use Rattle.pages.specs.Pages.{halves}
use Rattle.taking.specs.Taking.{verdict}
use Rattle.taking.specs.declared.Verdict.{Verdict}
use Rattle.taking.specs.declared.Verdict.TheVariants.{Bad, Repeat, More, Ends}
use Rattle.gathering.specs.Gathering.{Opening, Gathering, hear_identity, unless_last, take_as, take_page, none_gathered, hear_svids}
use Rattle.hearing.specs.Answers.{Storing, Marking, store_modes, hear_modes, hear_mode}
use Rattle.hearing.specs.Hearing.{Result, hear_request, fits, is_late_page, hear_unawaited, published_if_whole, publishing, hear_answer, hear, heard}
use Rattle.laptop.specs.Calls.{short_runs}
use Rattle.laptop.specs.State.{Memory, is_open, gathered_list, with_pages, counted}
use Rattle.laptop.specs.declared.Candidate.{Candidate}
use Rattle.laptop.specs.declared.Candidate.TheVariants.{Absent, Open, Done}
use Rattle.laptop.specs.declared.Laptop.{Laptop}
use Rattle.laptop.specs.declared.Size.{Size}
use Rattle.laptop.specs.Step.{Step}
use Rattle.std.specs.Prelude.{Option, Some, None}
use Rattle.laptop_laws.specs.Given.{Line, ◌when◌, First, ShortRun, reading_lines, FitsAwaited, NotAwaited, IsPage, BringsBadPage, VoidingNak, ModesPastTheLast, NoEnd, heard_lines}
use Rattle.laptop_laws.proofs.First.{Tells, tells, tells_and, tells_eqb, tells_leb, tells_ltb, Numbered, first_behind}
use Rattle.laptop_laws.proofs.Leaves.{whole_refusal}
use Rattle.laptop_laws.proofs.OwnerGiven.{tells_short}

-- reading: 1, 2, 3, 5
module _ (bytes : List ℕ) where
  reading_first : First (reading_lines bytes) (read_refusal bytes)
  unfolding read_refusal
  reading_first = by (wrong_length (length bytes)) (unstructured (header_in bytes)) (wrong_major (header_in bytes)) (wrong_shape (header_in bytes) (length bytes / 4))
    where
      by : (a b c d : Bool) →
          First (1 when (a ≡ true) ∷ 2 when (b ≡ true) ∷ 3 when (c ≡ true) ∷ 5 when (d ≡ true) ∷ [])
          (cond a 1 (cond b 2 (cond c 3 (cond d 5 0))))
      by true b c d = inl (refl, refl)
      by false true c d = inr (false≢true, inl (refl, refl))
      by false false true d = inr (false≢true, inr (false≢true, inl (refl, refl)))
      by false false false true = inr (false≢true, inr (false≢true, inr (false≢true, inl (refl, refl))))
      by false false false false = inr (false≢true, inr (false≢true, inr (false≢true, inr (false≢true, refl))))

  reading_numbered : Numbered (reading_lines bytes)
  reading_numbered = omega arith

  pub four_kinds : (message_in bytes).head.kind < 4
  unfolding message_in head_of
  four_kinds = omega arith

-- what is awaited
pub tells_fits : (w : Option Request) (h : Head) → Tells (fits w h) (FitsAwaited w h)
tells_fits None h = λ x. x
tells_fits (Some r) h =
    go (eqb r.svid h.svid) (eqb r.command h.command) (eqb r.position h.position) (tells_eqb r.svid h.svid)
    (tells_eqb r.command h.command) (tells_eqb r.position h.position)
  where
    go : (a b c : Bool) → Tells a (r.svid ≡ h.svid) → Tells b (r.command ≡ h.command) → Tells c (r.position ≡ h.position) →
        Tells (a && (b && c)) (FitsAwaited (Some r) h)
    go true true true ha hb hc = (ha, hb, hc)
    go true true false ha hb hc = λ x. hc x.2
    go true false c ha hb hc = λ x. hb x.1
    go false b c ha hb hc = λ x. ha x.0

-- publishing refuses nothing
publishing_refusal : (kind : ℕ) (r : Result) → (publishing kind r).step.refusal ≡ r.step.refusal
unfolding publishing
publishing_refusal kind r = go (eqb kind 3)
  where
    go : (t : Bool) → (cond t r (published_if_whole r)).step.refusal ≡ r.step.refusal
    go true = refl
    go false = whole_refusal r.step

-- answers that are never refused
module _ (l : Laptop) where
  pub identity_number : (at : Edition) (kind n : ℕ) (objects svids identity : List ℕ) → (hear_identity l at kind n objects svids identity).step.refusal ≡ 0
  unfolding hear_identity
  identity_number at kind n objects svids identity = go (eqb kind 1) _ _ refl refl
    where
      go : (t : Bool) (a b : Opening) → a.step.refusal ≡ 0 → b.step.refusal ≡ 0 → (cond t a b).step.refusal ≡ 0
      go true a b ea eb = ea
      go false a b ea eb = eb

  pub mode_number : (kind : ℕ) (r : Request) (svids entered : List ℕ) → (hear_mode l kind r svids entered).step.refusal ≡ 0
  unfolding hear_mode
  mode_number kind r svids entered = go (eqb kind 1) _ _ refl refl
    where
      go : (t : Bool) (a b : Marking) → a.step.refusal ≡ 0 → b.step.refusal ≡ 0 → (cond t a b).step.refusal ≡ 0
      go true a b ea eb = ea
      go false a b ea eb = eb

-- a page: what it is to the gathered list, and how many came
module _ (l : Laptop) where
  pub counted_same : ((counted l).candidate ≡ l.candidate) × ((counted l).gathered ≡ l.gathered) × ((counted l).stored ≡ l.stored)
  unfolding counted
  counted_same = go (ltb l.pages 255)
    where
      go : (t : Bool) →
          ((cond t (with_pages (l.pages + 1) l) l).candidate ≡ l.candidate) × ((cond t (with_pages (l.pages + 1) l) l).gathered ≡ l.gathered) ×
          ((cond t (with_pages (l.pages + 1) l) l).stored ≡ l.stored)
      go true = (refl, refl, refl)
      go false = (refl, refl, refl)

  pub tells_counted : Tells (leb 200 (counted l).pages) (200 ≤ l.pages + 1)
  unfolding counted
  tells_counted = go (ltb l.pages 255) (tells_ltb l.pages 255)
    where
      go : (t : Bool) → Tells t (l.pages < 255) → Tells (leb 200 (cond t (with_pages (l.pages + 1) l) l).pages) (200 ≤ l.pages + 1)
      go true h = tells_leb 200 (l.pages + 1)
      go false h = tells (leb 200 l.pages) _ (λ e. omega (arith, h)) (λ e x. omega (arith, h, leb-false 200 l.pages e))

-- the number of a page by what it is, where the test asks for the two hundredth
abbrev by_verdict : Bool → Verdict → ℕ
by_verdict t Bad = 8
by_verdict t Repeat = cond t 14 0
by_verdict t More = cond t 14 0
by_verdict t (Ends k) = 0

last_number : (x : Laptop) (svids : List ℕ) (g : Gathering) → (unless_last x svids g).step.refusal ≡ cond (leb 200 x.pages) 14 g.step.refusal
unfolding unless_last
last_number x svids g = go (leb 200 x.pages) _ refl
  where
    go : (t : Bool) (a : Gathering) → a.step.refusal ≡ 14 → (cond t a g).step.refusal ≡ cond t 14 g.step.refusal
    go true a e = e
    go false a e = refl

taken_number : (x : Laptop) (svids values : List ℕ) (n : ℕ) (v : Verdict) → (take_as x svids values n v).step.refusal ≡ by_verdict (leb 200 x.pages) v
unfolding take_as
taken_number x svids values n Bad = refl
taken_number x svids values n Repeat = last_number x svids _
taken_number x svids values n More = last_number x svids _
taken_number x svids values n (Ends k) = refl

page_number : (l : Laptop) (svids values : List ℕ) →
    (take_page (counted l) svids values).step.refusal ≡ by_verdict (leb 200 (counted l).pages) (verdict (gathered_list l svids) values)
unfolding take_page
page_number l svids values =
    taken_number (counted l) svids values _ _ ∙
    ap (λ (g : Size). by_verdict (leb 200 (counted l).pages) (verdict (take g.count svids) values)) (counted_same l).1

-- what a page is, it is only
abbrev pub tag : Verdict → ℕ
tag Bad = 0
tag Repeat = 1
tag More = 2
tag (Ends k) = 3

pub not_both : (v w : Verdict) (judged : Verdict) → judged ≡ v → (tag v ≡ tag w → ⊥) → judged ≡ w → ⊥
not_both v w judged e n f = n (ap tag (sym e ∙ f))

-- 8 and 14
module _ (l : Laptop) (m : Memory) (x : Message) where
  abbrev judged : Verdict
  judged = verdict (gathered_list l m.svids) (halves x.objects)

  abbrev Void : Type 0
  Void = BringsBadPage l m x ⊎ (VoidingNak l x.head ⊎ ModesPastTheLast l x.head)

  abbrev answer_lines : List Line
  answer_lines = 8 when Void ∷ 14 when NoEnd l m x ∷ []

  void_by : (BringsBadPage l m x → ⊥) → (VoidingNak l x.head → ⊥) → (ModesPastTheLast l x.head → ⊥) → Void → ⊥
  void_by a b c (inl v) = a v
  void_by a b c (inr (inl v)) = b v
  void_by a b c (inr (inr v)) = c v

  -- an answer of another kind, or to another command
  neither : (IsPage x.head → ⊥) → (VoidingNak l x.head → ⊥) → (ModesPastTheLast l x.head → ⊥) → First answer_lines 0
  neither page nak past = inr (void_by (λ v. page v.0) nak past, inr (λ v. page v.0, refl))

  module _ (page : IsPage x.head) where
    not_void : (judged ≡ Bad → ⊥) → Void → ⊥
    not_void good = void_by (λ v. good v.1) (λ v. omega (arith, v.0, page.1)) (λ v. omega (arith, v.0, page.0))

    more_first : (t : Bool) → Tells t (200 ≤ l.pages + 1) → ((k : ℕ) → judged ≡ Ends k → ⊥) → (judged ≡ Bad → ⊥) → First answer_lines (cond t 14 0)
    more_first true h none good = inr (not_void good, inl ((page, none, h), refl))
    more_first false h none good = inr (not_void good, inr (λ v. h v.2, refl))

    judged_first : (v : Verdict) → judged ≡ v → First answer_lines (by_verdict (leb 200 (counted l).pages) v)
    judged_first Bad e = inl (inl (page, e), refl)
    judged_first Repeat e = more_first (leb 200 (counted l).pages) (tells_counted l) (λ k. not_both Repeat (Ends k) judged e (λ z. omega arith))
        (not_both Repeat Bad judged e (λ z. omega arith))
    judged_first More e = more_first (leb 200 (counted l).pages) (tells_counted l) (λ k. not_both More (Ends k) judged e (λ z. omega arith))
        (not_both More Bad judged e (λ z. omega arith))
    judged_first (Ends k) e = inr (not_void (not_both (Ends k) Bad judged e (λ z. omega arith)), inr (λ v. v.1 k e, refl))

    page_first : First answer_lines (take_page (counted l) m.svids (halves x.objects)).step.refusal
    page_first = subst (First answer_lines) (sym (page_number l m.svids (halves x.objects))) (judged_first judged refl)

  -- SVIDs
  svids_number : (kind : ℕ) (values : List ℕ) →
      (hear_svids l kind values m.svids).step.refusal ≡
      cond (eqb kind 1) (take_page (counted l) m.svids values).step.refusal (cond (eqb kind 3) 0 (cond (none_gathered l) 0 8))
  unfolding hear_svids
  svids_number kind values = go (eqb kind 1) (eqb kind 3) (none_gathered l) _ _ _ _ refl refl refl
    where
      go : (a b c : Bool) (p q r s : Gathering) → q.step.refusal ≡ 0 → r.step.refusal ≡ 0 → s.step.refusal ≡ 8 →
          (cond a p (cond b q (cond c r s))).step.refusal ≡ cond a p.step.refusal (cond b 0 (cond c 0 8))
      go true b c p q r s eq er es = refl
      go false true c p q r s eq er es = eq
      go false false true p q r s eq er es = er
      go false false false p q r s eq er es = es

  pub tells_none : Tells (none_gathered l) ((l.candidate ≡ Open) × (l.gathered.count ≡ 0))
  unfolding none_gathered
  tells_none = tells_and (is_open l.candidate) (eqb l.gathered.count 0) _ _ (go l.candidate) (tells_eqb l.gathered.count 0)
    where
      go : (c : Candidate) → Tells (is_open c) (c ≡ Open)
      go Absent = λ e. false≢true (ap is_open e)
      go Open = refl
      go Done = λ e. false≢true (ap is_open e)

  module _ (kinds : x.head.kind < 4) (answers : x.head.kind ≡ 0 → ⊥) where
    pub is_nak : (x.head.kind ≡ 1 → ⊥) → (x.head.kind ≡ 3 → ⊥) → x.head.kind ≡ 2
    is_nak a b = omega (arith, kinds, answers, a, b)

    svids_first : x.head.command ≡ 2 → First answer_lines (hear_svids l x.head.kind (halves x.objects) m.svids).step.refusal
    svids_first e =
        subst (First answer_lines) (sym (svids_number x.head.kind (halves x.objects)))
        (go (eqb x.head.kind 1) (eqb x.head.kind 3) (none_gathered l) (tells_eqb x.head.kind 1) (tells_eqb x.head.kind 3) tells_none)
      where
        go : (a b c : Bool) → Tells a (x.head.kind ≡ 1) → Tells b (x.head.kind ≡ 3) →
            Tells c ((l.candidate ≡ Open) × (l.gathered.count ≡ 0)) →
            First answer_lines (cond a (take_page (counted l) m.svids (halves x.objects)).step.refusal (cond b 0 (cond c 0 8)))
        go true b c ha hb hc = page_first (e, ha)
        go false true c ha hb hc = neither (λ v. ha v.1) (λ v. omega (arith, v.0, hb)) (λ v. ha v.1)
        go false false true ha hb hc = neither (λ v. ha v.1) (λ v. voided v) (λ v. ha v.1)
          where
            voided : VoidingNak l x.head → ⊥
            voided v = by v.1
              where
                by : ((x.head.command ≡ 2) × ((l.candidate ≡ Open) × (l.gathered.count ≡ 0) → ⊥)) ⊎ (x.head.command ≡ 3) → ⊥
                by (inl s) = s.1 hc
                by (inr s) = omega (arith, s, e)
        go false false false ha hb hc = inl (inr (inl (is_nak ha hb, inl (e, hc))), refl)

  -- Modes
  modes_number : (kind : ℕ) (words : List ℕ) →
      (hear_modes l kind words m.modes m.run).step.refusal ≡ cond (eqb kind 3) 0 (cond (eqb kind 1) (cond (ltb l.stored 72) 0 8) 8)
  unfolding hear_modes store_modes
  modes_number kind words = go (eqb kind 3) (eqb kind 1) (ltb l.stored 72) _ _ _ _ refl refl refl refl
    where
      go : (a b c : Bool) (p q r s : Storing) → p.step.refusal ≡ 0 → q.step.refusal ≡ 0 → r.step.refusal ≡ 8 → s.step.refusal ≡ 8 →
          (cond a p (cond b (cond c q r) s)).step.refusal ≡ cond a 0 (cond b (cond c 0 8) 8)
      go true b c p q r s ep eq er es = ep
      go false true true p q r s ep eq er es = eq
      go false true false p q r s ep eq er es = er
      go false false c p q r s ep eq er es = es

  module _ (kinds : x.head.kind < 4) (answers : x.head.kind ≡ 0 → ⊥) where
    modes_first : x.head.command ≡ 3 → First answer_lines (hear_modes l x.head.kind x.objects m.modes m.run).step.refusal
    modes_first e =
        subst (First answer_lines) (sym (modes_number x.head.kind x.objects))
        (go (eqb x.head.kind 3) (eqb x.head.kind 1) (ltb l.stored 72) (tells_eqb x.head.kind 3) (tells_eqb x.head.kind 1)
        (tells_ltb l.stored 72))
      where
        page : IsPage x.head → ⊥
        page v = omega (arith, v.0, e)

        go : (a b c : Bool) → Tells a (x.head.kind ≡ 3) → Tells b (x.head.kind ≡ 1) → Tells c (l.stored < 72) →
            First answer_lines (cond a 0 (cond b (cond c 0 8) 8))
        go true b c ha hb hc = neither page (λ v. omega (arith, v.0, ha)) (λ v. omega (arith, v.1, ha))
        go false true true ha hb hc = neither page (λ v. omega (arith, v.0, hb)) (λ v. omega (arith, v.2, hc))
        go false true false ha hb hc = inl (inr (inr (e, hb, omega (arith, hc))), refl)
        go false false c ha hb hc = inl (inr (inl (is_nak kinds answers hb ha, inr e)), refl)

    -- any answer
    either : (t : Bool) (a b : Result) → (t ≡ true → First answer_lines a.step.refusal) → (t ≡ false → First answer_lines b.step.refusal) →
        First answer_lines (cond t a b).step.refusal
    either true a b fa fb = fa refl
    either false a b fa fb = fb refl

    answer_first : (at : Edition) → First answer_lines (hear_answer l m at x).step.refusal
    unfolding hear_answer
    answer_first at =
        either (eqb x.head.command 1) _ _
        (λ e.
        let first = eqb-true x.head.command 1 e in
        passed (identity_number l at x.head.kind _ _ _ _) (λ v. omega (arith, v, first)) (λ v. omega (arith, v, first)))
        (λ n.
        either (eqb x.head.command 2) _ _
        (λ e.
        subst (First answer_lines) (sym (publishing_refusal x.head.kind _)) (svids_first kinds answers (eqb-true x.head.command 2 e)))
        (λ s.
        either (eqb x.head.command 3) _ _
        (λ e. subst (First answer_lines) (sym (publishing_refusal x.head.kind _)) (modes_first (eqb-true x.head.command 3 e)))
        (λ o. passed (mode_number l x.head.kind _ _ _) (eqb-false x.head.command 2 s) (eqb-false x.head.command 3 o))))
      where
        passed : {n : ℕ} → n ≡ 0 → (x.head.command ≡ 2 → ⊥) → (x.head.command ≡ 3 → ⊥) → First answer_lines n
        passed e s o = subst (First answer_lines) (sym e) (neither (λ v. s v.0) (λ v. other v.1) (λ v. o v.0))
          where
            other : ((x.head.command ≡ 2) × ((l.candidate ≡ Open) × (l.gathered.count ≡ 0) → ⊥)) ⊎ (x.head.command ≡ 3) → ⊥
            other (inl v) = s v.0
            other (inr v) = o v

-- any message that was read
module _ (l : Laptop) (m : Memory) (x : Message) (kinds : x.head.kind < 4) where
  request_number : (count object : ℕ) → (hear_request l x.head count object).refusal ≡ cond (eqb x.head.command 6) 0 6
  unfolding hear_request
  request_number count object = go (eqb x.head.command 6) _ _ refl refl
    where
      go : (t : Bool) (a b : Step) → a.refusal ≡ 0 → b.refusal ≡ 6 → (cond t a b).refusal ≡ cond t 0 6
      go true a b ea eb = ea
      go false a b ea eb = eb

  unawaited_number : (hear_unawaited l x.head).refusal ≡ 6
  unfolding hear_unawaited
  unawaited_number = go (is_late_page l x.head) _ _ refl refl
    where
      go : (t : Bool) (a b : Step) → a.refusal ≡ 6 → b.refusal ≡ 6 → (cond t a b).refusal ≡ 6
      go true a b ea eb = ea
      go false a b ea eb = eb

  request_first : x.head.kind ≡ 0 → (t : Bool) → Tells t (x.head.command ≡ 6) → First (heard_lines l m x) (cond t 0 6)
  request_first e true h = inr (quiet, neither l m x (λ v. omega (arith, v.1, e)) (λ v. omega (arith, v.0, e)) (λ v. omega (arith, v.1, e)))
    where
      quiet : NotAwaited l x.head → ⊥
      quiet (inl v) = v.1 h
      quiet (inr v) = v.0 e
  request_first e false h = inl (inl (e, h), refl)

  hear_first : (at : Edition) → First (heard_lines l m x) (hear l m (accepted at x)).step.refusal
  unfolding hear
  hear_first at = go (eqb x.head.kind 0) (fits l.wait x.head) _ _ _ (tells_eqb x.head.kind 0) (tells_fits l.wait x.head)
      (request_number _ _) (λ n. answer_first l m x kinds n at) unawaited_number
    where
      go : (a b : Bool) (p q r : Result) → Tells a (x.head.kind ≡ 0) → Tells b (FitsAwaited l.wait x.head) →
          p.step.refusal ≡ cond (eqb x.head.command 6) 0 6 → ((x.head.kind ≡ 0 → ⊥) → First (answer_lines l m x) q.step.refusal) →
          r.step.refusal ≡ 6 → First (heard_lines l m x) (cond a p (cond b q r)).step.refusal
      go true b p q r ha hb ep fq er =
          subst (First (heard_lines l m x)) (sym ep) (request_first ha (eqb x.head.command 6) (tells_eqb x.head.command 6))
      go false true p q r ha hb ep fq er = inr (awaited, fq ha)
        where
          awaited : NotAwaited l x.head → ⊥
          awaited (inl v) = ha v.0
          awaited (inr v) = v.1 hb
      go false false p q r ha hb ep fq er = inl (inr (ha, hb), er)

-- any bytes
module _ (l : Laptop) (m : Memory) (bytes : List ℕ) where
  outcome_number : (n : ℕ) (at : Edition) (x : Message) → (hear l m (outcome n at x)).step.refusal ≡ cond (eqb n 0) (hear l m (accepted at x)).step.refusal n
  unfolding outcome hear
  outcome_number n at x = go (eqb n 0)
    where
      go : (t : Bool) → (hear l m (cond t (accepted at x) (refused n))).step.refusal ≡ cond t (hear l m (accepted at x)).step.refusal n
      go true = refl
      go false = refl

  read_first : First (reading_lines bytes ++ heard_lines l m (message_in bytes)) (hear l m (read_outcome bytes)).step.refusal
  unfolding read_outcome
  read_first =
      subst (First (reading_lines bytes ++ heard_lines l m (message_in bytes))) (sym (outcome_number (read_refusal bytes) (edition_in bytes) (message_in bytes)))
      (first_behind (reading_lines bytes) (heard_lines l m (message_in bytes)) (read_refusal bytes) _ (reading_numbered bytes) (reading_first bytes)
      (λ z. hear_first l m (message_in bytes) (four_kinds bytes) (edition_in bytes)))

  pub message_given : First (11 when ShortRun m ∷ reading_lines bytes ++ heard_lines l m (message_in bytes)) (heard l m (read_outcome bytes)).step.refusal
  unfolding heard
  message_given =
      go (short_runs (length m.run) (length m.held_run)) (tells_short (length m.run) (length m.held_run)) _ refl
    where
      go : (t : Bool) → Tells t (ShortRun m) → (p : Result) → p.step.refusal ≡ 11 →
          First (11 when ShortRun m ∷ reading_lines bytes ++ heard_lines l m (message_in bytes)) (cond t p (hear l m (read_outcome bytes))).step.refusal
      go true h p e = inl (h, e)
      go false h p e = inr (h, read_first)
