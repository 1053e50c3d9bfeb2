-- A refusal leaves the state that the paper says, whatever the call.
use mathlib.Core.Path.{◌≡◌, refl, ap, sym, ◌∙◌, subst}
use mathlib.Core.Bool.{Bool, true, false, cond, ◌&&◌}
use mathlib.Core.List.{List}
use Prim.Native.Nat.{ℕ, ◌/◌}
use native.Mathlib.Omega.{arith}
use lib.Dec.{leb, ltb, eqb}
use lib.ListN.{length}
use borrow.Author.Tests.{ne_eqb, eqb-true}
use Rattle.messages.specs.Layout.{Message, message_length}
use Rattle.messages.specs.Reading.{accepted, refused, outcome, wrong_length, unstructured, wrong_major, wrong_shape, header_in, message_in, edition_in, read_refusal, read_outcome}
use Rattle.messages.specs.Writing.{write_refusal}
use Rattle.messages.specs.declared.edition.Edition.{Edition}
use Rattle.messages.specs.declared.request.Request.{Request}
use Rattle.pages.specs.Pages.{halves}
use Rattle.taking.specs.declared.Verdict.{Verdict}
use Rattle.taking.specs.declared.Verdict.TheVariants.{Bad, Repeat, More, Ends}
use Rattle.gathering.specs.Gathering.{Gathering, unless_last, take_as, take_page, none_gathered, hear_svids}
use Rattle.hearing.specs.Answers.{Storing, store_modes, hear_modes, is_whole}
use Rattle.laptop.specs.Calls.{Decision, refuses, accepts, sends, refused_by, sent_by, step_of, unless, short_runs}
use Rattle.hearing.specs.Hearing.{Result, is_idle, hear_request, fits, is_late_page, hear_unawaited, step_if_whole, published_if_whole, publishing, hear_answer, hear, heard}
use Rattle.owner.specs.Owner.{asks_next, decide_next, decide_start_over, decide_drop, decide_enter, decide_exit}
use Rattle.laptop.specs.State.{is_open, Memory, dropped, counted}
use Rattle.timers.specs.Timers.{over, decide_timer, decide_error}
use Rattle.laptop.specs.declared.Candidate.{Candidate}
use Rattle.laptop.specs.declared.Candidate.TheVariants.{Absent, Open, Done}
use Rattle.laptop.specs.declared.Laptop.{Laptop}
use Rattle.laptop.specs.Step.{Step}
use Rattle.laptop.specs.declared.Told.{Told}
use Rattle.laptop.specs.declared.Told.TheVariants.{Timer, ProtocolError}
use Rattle.std.specs.Prelude.{Option, Some, None}
use Rattle.laptop_laws.specs.Effects.{Call, message, next, start_over, drop, enter, exit, timer, protocol_error, effect_of}
use Rattle.laptop_laws.specs.Given.{lines}
use Rattle.laptop_laws.specs.Refusing.{brings_page, left_by, RefusedAs}
use Rattle.laptop_laws.proofs.First.{Without}
use Rattle.laptop_laws.proofs.Given.{never_without}
use Rattle.laptop_laws.proofs.Leaves.{whole_refusal}
use Rattle.laptop_laws.proofs.MessageGiven.{identity_number, mode_number}

-- a call that is no message: its decision refuses only with the state as it was
module _ (l : Laptop) where
  abbrev Alone : Decision → Type 0
  Alone (refuses number after) = after ≡ l
  Alone (accepts told after) = Unit
  Alone (sends m after) = Unit

  either : (t : Bool) (a b : Decision) → Alone a → Alone b → Alone (cond t a b)
  either true a b fa fb = fa
  either false a b fa fb = fb

  unless_alone : (number : ℕ) (d : Decision) → Alone d → Alone (unless number l d)
  unfolding unless
  unless_alone number d f = either (eqb number 0) d _ f refl

  next_alone : (svids : List ℕ) (c : Candidate) → Alone (asks_next l svids c)
  unfolding asks_next
  next_alone svids Absent = tt
  next_alone svids Open = tt
  next_alone svids Done = tt

  over_alone : (r : Request) (told : Told) → Alone (over l r told)
  unfolding over
  over_alone r told = either (eqb r.command 1) _ _ tt (either (ltb r.command 4) _ _ tt tt)

  timer_alone : (first last : ℕ) (w : Option Request) → Alone (decide_timer first last l w)
  unfolding decide_timer
  timer_alone first last None = refl
  timer_alone first last (Some r) = either (leb first r.command && leb r.command last) _ _ (over_alone r (Timer r)) refl

  error_alone : (w : Option Request) → Alone (decide_error l w)
  unfolding decide_error
  error_alone None = refl
  error_alone (Some r) = over_alone r (ProtocolError r)

  step_alone : (d : Decision) → Alone d → (room : ℕ) → ((step_of l d room).refusal ≡ 0 → ⊥) → step_of l d room ≡ refused_by (step_of l d room).refusal l
  unfolding step_of
  step_alone (refuses number after) f room n = ap (refused_by number) f
  step_alone (accepts told after) f room n = absurd (n refl)
  step_alone (sends m after) f room n = go (eqb (write_refusal m room) 0) n
    where
      go : (t : Bool) → ((cond t (sent_by (message_length m) after) (refused_by (write_refusal m room) l)).refusal ≡ 0 → ⊥) →
          ◌≡◌ {A = Step} (cond t (sent_by (message_length m) after) (refused_by (write_refusal m room) l))
          (refused_by (cond t (sent_by (message_length m) after) (refused_by (write_refusal m room) l)).refusal l)
      go true k = absurd (k refl)
      go false k = refl

-- 8 and 14 are no numbers of such a call
alone_left : (c : Call) (l : Laptop) (number : ℕ) → brings_page c ≡ false → (number ≡ 8 → ⊥) → (number ≡ 14 → ⊥) → left_by number c l ≡ l
alone_left c l number p a b = rw (ne_eqb number 8 a, ne_eqb number 14 b, p) (go (eqb number 6) (is_idle l.wait) (is_open l.candidate))
  where
    go : (x y z : Bool) → cond (x && (y && (z && false))) (dropped l) l ≡ l
    go true true true = refl
    go true true false = refl
    go true false z = refl
    go false y z = refl

-- a message
module _ (l : Laptop) (bytes : List ℕ) where
  abbrev So : Step → Type 0
  So s = RefusedAs (message bytes) l s

  so_taken : (s : Step) → s.refusal ≡ 0 → So s
  so_taken s e n = absurd (n e)

  -- a page or modes, before anything is published: what is refused leaves no candidate
  abbrev Drops : Step → Type 0
  Drops s = (s.refusal ≡ 0 → ⊥) → (s ≡ refused_by s.refusal (left_by s.refusal (message bytes) l)) × (is_whole s.laptop ≡ false)

  passed : (s : Step) → s.refusal ≡ 0 → Drops s
  passed s e n = absurd (n e)

  -- a bad page and the two hundredth are counted, what is no page is not
  page_drops : brings_page (message bytes) ≡ true → (Drops (refused_by 8 (dropped (counted l)))) × (Drops (refused_by 14 (dropped (counted l))))
  unfolding is_whole
  page_drops e = (
    λ n. (ap (λ (t : Bool). refused_by 8 (dropped (cond t (counted l) l))) (sym e), refl),
    λ n. (ap (λ (t : Bool). refused_by 14 (dropped (cond t (counted l) l))) (sym e), refl),
  )

  void_drops : brings_page (message bytes) ≡ false → Drops (refused_by 8 (dropped l))
  unfolding is_whole
  void_drops e n = (ap (λ (t : Bool). refused_by 8 (dropped (cond t (counted l) l))) (sym e), refl)

  not_whole : (s : Step) → is_whole s.laptop ≡ false → step_if_whole s ≡ s
  unfolding step_if_whole
  not_whole s e = rw e

  whole_so : (s : Step) → Drops s → So (step_if_whole s)
  whole_so s f n =
      let d = f (λ z. n (whole_refusal s ∙ z)) in
      subst (λ (x : Step). x ≡ refused_by x.refusal (left_by x.refusal (message bytes) l)) (sym (not_whole s d.1)) d.0

  publishing_so : (kind : ℕ) (r : Result) → Drops r.step → So (publishing kind r).step
  unfolding publishing
  publishing_so kind r f = go (eqb kind 3)
    where
      go : (t : Bool) → So (cond t r (published_if_whole r)).step
      go true = λ n. (f n).0
      go false = whole_so r.step f

  page_either : (t : Bool) (a b : Gathering) → (t ≡ true → Drops a.step) → (t ≡ false → Drops b.step) → Drops (cond t a b).step
  page_either true a b fa fb = fa refl
  page_either false a b fa fb = fb refl

  module _ (page : brings_page (message bytes) ≡ true) where
    last_drops : (svids : List ℕ) (g : Gathering) → Drops g.step → Drops (unless_last (counted l) svids g).step
    unfolding unless_last
    last_drops svids g f = page_either (leb 200 (counted l).pages) _ g (λ e. (page_drops page).1) (λ e. f)

    taken_drops : (svids values : List ℕ) (n : ℕ) (v : Verdict) → Drops (take_as (counted l) svids values n v).step
    unfolding take_as
    taken_drops svids values n Bad = (page_drops page).0
    taken_drops svids values n Repeat = last_drops svids _ (passed _ refl)
    taken_drops svids values n More = last_drops svids _ (passed _ refl)
    taken_drops svids values n (Ends k) = passed _ refl

  abbrev x : Message
  x = message_in bytes

  -- what a page is told by
  is_page : eqb x.head.command 2 ≡ true → eqb x.head.kind 1 ≡ true → brings_page (message bytes) ≡ true
  is_page e f = rw (e, f)

  other_command : eqb x.head.command 2 ≡ false → brings_page (message bytes) ≡ false
  other_command e = rw e

  other_kind : eqb x.head.kind 1 ≡ false → brings_page (message bytes) ≡ false
  other_kind e = rw e (go (eqb x.head.command 2))
    where
      go : (t : Bool) → (t && false) ≡ false
      go true = refl
      go false = refl

  svids_drops : eqb x.head.command 2 ≡ true → (values svids : List ℕ) → Drops (hear_svids l x.head.kind values svids).step
  unfolding hear_svids take_page
  svids_drops e values svids =
      page_either (eqb x.head.kind 1) _ _ (λ a. taken_drops (is_page e a) svids values _ _)
      (λ a.
      page_either (eqb x.head.kind 3) _ _ (λ b. passed _ refl)
      (λ b. page_either (none_gathered l) _ _ (λ z. passed _ refl) (λ z. void_drops (other_kind a))))

  store_either : (t : Bool) (a b : Storing) → Drops a.step → Drops b.step → Drops (cond t a b).step
  store_either true a b fa fb = fa
  store_either false a b fa fb = fb

  modes_drop : eqb x.head.command 2 ≡ false → (words modes run : List ℕ) → Drops (hear_modes l x.head.kind words modes run).step
  unfolding hear_modes store_modes
  modes_drop e words modes run =
      store_either (eqb x.head.kind 3) _ _ (passed _ refl)
      (store_either (eqb x.head.kind 1) _ _ (store_either (ltb l.stored 72) _ _ (passed _ refl) (void_drops (other_command e)))
      (void_drops (other_command e)))

  result_either : (t : Bool) (a b : Result) → (t ≡ true → So a.step) → (t ≡ false → So b.step) → So (cond t a b).step
  result_either true a b fa fb = fa refl
  result_either false a b fa fb = fb refl

  answer_so : (m : Memory) (at : Edition) → So (hear_answer l m at x).step
  unfolding hear_answer
  answer_so m at =
      result_either (eqb x.head.command 1) _ _ (λ e. so_taken _ (identity_number l at x.head.kind _ _ _ _))
      (λ e.
      result_either (eqb x.head.command 2) _ _ (λ f. publishing_so x.head.kind _ (svids_drops f (halves x.objects) m.svids))
      (λ f.
      result_either (eqb x.head.command 3) _ _ (λ g. publishing_so x.head.kind _ (modes_drop f x.objects m.modes m.run))
      (λ g. so_taken _ (mode_number l x.head.kind _ _ _))))

  -- 6: a late page, or another answer that is not awaited; another REQ
  step_either : (t : Bool) (a b : Step) → (t ≡ true → So a) → (t ≡ false → So b) → So (cond t a b)
  step_either true a b fa fb = fa refl
  step_either false a b fa fb = fb refl

  unawaited_so : So (hear_unawaited l x.head)
  unfolding hear_unawaited is_late_page
  unawaited_so =
      step_either (is_late_page l x.head) _ _ (λ e n. ap (λ (t : Bool). refused_by 6 (cond t (dropped l) l)) (sym e))
      (λ e n. ap (λ (t : Bool). refused_by 6 (cond t (dropped l) l)) (sym e))

  request_so : eqb x.head.kind 1 ≡ false → (count object : ℕ) → So (hear_request l x.head count object)
  unfolding hear_request
  request_so k count object =
      step_either (eqb x.head.command 6) _ _ (λ e. so_taken _ refl)
      (λ e n. ap (refused_by 6) (sym (go (is_idle l.wait) (is_open l.candidate) (brings_page (message bytes)) (other_kind k))))
    where
      go : (a b p : Bool) → p ≡ false → cond (a && (b && p)) (dropped l) l ≡ l
      go true true p e = ap (λ (t : Bool). cond t (dropped l) l) e
      go true false p e = refl
      go false b p e = refl

  accepted_so : (m : Memory) (at : Edition) → So (hear l m (accepted at x)).step
  unfolding hear
  accepted_so m at =
      result_either (eqb x.head.kind 0) _ _
      (λ e. request_so (ne_eqb x.head.kind 1 (λ z. omega (arith, z, eqb-true x.head.kind 0 e))) _ _)
      (λ e. result_either (fits l.wait x.head) _ _ (λ g. answer_so m at) (λ g. unawaited_so))

  -- 1, 2, 3 and 5 leave the state alone
  read_left : left_by (read_refusal bytes) (message bytes) l ≡ l
  unfolding read_refusal
  read_left =
      go (wrong_length (length bytes)) (unstructured (header_in bytes)) (wrong_major (header_in bytes)) (wrong_shape (header_in bytes) (length bytes / 4))
    where
      go : (a b c d : Bool) → left_by (cond a 1 (cond b 2 (cond c 3 (cond d 5 0)))) (message bytes) l ≡ l
      go true b c d = refl
      go false true c d = refl
      go false false true d = refl
      go false false false true = refl
      go false false false false = refl

  outcome_so : (m : Memory) (n : ℕ) (at : Edition) → left_by n (message bytes) l ≡ l → So (hear l m (outcome n at x)).step
  unfolding outcome hear
  outcome_so m n at e = go (eqb n 0)
    where
      go : (t : Bool) → So (hear l m (cond t (accepted at x) (refused n))).step
      go true = accepted_so m at
      go false = λ z. ap (refused_by n) (sym e)

  message_so : (m : Memory) → So (heard l m (read_outcome bytes)).step
  unfolding heard read_outcome
  message_so m =
      result_either (short_runs (length m.run) (length m.held_run)) _ _ (λ e n. refl) (λ e. outcome_so m (read_refusal bytes) (edition_in bytes) read_left)

-- any call
module _ (l : Laptop) (m : Memory) (out : List ℕ) where
  decided_so : (c : Call) (d : Decision) → (effect_of c l m out).step ≡ step_of l d (length out) → brings_page c ≡ false → Alone l d →
      Without 8 (lines c l m out) → Without 14 (lines c l m out) → RefusedAs c l (effect_of c l m out).step
  decided_so c d e p f eight fourteen n =
      let left = alone_left c l (effect_of c l m out).step.refusal p (never_without 8 c l m out (λ z. omega arith) eight)
      (never_without 14 c l m out (λ z. omega arith) fourteen) in
      subst (λ (s : Step). (s.refusal ≡ 0 → ⊥) → s ≡ refused_by s.refusal l) (sym e) (step_alone l d f (length out)) n ∙
      ap (refused_by (effect_of c l m out).step.refusal) (sym left)

  call_so : (c : Call) → RefusedAs c l (effect_of c l m out).step
  unfolding decide_next decide_start_over decide_drop decide_enter decide_exit
  call_so (message bytes) = message_so l bytes m
  call_so next = decided_so next _ refl refl (unless_alone l _ _ (next_alone l m.svids l.candidate)) (omega arith) (omega arith)
  call_so start_over = decided_so start_over _ refl refl (unless_alone l _ _ tt) (omega arith) (omega arith)
  call_so drop = decided_so drop _ refl refl (unless_alone l _ _ tt) (omega arith) (omega arith)
  call_so (enter svid position) =
      decided_so (enter svid position) _ refl refl (unless_alone l _ _ (unless_alone l _ _ (unless_alone l _ _ tt))) (omega arith) (omega arith)
  call_so (exit svid position) = decided_so (exit svid position) _ refl refl (unless_alone l _ _ (unless_alone l _ _ tt)) (omega arith) (omega arith)
  call_so (timer first last) = decided_so (timer first last) _ refl refl (timer_alone l first last l.wait) (omega arith) (omega arith)
  call_so protocol_error = decided_so protocol_error _ refl refl (error_alone l l.wait) (omega arith) (omega arith)

pub refusal_state : (c : Call) (l : Laptop) (m : Memory) (out : List ℕ) → RefusedAs c l (effect_of c l m out).step
refusal_state c l m out = call_so l m out c
