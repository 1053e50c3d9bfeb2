-- An answer makes the candidate whole exactly when 01 says that it publishes.
use mathlib.Core.Logic.{inl, inr}
use mathlib.Core.Path.{◌≡◌, refl, ap, sym, ◌∙◌, subst}
use mathlib.Core.Bool.{Bool, true, false, cond, false≢true}
use mathlib.Core.List.{List}
use Prim.Native.Nat.{ℕ, ◌+◌, ◌<◌, ◌≤◌}
use native.Mathlib.Omega.{arith}
use lib.Dec.{leb, ltb, eqb}
use lib.ListN.{length, take}
use borrow.Author.Tests.{eqb-true, eqb-false, ltb-true, ltb-false}
use Rattle.messages.specs.Layout.{Message}
use Rattle.pages.specs.Pages.{halves}
use Rattle.taking.specs.Taking.{verdict}
use Rattle.taking.specs.declared.Verdict.{Verdict}
use Rattle.taking.specs.declared.Verdict.TheVariants.{Bad, Repeat, More, Ends}
use Rattle.gathering.specs.Gathering.{Gathering, unless_last, take_as, take_page, none_gathered, hear_svids}
use Rattle.hearing.specs.Answers.{Storing, store_modes, hear_modes, is_done, is_whole}
use Rattle.laptop.specs.State.{Memory, gathered_list, ended, dropped, counted, gathered_to, stored_to}
use Rattle.laptop.specs.declared.Candidate.{Candidate}
use Rattle.laptop.specs.declared.Candidate.TheVariants.{Absent, Open, Done}
use Rattle.laptop.specs.declared.Laptop.{Laptop}
use Rattle.laptop.specs.declared.Size.{Size}
use Rattle.laptop_laws.specs.Given.{IsPage}
use Rattle.laptop_laws.specs.Holding.{LastModes, StoredBefore, MakesWhole}
use Rattle.laptop_laws.proofs.First.{Tells, tells_true, tells_false, tells_and, tells_as, tells_leb}
use Rattle.laptop_laws.proofs.MessageGiven.{counted_same, tells_counted, tag, not_both, tells_none, is_nak}

tells_done : (c : Candidate) → Tells (is_done c) (c ≡ Done)
tells_done Absent = λ e. false≢true (ap is_done e)
tells_done Open = λ e. false≢true (ap is_done e)
tells_done Done = refl

-- whole: the list is done, and no modes are missing
tells_whole : (l : Laptop) → Tells (is_whole l) ((l.candidate ≡ Done) × (l.gathered.count ≤ l.stored))
unfolding is_whole
tells_whole l = tells_and (is_done l.candidate) (leb l.gathered.count l.stored) _ _ (tells_done l.candidate) (tells_leb l.gathered.count l.stored)

whole_as : (l : Laptop) (holds : Type 0) → ((l.candidate ≡ Done) × (l.gathered.count ≤ l.stored) → holds) →
    (holds → (l.candidate ≡ Done) × (l.gathered.count ≤ l.stored)) → Tells (is_whole l) holds
whole_as l holds to from = tells_as (is_whole l) _ holds to from (tells_whole l)

not_done : (l : Laptop) (holds : Type 0) → (l.candidate ≡ Done → ⊥) → (holds → ⊥) → Tells (is_whole l) holds
not_done l holds n none = whole_as l holds (λ x. absurd (n x.0)) (λ x. absurd (none x))

absent_not : Absent ≡ Done → ⊥
absent_not e = false≢true (ap is_done e)

open_not : Open ≡ Done → ⊥
open_not e = false≢true (ap is_done e)

module _ (l : Laptop) (m : Memory) (x : Message) where
  abbrev judged : Verdict
  judged = verdict (gathered_list l m.svids) (halves x.objects)

  abbrev Whole : Type 0
  Whole = MakesWhole l m x

  -- a REQ, BUSY, and answers to other commands never do
  pub kind_not : (x.head.kind ≡ 1 → ⊥) → (x.head.kind ≡ 2 → ⊥) → Whole → ⊥
  kind_not a n (inl f) = n f.1
  kind_not a n (inr (inl f)) = a f.1
  kind_not a n (inr (inr f)) = a f.0.1

  pub other_not : (x.head.command ≡ 2 → ⊥) → (x.head.command ≡ 3 → ⊥) → Whole → ⊥
  other_not s o (inl f) = s f.0
  other_not s o (inr (inl f)) = o f.0
  other_not s o (inr (inr f)) = s f.0.0

  either : (t : Bool) (a b : Gathering) → (t ≡ true → Tells (is_whole a.step.laptop) Whole) → (t ≡ false → Tells (is_whole b.step.laptop) Whole) →
      Tells (is_whole (cond t a b).step.laptop) Whole
  either true a b fa fb = fa refl
  either false a b fa fb = fb refl

  -- a page
  module _ (page : IsPage x.head) where
    page_part : Whole → StoredBefore judged l m
    page_part (inl f) = absurd (omega (arith, page.1, f.1))
    page_part (inr (inl f)) = absurd (omega (arith, page.0, f.0))
    page_part (inr (inr f)) = f.1

    ends_part : (k : ℕ) → judged ≡ Ends k → StoredBefore judged l m → length (gathered_list l m.svids) + k ≤ l.stored
    ends_part k e (inl f) =
        let same : k ≡ f.0 = ap size (sym e ∙ f.1) in
        omega (arith, same, f.2)
      where
        size : Verdict → ℕ
        size Bad = 0
        size Repeat = 0
        size More = 0
        size (Ends n) = n
    ends_part k e (inr f) = absurd (not_both (Ends k) Repeat judged e (λ z. omega arith) f.0)

    repeat_part : judged ≡ Repeat → StoredBefore judged l m → (l.pages + 1 < 200) × (l.candidate ≡ Done) × (l.gathered.count ≤ l.stored)
    repeat_part e (inl f) = absurd (not_both Repeat (Ends f.0) judged e (λ z. omega arith) f.1)
    repeat_part e (inr f) = (f.1, f.2, f.3)

    none_part : (v : Verdict) → judged ≡ v → (tag v ≡ 1 → ⊥) → (tag v ≡ 3 → ⊥) → Whole → ⊥
    none_part v e r n c = go (page_part c)
      where
        go : StoredBefore judged l m → ⊥
        go (inl f) = not_both v (Ends f.0) judged e n f.1
        go (inr f) = not_both v Repeat judged e r f.0

    last_whole : (g : Gathering) → (200 ≤ l.pages + 1 → Whole → ⊥) → (l.pages + 1 < 200 → Tells (is_whole g.step.laptop) Whole) →
        Tells (is_whole (unless_last (counted l) m.svids g).step.laptop) Whole
    unfolding unless_last
    last_whole g none f =
        either (leb 200 (counted l).pages) _ g
        (λ e. not_done (dropped (counted l)) Whole absent_not (none (tells_true _ _ (tells_counted l) e)))
        (λ e. f (omega (arith, tells_false _ _ (tells_counted l) e)))

    taken_whole : (n : ℕ) → n ≡ length (gathered_list l m.svids) → (v : Verdict) → judged ≡ v →
        Tells (is_whole (take_as (counted l) m.svids (halves x.objects) n v).step.laptop) Whole
    unfolding take_as
    taken_whole n en Bad e = not_done _ Whole absent_not (none_part Bad e (λ z. omega arith) (λ z. omega arith))
    taken_whole n en Repeat e =
        let same = counted_same l in
        last_whole _ (λ h c. omega (arith, h, (repeat_part e (page_part c)).0))
        (λ h.
        whole_as (ended (counted l)) Whole
        (λ w. inr (inr (page, inr (e, h, sym same.0 ∙ w.0, omega (arith, w.1, ap (λ (s : Size). s.count) same.1, same.2)))))
        (λ c.
        let part = repeat_part e (page_part c) in
        (same.0 ∙ part.1, omega (arith, part.2, ap (λ (s : Size). s.count) same.1, same.2))))
    taken_whole n en More e =
        let none = none_part More e (λ z. omega arith) (λ z. omega arith) in last_whole _ (λ h. none) (λ h. not_done _ Whole open_not none)
    taken_whole n en (Ends k) e =
        let same = counted_same l in
        whole_as (gathered_to Done (n + k) (counted l)) Whole (λ w. inr (inr (page, inl (k, e, omega (arith, w.1, en, same.2)))))
        (λ c. (refl, omega (arith, ends_part k e (page_part c), en, same.2)))

    page_whole : Tells (is_whole (take_page (counted l) m.svids (halves x.objects)).step.laptop) Whole
    unfolding take_page
    page_whole =
        let same = ap (λ (s : Size). take s.count m.svids) (counted_same l).1 in
        subst
        (λ (v : Verdict).
        Tells (is_whole (take_as (counted l) m.svids (halves x.objects) (length (gathered_list (counted l) m.svids)) v).step.laptop) Whole)
        (ap (λ (g : List ℕ). verdict g (halves x.objects)) (sym same)) (taken_whole _ (ap length same) judged refl)

  -- SVIDs and Modes
  module _ (kinds : x.head.kind < 4) (answers : x.head.kind ≡ 0 → ⊥) (other : x.head.kind ≡ 3 → ⊥) where
    pub svids_whole : x.head.command ≡ 2 → Tells (is_whole (hear_svids l x.head.kind (halves x.objects) m.svids).step.laptop) Whole
    unfolding hear_svids
    svids_whole e =
        either (eqb x.head.kind 1) _ _ (λ a. page_whole (e, eqb-true _ 1 a))
        (λ a.
        either (eqb x.head.kind 3) _ _ (λ b. absurd (other (eqb-true _ 3 b)))
        (λ b.
        let nak = is_nak l m x kinds answers (eqb-false _ 1 a) other in
        either (none_gathered l) _ _
        (λ n.
        let none = tells_true _ _ (tells_none l m x) n in
        whole_as (gathered_to Done 0 l) Whole (λ w. inl (e, nak, none.0, none.1)) (λ c. (refl, omega arith)))
        (λ n. not_done (dropped l) Whole absent_not (empty_only (λ y. tells_false _ _ (tells_none l m x) n y) nak))))
      where
        empty_only : ((l.candidate ≡ Open) × (l.gathered.count ≡ 0) → ⊥) → x.head.kind ≡ 2 → Whole → ⊥
        empty_only n k (inl f) = n (f.2, f.3)
        empty_only n k (inr (inl f)) = omega (arith, e, f.0)
        empty_only n k (inr (inr f)) = omega (arith, k, f.0.1)

    store_either : (t : Bool) (a b : Storing) → (t ≡ true → Tells (is_whole a.step.laptop) Whole) → (t ≡ false → Tells (is_whole b.step.laptop) Whole) →
        Tells (is_whole (cond t a b).step.laptop) Whole
    store_either true a b fa fb = fa refl
    store_either false a b fa fb = fb refl

    modes_part : x.head.command ≡ 3 → Whole → LastModes l x
    modes_part e (inl f) = absurd (omega (arith, e, f.0))
    modes_part e (inr (inl f)) = f
    modes_part e (inr (inr f)) = absurd (omega (arith, e, f.0.0))

    pub modes_whole : x.head.command ≡ 3 → Tells (is_whole (hear_modes l x.head.kind x.objects m.modes m.run).step.laptop) Whole
    unfolding hear_modes store_modes
    modes_whole e =
        store_either (eqb x.head.kind 3) _ _ (λ b. absurd (other (eqb-true _ 3 b)))
        (λ b.
        store_either (eqb x.head.kind 1) _ _
        (λ a.
        store_either (ltb l.stored 72) _ _
        (λ h.
        whole_as (stored_to (l.stored + 1) l) Whole (λ w. inr (inl (e, eqb-true _ 1 a, w.0, ltb-true _ 72 h, w.1)))
        (λ c. let part = modes_part e c in (part.2, part.4)))
        (λ h. not_done (dropped l) Whole absent_not (λ c. omega (arith, (modes_part e c).3, ltb-false l.stored 72 h))))
        (λ a. not_done (dropped l) Whole absent_not (λ c. eqb-false _ 1 a (modes_part e c).1)))
