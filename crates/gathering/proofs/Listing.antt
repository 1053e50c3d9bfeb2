-- Answers to Identity and SVIDs, branch by branch.
use mathlib.Core.Path.{◌≡◌, refl, ap, sym, ◌∙◌}
use mathlib.Core.Bool.{Bool, true, false, cond}
use mathlib.Core.List.{List}
use Prim.Native.Nat.{ℕ, zero, suc, min, ◌+◌, ◌/◌, ◌%◌, ◌<◌, ◌≤◌}
use lib.Dec.{leb, eqb}
use lib.ListN.{length, get_or, take}
use lib.Seq.{sets}
use native.Mathlib.Omega.{arith}
use Rattle.std.proofs.lemmas.Bool.Decides.{nat_tests}
use borrow.Author.Tests.{lt-ltb, le-leb, lt-leb}
use Rattle.gathering.specs.Gathering.{hear_identity, Gathering, gathering, six_halves, unless_last, take_as, take_page, none_gathered, hear_svids}
use Rattle.laptop.specs.Calls.{refused_by, accepted_with}
use Rattle.laptop.specs.State.{gathered_list, ended, dropped, with_pages, counted, gathered_to}
use Rattle.laptop.specs.declared.Candidate.TheVariants.{Absent, Open, Done}
use Rattle.laptop.specs.declared.Laptop.{Laptop}
use Rattle.laptop.specs.declared.Told.TheVariants.{Nothing}
use Rattle.taking.specs.Taking.{verdict}
use Rattle.taking.specs.declared.Verdict.{Verdict}
use Rattle.taking.specs.declared.Verdict.TheVariants.{Bad, Repeat, More, Ends}
use Rattle.laptop.specs.Step.{Step}
use Rattle.messages.specs.declared.edition.Edition.{Edition}

module _ (l : Laptop) where
  pub counted_more : l.pages < 255 → with_pages (l.pages + 1) l ≡ counted l
  unfolding counted
  counted_more h = rw (lt-ltb _ _ h)

  pub counted_is : (pages : ℕ) → l.pages < 256 → pages ≡ min (l.pages + 1) 255 → with_pages pages l ≡ counted l
  unfolding counted
  counted_is pages h e = grind (arith, nat_tests)

-- a page, by the verdict on it and the list that is gathered
module _ (l : Laptop) (svids values list : List ℕ) (gathered : list ≡ gathered_list l svids) (v : Verdict) (judged : v ≡ verdict list values) where
  as_judged : (w : Verdict) → v ≡ w → take_page l svids values ≡ take_as l svids values (length list) w
  unfolding take_page
  as_judged w e =
      ap (λ (x : List ℕ). take_as l svids values (length x) (verdict x values)) (sym gathered) ∙
      ap (take_as l svids values (length list)) (sym judged ∙ e)

  pub take_repeat : v ≡ Repeat → l.pages < 200 → take_page l svids values ≡ gathering (accepted_with Nothing (ended l)) svids
  unfolding take_as unless_last
  take_repeat e h = as_judged Repeat e ∙ rw (lt-leb _ _ h)

  pub take_repeat_last : v ≡ Repeat → 200 ≤ l.pages → take_page l svids values ≡ gathering (refused_by 14 (dropped l)) svids
  unfolding take_as unless_last
  take_repeat_last e h = as_judged Repeat e ∙ rw (le-leb _ _ h)

  pub take_full : v ≡ More → l.pages < 200 →
      take_page l svids values ≡ gathering (accepted_with Nothing (gathered_to Open (length list + 12) l)) (sets svids (length list) values)
  unfolding take_as unless_last
  take_full e h = as_judged More e ∙ rw (lt-leb _ _ h)

  pub take_full_last : v ≡ More → 200 ≤ l.pages → take_page l svids values ≡ gathering (refused_by 14 (dropped l)) svids
  unfolding take_as unless_last
  take_full_last e h = as_judged More e ∙ rw (le-leb _ _ h)

  pub take_ending : (k : ℕ) → v ≡ Ends k →
      take_page l svids values ≡ gathering (accepted_with Nothing (gathered_to Done (length list + k) l)) (sets svids (length list) (take k values))
  unfolding take_as
  take_ending k e = as_judged (Ends k) e

-- the call and the list, of what was decided
pub parts : (g h : Gathering) → g ≡ h → (h.step ≡ g.step) × (h.svids ≡ g.svids)
parts g h e = (ap (λ (x : Gathering). x.step) (sym e), ap (λ (x : Gathering). x.svids) (sym e))

-- what is refused leaves no candidate
abbrev pub LeavesNone : Step → Type 0
LeavesNone s = (s.refusal ≡ 0 → ⊥) → s.laptop.candidate ≡ Absent

pub identity_leaves : (l : Laptop) (at : Edition) (kind n : ℕ) (objects svids identity : List ℕ) →
    LeavesNone (hear_identity l at kind n objects svids identity).step
unfolding hear_identity
identity_leaves l at kind n objects svids identity = go (eqb kind 1) refl
  where
    go : (t : Bool) → eqb kind 1 ≡ t → LeavesNone (hear_identity l at kind n objects svids identity).step
    go true e = rw e (λ r. absurd (r refl))
    go false e = rw e (λ r. absurd (r refl))

unless_leaves : (l : Laptop) (svids : List ℕ) (more : Gathering) → more.step.refusal ≡ 0 → LeavesNone (unless_last l svids more).step
unfolding unless_last
unless_leaves l svids more e = go (leb 200 l.pages) refl
  where
    go : (t : Bool) → leb 200 l.pages ≡ t → LeavesNone (unless_last l svids more).step
    go true h = rw h (λ r. refl)
    go false h = rw h (λ r. absurd (r e))

taken_leaves : (l : Laptop) (svids values : List ℕ) (n : ℕ) (v : Verdict) → LeavesNone (take_as l svids values n v).step
unfolding take_as
taken_leaves l svids values n Bad = λ r. refl
taken_leaves l svids values n Repeat = unless_leaves l svids _ refl
taken_leaves l svids values n More = unless_leaves l svids _ refl
taken_leaves l svids values n (Ends k) = λ r. absurd (r refl)

pub svids_leave : (l : Laptop) (kind : ℕ) (values svids : List ℕ) → LeavesNone (hear_svids l kind values svids).step
unfolding hear_svids take_page
svids_leave l kind values svids = go (eqb kind 1) (eqb kind 3) (none_gathered l) refl refl refl
  where
    go : (t u v : Bool) → eqb kind 1 ≡ t → eqb kind 3 ≡ u → none_gathered l ≡ v → LeavesNone (hear_svids l kind values svids).step
    go true u v a b n = rw a (taken_leaves (counted l) svids values _ _)
    go false true v a b n = rw (a, b) (λ r. absurd (r refl))
    go false false true a b n = rw (a, b, n) (λ r. absurd (r refl))
    go false false false a b n = rw (a, b, n) (λ r. refl)

-- six objects are twelve values
pub value_is : (o : List ℕ) (place : ℕ) → place < 12 →
    get_or (six_halves o) place 0 ≡ cond (eqb (place % 2) 0) (get_or o (place / 2) 0 / 65536) (get_or o (place / 2) 0 % 65536)
value_is o zero h = refl
value_is o (suc zero) h = refl
value_is o (suc (suc zero)) h = refl
value_is o (suc (suc (suc zero))) h = refl
value_is o (suc (suc (suc (suc zero)))) h = refl
value_is o (suc (suc (suc (suc (suc zero))))) h = refl
value_is o (suc (suc (suc (suc (suc (suc zero)))))) h = refl
value_is o (suc (suc (suc (suc (suc (suc (suc zero))))))) h = refl
value_is o (suc (suc (suc (suc (suc (suc (suc (suc zero)))))))) h = refl
value_is o (suc (suc (suc (suc (suc (suc (suc (suc (suc zero))))))))) h = refl
value_is o (suc (suc (suc (suc (suc (suc (suc (suc (suc (suc zero)))))))))) h = refl
value_is o (suc (suc (suc (suc (suc (suc (suc (suc (suc (suc (suc zero))))))))))) h = refl
value_is o (suc (suc (suc (suc (suc (suc (suc (suc (suc (suc (suc (suc n)))))))))))) h = absurd (omega arith)
