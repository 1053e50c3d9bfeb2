-- An answer of the fair dock arrives at the laptop: what becomes of the candidate, of what is held and of the gathering.
use mathlib.Core.Logic.{◌⊎◌, inl, inr}
use mathlib.Core.Path.{◌≡◌, refl, ap, sym, ◌∙◌, subst}
use mathlib.Core.Bool.{Bool, true, false, cond, not, false≢true}
use mathlib.Core.List.{List}
use Prim.Native.Nat.{ℕ, ◌+◌, ◌/◌}
use native.Mathlib.Omega.{arith}
use lib.ListN.{length, take}
use borrow.Author.Tests.{lt-ltb, le-ltb}
use Rattle.messages.specs.declared.Head.{Head}
use Rattle.pages.specs.Pages.{is_last}
use Rattle.dock.specs.Data.{listed}
use Rattle.dock.specs.declared.Dock.{Dock}
use Rattle.dock.specs.declared.Standing.{Standing}
use Rattle.catalogue.specs.Bytes.{holding as holds}
use Rattle.laptop.specs.Calls.{refused_by, accepted_with}
use Rattle.hearing.specs.Hearing.{Result, only, fits, is_late_page}
use Rattle.owner.specs.Owner.{is_absent}
use Rattle.laptop.specs.State.{is_open, Memory, ended, dropped}
use Rattle.laptop.specs.declared.Candidate.{Candidate}
use Rattle.laptop.specs.declared.Candidate.TheVariants.{Absent, Open, Done}
use Rattle.laptop.specs.declared.Laptop.{Laptop}
use Rattle.laptop.specs.declared.Told.{Told}
use Rattle.laptop.specs.declared.Told.TheVariants.{Nothing as ToldNothing}
use Rattle.std.specs.Prelude.{None}
use Rattle.laptop_laws.specs.Holding.{holding}
use Rattle.laptop_laws.specs.WellFormed.{awaits_identity, WellFormed}
use Rattle.link.specs.Demand.{Meets, whole, held_in}
use Rattle.unharmed.proofs.LastAnswer.{is_last_head}
use Rattle.link.specs.Link.{is_unsure, opens}
use Rattle.unharmed.proofs.Arrival.{Arrival}
use Rattle.unharmed.proofs.Course.{FairAnswer, is_page, Carried, Course}
use Rattle.unharmed.proofs.Invariant.{message_of, Gave, Shaped, CandidateIs}
use Rattle.unharmed.proofs.Awaited.{and_no, no_late_page, not_both}

-- what does not fit is not the last answer needed
pub last_unfit : (l : Laptop) (h : Head) → fits l.wait h ≡ false → is_last_head l h ≡ false
unfolding is_last_head
last_unfit l h e = rw e

module _ (modes_of : ℕ → List ℕ) (d : Dock) (meets : Meets modes_of d) (l : Laptop) (m : Memory) (q : ℕ) (t : Standing) (z : ℕ) (a : FairAnswer)
    (v : Carried) (formed : WellFormed l m) (shaped : Shaped modes_of d a) (gave : Gave modes_of d a q)
    (candidate : CandidateIs modes_of d l.candidate l.gathered l.stored l.pages m t q v z) (arrival : Arrival (listed d) t q z a v) where
  abbrev pub head : Head
  head = (message_of modes_of d a).head

  abbrev pub unsure : Result → Bool
  unsure r = is_unsure l r.step.laptop (listed d) q

  abbrev pub lost_after : Result → ℕ
  lost_after r = cond (opens l r.step.laptop) 0 (arrival.lost_then (unsure r))

  abbrev pub CandidateLands : Result → Carried → ℕ → Type 0
  CandidateLands r v' z' =
      CandidateIs modes_of d r.step.laptop.candidate r.step.laptop.gathered r.step.laptop.stored r.step.laptop.pages r.after t q v' z'

  abbrev pub EndLands : Result → Type 0
  EndLands r =
      is_absent l.candidate ≡ false → is_absent r.step.laptop.candidate ≡ true →
      (is_last_head l head ≡ true) ⊎ ((is_late_page l head ≡ true) ⊎ (r.step.refusal ≡ 14))

  pub record Lands (r : Result) : Type 0 where
    pub candidate_lands : CandidateLands r (arrival.fate_then (unsure r)) (lost_after r)
    pub new_lands : is_last_head l head ≡ true → held_in (holding r.step.laptop r.after) ≡ holds (whole modes_of d)
    pub old_lands : is_last_head l head ≡ false → holding r.step.laptop r.after ≡ holding l m
    pub wait_lands : (r.step.laptop.wait ≡ None) ⊎ (r.step.laptop ≡ l)
    pub silent : r.step.length ≡ 0
    pub refusal_lands : (r.step.refusal ≡ 0) ⊎ ((r.step.refusal ≡ 6) ⊎ (r.step.refusal ≡ 14))
    pub end_lands : EndLands r

  pub unsure_no : (r : Result) → r.step.laptop.pages ≡ l.pages → unsure r ≡ false
  unfolding is_unsure
  unsure_no r e = rw (e, le-ltb l.pages l.pages (omega arith))

  pub unsure_page : (r : Result) → r.step.laptop.pages ≡ l.pages + 1 → unsure r ≡ not (is_last (listed d) q)
  unfolding is_unsure
  unsure_page r e = rw (e, lt-ltb l.pages (l.pages + 1) (omega arith))

  pub opens_no : (r : Result) → (awaits_identity l.wait ≡ false) ⊎ (is_open r.step.laptop.candidate ≡ false) → opens l r.step.laptop ≡ false
  unfolding opens
  opens_no r (inl e) = rw e
  opens_no r (inr e) = rw e (and_no (awaits_identity l.wait))

  -- the candidate, where no gathering opens
  pub goes_on : (r : Result) (b : Bool) → unsure r ≡ b → opens l r.step.laptop ≡ false → CandidateLands r (arrival.fate_then b) (arrival.lost_then b) →
      CandidateLands r (arrival.fate_then (unsure r)) (lost_after r)
  goes_on r b eu eo c = rw (eo, eu) c

  -- a candidate that stays as it is
  stays : (c : Candidate) → (c ≡ Open → is_page a ≡ false) → CandidateIs modes_of d c l.gathered l.stored l.pages m t q v z →
      CandidateIs modes_of d c l.gathered l.stored l.pages m t q (arrival.fate_then false) (arrival.lost_then false)
  stays Absent n i = tt
  stays Open n i = (
    i.0,
    subst (Course (listed d) (take l.gathered.count m.svids) l.pages t q (arrival.fate_then false)) (sym arrival.lost_no)
        (arrival.other _ _ (n refl) i.1),
  )
  stays Done n i =
      record {
        same_identity = i.same_identity;
        same_list = i.same_list;
        same_modes = i.same_modes;
        sum = i.sum ∙ ap (λ (k : ℕ). length (listed d) / 12 + 1 + k) (sym arrival.lost_no);
        settled = arrival.settled_no;
      }

  not_absent : is_absent l.candidate ≡ false → is_absent l.candidate ≡ true → (is_last_head l head ≡ true) ⊎ ((is_late_page l head ≡ true) ⊎ (◌≡◌ {A = ℕ} 6 14))
  not_absent n y = absurd (false≢true (sym n ∙ y))

  -- it does not fit, and is no late page
  pub ignored_lands : fits l.wait head ≡ false → is_late_page l head ≡ false → Lands (only m (refused_by 6 l))
  ignored_lands e n =
      record {
        candidate_lands =
            goes_on (only m (refused_by 6 l)) false (unsure_no (only m (refused_by 6 l)) refl)
            (opens_no (only m (refused_by 6 l)) (not_both l.wait l.candidate l.pages l.stored m.svids formed.wait_fits))
            (stays l.candidate
            (λ c. no_late_page l a modes_of d l.wait l.pages l.stored m.svids refl c formed.wait_fits e n) candidate);
        new_lands = λ x. absurd (false≢true (sym (last_unfit l head e) ∙ x));
        old_lands = λ x. refl;
        wait_lands = inr refl;
        silent = refl;
        refusal_lands = inr (inl refl);
        end_lands = not_absent;
      }

  -- a late page with nothing awaited
  pub late_lands : fits l.wait head ≡ false → is_late_page l head ≡ true → Lands (only m (refused_by 6 (dropped l)))
  late_lands e p =
      record {
        candidate_lands = tt;
        new_lands = λ x. absurd (false≢true (sym (last_unfit l head e) ∙ x));
        old_lands = λ x. refl;
        wait_lands = inl refl;
        silent = refl;
        refusal_lands = inr (inl refl);
        end_lands = λ n y. inr (inl p);
      }

  -- the wait ends, and the candidate stays or there was none
  pub ended_lands : (told : Told) → is_last_head l head ≡ false → (l.candidate ≡ Open → is_page a ≡ false) → Lands (only m (accepted_with told (ended l)))
  ended_lands told last n =
      record {
        candidate_lands =
            goes_on (only m (accepted_with told (ended l))) false (unsure_no (only m (accepted_with told (ended l))) refl)
            (opens_no (only m (accepted_with told (ended l))) (not_both l.wait l.candidate l.pages l.stored m.svids formed.wait_fits))
            (stays l.candidate n candidate);
        new_lands = λ x. absurd (false≢true (sym last ∙ x));
        old_lands = λ x. refl;
        wait_lands = inl refl;
        silent = refl;
        refusal_lands = inl refl;
        end_lands = λ x y. absurd (false≢true (sym x ∙ y));
      }

  pub dropped_lands : is_last_head l head ≡ false → l.candidate ≡ Absent → Lands (only m (accepted_with ToldNothing (dropped l)))
  dropped_lands last c =
      record {
        candidate_lands = tt;
        new_lands = λ x. absurd (false≢true (sym last ∙ x));
        old_lands = λ x. refl;
        wait_lands = inl refl;
        silent = refl;
        refusal_lands = inl refl;
        end_lands = λ x y. absurd (false≢true (sym x ∙ ap is_absent c));
      }

-- the same, for one answer or another
module _ (modes_of : ℕ → List ℕ) (d : Dock) (meets : Meets modes_of d) (l : Laptop) (m : Memory) (q : ℕ) (t : Standing) (z : ℕ) (v : Carried)
    (formed : WellFormed l m) (candidate : CandidateIs modes_of d l.candidate l.gathered l.stored l.pages m t q v z) where
  abbrev pub LandsOf : (a : FairAnswer) → Shaped modes_of d a → Gave modes_of d a q → Arrival (listed d) t q z a v → Result → Type 0
  LandsOf a shaped gave arrival r = Lands modes_of d meets l m q t z a v formed shaped gave candidate arrival r
