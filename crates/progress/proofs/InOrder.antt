-- What has come in a gathering, in order, and how many answers it still needs then.
use mathlib.Core.Path.{◌≡◌, refl, ap, ap₂, sym, ◌∙◌}
use mathlib.Core.Bool.{Bool, true, false, cond, ◌||◌}
use mathlib.Core.List.{List, [], ◌∷◌, ◌++◌}
use Prim.Native.Nat.{ℕ, zero, suc, ◌+◌, ◌-◌, ◌/◌, ◌<◌}
use native.Mathlib.Omega.{arith}
use lib.Dec.{ltb, eqb}
use lib.ListN.{length, get_or}
use borrow.Author.Tests.{eqb-true, eqb-false, lt-ltb, le-ltb, ltb-true, ltb-false}
use Rattle.messages.specs.Layout.{Message}
use Rattle.laptop_laws.proofs.Behind.{below}
use Rattle.taking.specs.Taking.{same_list}
use Rattle.dock.specs.Data.{listed}
use Rattle.dock.specs.declared.Dock.{Dock}
use Rattle.link.specs.Demand.{Meets}
use Rattle.link.specs.Needed.{identity_answer, page_answer, page_answers, empty_answer, list_answers, modes_answer, modes_answers, same_message, has_come, missing, needed, in_all_of}
use Rattle.progress.proofs.Different.{same_message_lem, same_page, same_modes}
use Rattle.progress.proofs.Missing.{missing_append, missing_pages, missing_modes}

none_before : (i : ℕ) → ltb i 0 ≡ false
none_before i = le-ltb i 0 (omega arith)

-- one more than those before p
before_next : (i p : ℕ) → (eqb i p || ltb i p) ≡ ltb i (p + 1)
before_next i p = go (eqb i p) (ltb i p) refl refl
  where
    go : (b c : Bool) → eqb i p ≡ b → ltb i p ≡ c → (b || c) ≡ ltb i (p + 1)
    go true c e f = sym (lt-ltb i (p + 1) (omega (arith, eqb-true i p e)))
    go false true e f = sym (lt-ltb i (p + 1) (omega (arith, ltb-true i p f)))
    go false false e f = sym (le-ltb i (p + 1) (omega (arith, below p i (omega (arith, ltb-false i p f)) (λ s. eqb-false i p e (sym s)))))

-- one of those before p again
before_same : (i j p : ℕ) → j < p → (eqb i j || ltb i p) ≡ ltb i p
before_same i j p h = go (eqb i j) refl
  where
    go : (b : Bool) → eqb i j ≡ b → (b || ltb i p) ≡ ltb i p
    go true e = sym (lt-ltb i p (omega (arith, eqb-true i j e)))
    go false e = refl

some_list : (list : List ℕ) → 0 < length list → list_answers list ≡ page_answers list (length list / 12 + 1)
unfolding list_answers
some_list [] h = absurd (omega arith)
some_list (svid ∷ list) h = refl

module _ (modes_of : ℕ → List ℕ) (d : Dock) (meets : Meets modes_of d) where
  abbrev pub list : List ℕ
  list = listed d

  abbrev pub pages_in_all : ℕ
  pages_in_all = length list / 12 + 1

  -- Identity, the pages before `pages` and the modes of the SVIDs before `modes` have come
  pub record Come (pages modes : ℕ) (got : List Message) : Type 0 where
    pub identity_came : has_come (identity_answer d) got ≡ true
    pub pages_came : (i : ℕ) → i < pages_in_all → has_come (page_answer list i) got ≡ ltb i pages
    pub modes_came : (i : ℕ) → i < length list → has_come (modes_answer modes_of (get_or list i 0)) got ≡ ltb i modes
    pub no_nak : has_come empty_answer got ≡ false

  pub identity_comes : Come 0 0 (identity_answer d ∷ [])
  unfolding same_message
  identity_comes =
      record {
        identity_came = ap (λ (b : Bool). b || false) (same_message_lem (identity_answer d));
        pages_came = λ i h. sym (none_before i);
        modes_came = λ i h. sym (none_before i);
        no_nak = refl;
      }

  module _ (pages modes : ℕ) (got : List Message) (come : Come pages modes got) where
    -- page j comes, and the pages before `then` have come by then
    with_page : (j then : ℕ) → j < pages_in_all → ((i : ℕ) → (eqb i j || ltb i pages) ≡ ltb i then) → Come then modes (page_answer list j ∷ got)
    unfolding same_message
    with_page j then few among =
        record {
          identity_came = come.identity_came;
          pages_came = λ i less.
              ap₂ (λ (b c : Bool). b || c)
              (same_page list meets.svids_fit meets.sound.list_sound i j (omega arith) (omega arith)) (come.pages_came i less) ∙
              among i;
          modes_came = come.modes_came;
          no_nak = come.no_nak;
        }

    pub page_comes : pages < pages_in_all → Come (pages + 1) modes (page_answer list pages ∷ got)
    page_comes few = with_page pages (pages + 1) few (λ i. before_next i pages)

    pub page_comes_again : (j : ℕ) → j < pages → j < pages_in_all → Come pages modes (page_answer list j ∷ got)
    page_comes_again j h few = with_page j pages few (λ i. before_same i j pages h)

    pub modes_come : modes < length list → Come pages (modes + 1) (modes_answer modes_of (get_or list modes 0) ∷ got)
    unfolding same_message
    modes_come h =
        record {
          identity_came = come.identity_came;
          pages_came = come.pages_came;
          modes_came = λ i less.
              ap₂ (λ (b c : Bool). b || c)
              (same_modes list meets.svids_fit meets.sound.list_sound modes_of i modes less h) (come.modes_came i less) ∙
              before_next i modes;
          no_nak = come.no_nak;
        }

    modes_left : missing (modes_answers modes_of list) got ≡ length list - modes
    modes_left =
        missing_modes got modes_of modes 0 list (λ j h. come.modes_came j h ∙ ap (λ (n : ℕ). ltb n modes) (plain j)) ∙ less (length list) modes
      where
        plain : (j : ℕ) → j ≡ 0 + j
        plain j = omega arith

        less : (n f : ℕ) → n - (f - 0) ≡ n - f
        less n f = omega arith

    needed_parts : needed modes_of d got ≡ missing (list_answers list) got + (length list - modes)
    needed_parts =
        ap (λ (b : Bool). cond b 0 1 + missing (list_answers list ++ modes_answers modes_of list) got) come.identity_came ∙
        plain (missing (list_answers list ++ modes_answers modes_of list) got) ∙ missing_append got (list_answers list) (modes_answers modes_of list) ∙
        ap (λ (n : ℕ). missing (list_answers list) got + n) modes_left
      where
        plain : (n : ℕ) → 0 + n ≡ n
        plain n = omega arith

    -- a list that is not empty
    pub pages_left : 0 < length list → missing (list_answers list) got ≡ pages_in_all - pages
    pages_left some =
        ap (λ (a : List Message). missing a got) (some_list list some) ∙ missing_pages got list pages pages_in_all come.pages_came

    pub still_needed : 0 < length list → needed modes_of d got ≡ pages_in_all - pages + (length list - modes)
    still_needed some = needed_parts ∙ ap (λ (n : ℕ). n + (length list - modes)) (pages_left some)

    -- an empty one
    pub nak_left : list ≡ [] → missing (list_answers list) got ≡ 1
    unfolding list_answers
    nak_left e =
        ap (λ (l : List ℕ). missing (list_answers l) got) e ∙ ap (λ (b : Bool). cond b 0 1 + 0) come.no_nak

    pub nak_needed : list ≡ [] → needed modes_of d got ≡ 1
    nak_needed e = needed_parts ∙ ap₂ (λ (n : ℕ) (l : List ℕ). n + (length l - modes)) (nak_left e) e ∙ plain modes
      where
        plain : (n : ℕ) → 1 + (0 - n) ≡ 1
        plain n = omega arith

    -- its NAK comes
    pub nak_comes : list ≡ [] → (needed modes_of d (empty_answer ∷ got) ≡ 0) × (missing (list_answers list) (empty_answer ∷ got) ≡ 0)
    unfolding list_answers same_message same_list
    nak_comes e =
        let none : missing (list_answers list) (empty_answer ∷ got) ≡ 0 = ap (λ (l : List ℕ). missing (list_answers l) (empty_answer ∷ got)) e in (
          ap (λ (b : Bool). cond b 0 1 + missing (list_answers list ++ modes_answers modes_of list) (empty_answer ∷ got)) come.identity_came ∙
              ap (λ (l : List ℕ). 0 + missing (list_answers l ++ modes_answers modes_of l) (empty_answer ∷ got)) e,
          none,
        )

  -- in all
  none_come : missing (modes_answers modes_of list) [] ≡ length list
  none_come = missing_modes [] modes_of 0 0 list (λ j h. sym (none_before (0 + j))) ∙ less (length list)
    where
      less : (n : ℕ) → n - (0 - 0) ≡ n
      less n = omega arith

  pub list_in_all : 0 < length list → missing (list_answers list) [] ≡ pages_in_all
  list_in_all some =
      ap (λ (a : List Message). missing a []) (some_list list some) ∙ missing_pages [] list 0 pages_in_all (λ i h. sym (none_before i)) ∙
      less pages_in_all
    where
      less : (n : ℕ) → n - 0 ≡ n
      less n = omega arith

  pub some_in_all : (n : ℕ) → 0 < n → in_all_of n ≡ 1 + (n / 12 + 1) + n
  some_in_all zero h = absurd (omega arith)
  some_in_all (suc n) h = refl

  pub needed_in_all : needed modes_of d [] ≡ in_all_of (length list)
  unfolding list_answers
  needed_in_all =
      ap (λ (n : ℕ). 1 + n) (missing_append [] (list_answers list) (modes_answers modes_of list) ∙ ap (λ (n : ℕ). missing (list_answers list) [] + n) none_come) ∙
      go list (λ some. list_in_all some)
    where
      go : (l : List ℕ) → (0 < length l → missing (list_answers l) [] ≡ length l / 12 + 1) → 1 + (missing (list_answers l) [] + length l) ≡ in_all_of (length l)
      go [] f = refl
      go (svid ∷ l) f = ap (λ (n : ℕ). 1 + (n + suc (length l))) (f (omega arith)) ∙ together (suc (length l) / 12 + 1) (suc (length l))
        where
          together : (x y : ℕ) → 1 + (x + y) ≡ 1 + x + y
          together x y = omega arith
