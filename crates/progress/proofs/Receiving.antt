-- What is added to what has come when a message arrives.
use mathlib.Core.Path.{◌≡◌}
use mathlib.Core.Bool.{true, false, not, ◌&&◌}
use mathlib.Core.List.{List, [], ◌∷◌}
use Prim.Native.Nat.{ℕ, ◌<◌, ◌≤◌}
use lib.Dec.{leb, eqb}
use borrow.Author.Tests.{le-leb, lt-leb, lt-ltb}
use Rattle.messages.specs.Layout.{busy, Message}
use Rattle.hearing.specs.Hearing.{fits}
use Rattle.laptop.specs.Calls.{is_awaiting}
use Rattle.std.specs.Prelude.{Option}
use Rattle.messages.specs.declared.request.Request.{Request}
use Rattle.unharmed.proofs.Awaited.{and_no}
use Rattle.link.specs.Needed.{list_answers, has_come, missing, is_page_answer, pages_in, is_listing, is_too_many, is_answer, is_late, with_answer, with_taken, is_new}

module _ (list : List ℕ) (got : List Message) where
  pub list_open : 0 < missing (list_answers list) got → is_listing list got ≡ true
  unfolding is_listing
  list_open h = lt-ltb 0 (missing (list_answers list) got) h

  pub list_done : missing (list_answers list) got ≡ 0 → is_listing list got ≡ false
  unfolding is_listing
  list_done e = rw e

  pub too_many : 200 ≤ pages_in got → is_listing list got ≡ true → is_too_many list got ≡ true
  unfolding is_too_many
  too_many h e = rw (le-leb 200 (pages_in got) h, e)

  pub few_enough : pages_in got < 200 → is_too_many list got ≡ false
  unfolding is_too_many
  few_enough h = rw (lt-leb 200 (pages_in got) h)

  pub done_enough : is_listing list got ≡ false → is_too_many list got ≡ false
  unfolding is_too_many
  done_enough e = rw e (and_no (leb 200 (pages_in got)))

module _ (w : Option Request) (list : List ℕ) (m : Message) (got : List Message) where
  -- an answer of the gathering
  module _ (yes : is_answer w m ≡ true) where
    pub added : is_too_many list (m ∷ got) ≡ false → with_taken w list m got ≡ m ∷ got
    unfolding with_taken with_answer
    added e = rw (yes, e)

    pub ended_by_fourteen : is_too_many list (m ∷ got) ≡ true → with_taken w list m got ≡ []
    unfolding with_taken with_answer
    ended_by_fourteen e = rw (yes, e)

    pub is_new_lem : (is_page_answer m && has_come m got) ≡ false → is_too_many list (m ∷ got) ≡ false → is_new w list m got ≡ true
    unfolding is_new
    is_new_lem a b = rw (yes, a, b)

    pub not_new_again : (is_page_answer m && has_come m got) ≡ true → is_new w list m got ≡ false
    unfolding is_new
    not_new_again a = rw (yes, a)

    pub not_new_fourteen : is_too_many list (m ∷ got) ≡ true → is_new w list m got ≡ false
    unfolding is_new
    not_new_fourteen b = rw (yes, b) (and_no (not (is_page_answer m && has_come m got)))

  -- another message
  module _ (no : is_answer w m ≡ false) where
    pub dropped_late : is_late w list m got ≡ true → with_taken w list m got ≡ []
    unfolding with_taken
    dropped_late e = rw (no, e)

    pub not_late : is_late w list m got ≡ false → with_taken w list m got ≡ got
    unfolding with_taken
    not_late e = rw (no, e)

    pub not_new_other : is_new w list m got ≡ false
    unfolding is_new
    not_new_other = rw no

module _ (w : Option Request) (m : Message) where
  pub is_answer_lem : fits w m.head ≡ true → leb m.head.command 3 ≡ true → eqb m.head.kind busy ≡ false → is_answer w m ≡ true
  unfolding is_answer
  is_answer_lem f c k = rw (f, c, k)

  pub no_answer_unfit : fits w m.head ≡ false → is_answer w m ≡ false
  unfolding is_answer
  no_answer_unfit f = rw f

  pub no_answer_busy : eqb m.head.kind busy ≡ true → is_answer w m ≡ false
  unfolding is_answer
  no_answer_busy k = rw (k, and_no (leb m.head.command 3)) (and_no (fits w m.head))

  pub no_answer_mode : leb m.head.command 3 ≡ false → is_answer w m ≡ false
  unfolding is_answer
  no_answer_mode c = rw c (and_no (fits w m.head))

module _ (w : Option Request) (list : List ℕ) (m : Message) (got : List Message) where
  pub late_page : is_awaiting w ≡ false → is_page_answer m ≡ true → is_listing list got ≡ true → is_late w list m got ≡ true
  unfolding is_late
  late_page a b c = rw (a, b, c)

  pub late_no : is_page_answer m ≡ false → is_late w list m got ≡ false
  unfolding is_late
  late_no b = rw b (and_no (not (is_awaiting w)))

  pub late_awaited : is_awaiting w ≡ true → is_late w list m got ≡ false
  unfolding is_late
  late_awaited a = rw a

  pub late_done : is_listing list got ≡ false → is_late w list m got ≡ false
  unfolding is_late
  late_done c = rw (c, and_no (is_page_answer m)) (and_no (not (is_awaiting w)))
