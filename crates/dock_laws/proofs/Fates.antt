-- What policy's answer to the request that waits comes to: 10 for what it brings, or an answer of the row's size.
use mathlib.Core.Logic.{◌⊎◌, inl, inr}
use mathlib.Core.Path.{◌≡◌, refl, ap, subst, sym, ◌∙◌}
use mathlib.Core.Bool.{Bool, true, false, cond, ◌&&◌, false≢true}
use mathlib.Core.List.{List, [], ◌∷◌}
use Prim.Native.Nat.{ℕ, ◌+◌, ◌/◌, ◌%◌, ◌<◌, ◌≤◌}
use native.Mathlib.Omega.{arith}
use lib.Dec.{leb, eqb}
use lib.ListN.{length, take}
use lib.Seq.{length-take-le}
use borrow.Author.Tests.{eqb-true, eqb-false, leb-true, leb-false}
use Rattle.laws.proofs.Lines.{and_left, and_right}
use Rattle.messages.specs.Layout.{ack, nak, busy}
use Rattle.messages.specs.Table.{row_of, counts_of, one_to_five}
use Rattle.messages.specs.declared.request.Request.{Request}
use Rattle.pages.specs.Pages.{page}
use Rattle.pages.proofs.Laws.{page_size}
use Rattle.dock.specs.Data.{listed, good_identity}
use Rattle.dock.specs.Dock.{Decision, refuses, sends, reply, sending, is_empty, give_page, give_identity, give_modes, give_other, bare, declined, decide_policy}
use Rattle.dock.specs.declared.Dock.{Dock}
use Rattle.dock.specs.declared.Policy.{Policy}
use Rattle.dock.specs.declared.Policy.TheVariants.{Give, Nak, Busy}
use Rattle.dock.proofs.Decisions.{identity_few, identity_many, other_identity, modes_few, modes_many, give_modes_lem, give_brings, give_other_lem, declined_brings}
use Rattle.dock.proofs.Shapes.{each_of_five}
use Rattle.dock_laws.specs.Given.{NotThreeToSix, BringsWrong, not_1_to_6, brings_some, no_identity, AnswerIs, gives_identity, gives_page, gives_empty_list, gives_modes, gives_other, says_nak, says_busy}
use Rattle.dock_laws.proofs.Limits.{outside}

-- so many objects, the header counted, are among those that the command's row has for the type
abbrev pub RowHas : ℕ → ℕ → ℕ → Type 0
RowHas kind n command = (counts_of (row_of command) kind / 16 ≤ n) × (n ≤ counts_of (row_of command) kind % 16)

declined_has : (kind : ℕ) → (kind ≡ nak) ⊎ (kind ≡ busy) → (command : ℕ) → one_to_five command ≡ true → RowHas kind 1 command
unfolding row_of counts_of
declined_has kind (inl e) command five =
    subst (λ (k : ℕ). RowHas k 1 command) (sym e)
    (each_of_five (RowHas nak 1) (omega arith, omega arith) (omega arith, omega arith) (omega arith, omega arith) (omega arith, omega arith)
    (omega arith, omega arith) command five)
declined_has kind (inr e) command five =
    subst (λ (k : ℕ). RowHas k 1 command) (sym e)
    (each_of_five (RowHas busy 1) (omega arith, omega arith) (omega arith, omega arith) (omega arith, omega arith) (omega arith, omega arith)
    (omega arith, omega arith) command five)

identity_has : (n command : ℕ) → command ≡ 1 → 3 ≤ n → n ≤ 6 → RowHas ack (n + 1) command
unfolding row_of counts_of
identity_has n command e least most = subst (RowHas ack (n + 1)) (sym e) (omega arith, omega arith)

svids_has : (n command : ℕ) → command ≡ 2 → 1 ≤ n → n ≤ 6 → RowHas ack (n + 1) command
unfolding row_of counts_of
svids_has n command e least most = subst (RowHas ack (n + 1)) (sym e) (omega arith, omega arith)

modes_has : (n command : ℕ) → command ≡ 3 → 1 ≤ n → n ≤ 6 → RowHas ack (n + 1) command
unfolding row_of counts_of
modes_has n command e least most = subst (RowHas ack (n + 1)) (sym e) (omega arith, omega arith)

mode_has : (command : ℕ) → one_to_five command ≡ true → (command ≡ 1 → ⊥) → (command ≡ 2 → ⊥) → (command ≡ 3 → ⊥) → RowHas ack 1 command
unfolding row_of counts_of
mode_has command five =
    each_of_five (λ (c : ℕ). (c ≡ 1 → ⊥) → (c ≡ 2 → ⊥) → (c ≡ 3 → ⊥) → RowHas ack 1 c) (λ a b c. absurd (a refl)) (λ a b c. absurd (b refl))
    (λ a b c. absurd (c refl)) (λ a b c. (omega arith, omega arith)) (λ a b c. (omega arith, omega arith)) command five

none_listed : (l : List ℕ) → is_empty l ≡ true → l ≡ []
none_listed [] e = refl
none_listed (x ∷ l) e = absurd (false≢true e)

abbrev pub gives : Policy → Bool
gives Give = true
gives Nak = false
gives Busy = false

pub three_to_six : (n : ℕ) → good_identity n ≡ true → (3 ≤ n) × (n ≤ 6)
unfolding good_identity
three_to_six n e = (leb-true 3 n (and_left (leb 3 n) _ e), leb-true n 6 (and_right (leb 3 n) _ e))

module _ (d : Dock) (r : Request) where
  -- a request of 1 to 5 gets an answer of the row's size, where the dock's identity objects are there
  abbrev pub Sized : ℕ → List ℕ → Type 0
  Sized kind objects = one_to_five r.command ≡ true → d.extent ≤ length d.identity → RowHas kind (length objects + 1) r.command

  module _ (policy : Policy) (objects : List ℕ) where
    pub data Fate (decision : Decision) : Type 0 where
      wrong : BringsWrong d policy r objects → decision ≡ refuses 10 → Fate decision
      right : (kind : ℕ) (behind : List ℕ) (next : Dock) → kind < 4 → Sized kind behind → AnswerIs d policy r objects (reply r kind behind) →
          decision ≡ sends (reply r kind behind) next → Fate decision

  -- an answer without objects
  bare_fate : (policy : Policy) (objects : List ℕ) (kind : ℕ) → (kind ≡ nak) ⊎ (kind ≡ busy) → (policy ≡ Give → r.command ≡ 3 → ⊥) → kind < 4 →
      AnswerIs d policy r objects (reply r kind []) → Fate policy objects (declined d r kind objects)
  unfolding bare
  bare_fate policy [] kind k none few is = right kind [] (sending false d) few (λ five there. declined_has kind k r.command five) is refl
  bare_fate policy (x ∷ objects) kind k none few is = wrong (brings_some none (omega arith)) refl

  identity_fate : r.command ≡ 1 → Fate Give [] (give_identity d r)
  unfolding give_identity
  identity_fate e = go (good_identity d.extent) refl
    where
      sized : good_identity d.extent ≡ true → Sized ack (take d.extent d.identity)
      sized g five there =
          subst (λ (n : ℕ). RowHas ack (n + 1) r.command) (sym (length-take-le d.extent d.identity there))
          (identity_has d.extent r.command e (three_to_six d.extent g).0 (three_to_six d.extent g).1)

      go : (t : Bool) → good_identity d.extent ≡ t →
          Fate Give [] (cond t (sends (reply r ack (take d.extent d.identity)) (sending false d)) (refuses 10))
      go true g = right ack (take d.extent d.identity) (sending false d) (omega arith) (sized g) (gives_identity refl e refl) refl
      go false g = wrong (no_identity refl e (outside d.extent g)) refl

  page_fate : r.command ≡ 2 → Fate Give [] (give_page d r)
  unfolding give_page
  page_fate e = go (is_empty (listed d)) refl
    where
      size : (1 ≤ length (page (listed d) d.page)) × (length (page (listed d) d.page) ≤ 6)
      size = page_size (listed d) d.page

      go : (t : Bool) → is_empty (listed d) ≡ t →
          Fate Give [] (cond t (sends (reply r nak []) (sending false d)) (sends (reply r ack (page (listed d) d.page)) (sending true d)))
      go true f =
          right nak [] (sending false d) (omega arith) (λ five there. declined_has nak (inl refl) r.command five)
          (gives_empty_list refl e (none_listed (listed d) f) refl) refl
      go false f =
          right ack (page (listed d) d.page) (sending true d) (omega arith)
          (λ five there. svids_has (length (page (listed d) d.page)) r.command e size.0 size.1)
          (gives_page refl e (λ z. false≢true (sym f ∙ ap is_empty z)) refl) refl

  other_fate : (r.command ≡ 3 → ⊥) → Fate Give [] (give_other d r)
  unfolding give_other
  other_fate none = go (eqb r.command 1) (eqb r.command 2) refl refl
    where
      go : (i l : Bool) → eqb r.command 1 ≡ i → eqb r.command 2 ≡ l →
          Fate Give [] (cond i (give_identity d r) (cond l (give_page d r) (sends (reply r ack []) (sending false d))))
      go true l ei el = identity_fate (eqb-true r.command 1 ei)
      go false true ei el = page_fate (eqb-true r.command 2 el)
      go false false ei el =
          right ack [] (sending false d) (omega arith)
          (λ five there. mode_has r.command five (eqb-false r.command 1 ei) (eqb-false r.command 2 el) none)
          (gives_other refl (eqb-false r.command 1 ei) (eqb-false r.command 2 el) none refl) refl

  given_fate : (objects : List ℕ) → (r.command ≡ 3 → ⊥) → Fate Give objects (bare objects (give_other d r))
  unfolding bare
  given_fate [] none = other_fate none
  given_fate (x ∷ objects) none = wrong (brings_some (λ p c. none c) (omega arith)) refl

  modes_fate : (objects : List ℕ) → r.command ≡ 3 → Fate Give objects (give_modes d r objects)
  unfolding give_modes
  modes_fate objects e = go (leb 1 (length objects)) (leb (length objects) 6) refl refl
    where
      go : (l m : Bool) → leb 1 (length objects) ≡ l → leb (length objects) 6 ≡ m →
          Fate Give objects (cond (l && m) (sends (reply r ack objects) (sending false d)) (refuses 10))
      go true true el em =
          right ack objects (sending false d) (omega arith)
          (λ five there. modes_has (length objects) r.command e (leb-true 1 (length objects) el) (leb-true (length objects) 6 em))
          (gives_modes refl e refl) refl
      go true false el em = wrong (not_1_to_6 refl e (inr (leb-false (length objects) 6 em))) refl
      go false m el em = wrong (not_1_to_6 refl e (inl (omega (arith, leb-false 1 (length objects) el)))) refl

  pub policy_fate : (policy : Policy) (objects : List ℕ) → Fate policy objects (decide_policy d policy r objects)
  unfolding decide_policy
  policy_fate Give objects = go (eqb r.command 3) refl
    where
      go : (t : Bool) → eqb r.command 3 ≡ t → Fate Give objects (cond t (give_modes d r objects) (bare objects (give_other d r)))
      go true e = modes_fate objects (eqb-true r.command 3 e)
      go false e = given_fate objects (eqb-false r.command 3 e)
  policy_fate Nak objects = bare_fate Nak objects nak (inl refl) (λ p. absurd (false≢true (ap gives p))) (omega arith) (says_nak refl refl)
  policy_fate Busy objects = bare_fate Busy objects busy (inr refl) (λ p. absurd (false≢true (ap gives p))) (omega arith) (says_busy refl refl)

  -- what is brought wrong is refused 10
  pub wrong_refused : (policy : Policy) (objects : List ℕ) → BringsWrong d policy r objects → decide_policy d policy r objects ≡ refuses 10
  unfolding decide_policy
  wrong_refused policy objects (not_1_to_6 p c size) = ap (λ (x : Policy). decide_policy d x r objects) p ∙ give_modes_lem d r objects c ∙ sizes size
    where
      sizes : (length objects ≡ 0) ⊎ (6 < length objects) → give_modes d r objects ≡ refuses 10
      sizes (inl z) = modes_few d r objects (omega arith)
      sizes (inr m) = modes_many d r objects (omega arith) m
  wrong_refused Give objects (brings_some none some) = give_brings d r objects (none refl) some
  wrong_refused Nak objects (brings_some none some) = declined_brings d r objects nak some
  wrong_refused Busy objects (brings_some none some) = declined_brings d r objects busy some
  wrong_refused policy [] (no_identity p c out) =
      ap (λ (x : Policy). decide_policy d x r []) p ∙ give_other_lem d r [] (λ z. omega (arith, c)) (omega arith) ∙ other_identity d r c ∙ sizes out
    where
      sizes : NotThreeToSix d.extent → give_identity d r ≡ refuses 10
      sizes (inl few) = identity_few d r few
      sizes (inr many) = identity_many d r (omega arith) many
  wrong_refused policy (x ∷ objects) (no_identity p c out) =
      ap (λ (y : Policy). decide_policy d y r (x ∷ objects)) p ∙ give_brings d r (x ∷ objects) (λ z. omega (arith, c)) (omega arith)
