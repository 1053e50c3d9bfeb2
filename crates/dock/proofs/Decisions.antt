-- The ways out of each call, over plain variables.
use mathlib.Core.Path.{◌≡◌, refl, ap, ◌∙◌}
use mathlib.Core.Bool.{Bool, true, false, cond, not, ◌&&◌}
use mathlib.Core.List.{List, [], ◌∷◌}
use Prim.Native.Nat.{ℕ, ◌+◌, ◌*◌, ◌<◌, ◌≤◌}
use native.Mathlib.Omega.{arith}
use lib.Dec.{leb, eqb}
use lib.ListN.{length, take, length-take, length-drop}
use borrow.Author.Tests.{eq-eqb, ne_eqb, le-leb, lt-leb, leb-true, ltb-false}
use Rattle.laws.proofs.Lines.{and_left, and_right}
use Rattle.messages.specs.Layout.{req, ack, nak, Message}
use Rattle.messages.specs.Reading.{Outcome, accepted, refused}
use Rattle.messages.specs.declared.Head.{Head}
use Rattle.messages.specs.declared.edition.Edition.{Edition}
use Rattle.pages.specs.Pages.{remaining, page, is_last}
use Rattle.dock.specs.Data.{listed, good_identity, good_data, loaded, with_page, with_standing}
use Rattle.dock.specs.Dock.{refuses, accepts, sends, decide_load, reply, asking, sending, decide_request, spoken_to, decide_message, is_empty, give_page, give_identity, give_modes, give_other, bare, declined, decide_policy, decide_policy_answer, moved, decide_sent, decide_failed}
use Rattle.messages.specs.Requests.{attention_command, request_of, same_request}
use Rattle.dock.specs.declared.Dock.{Dock}
use Rattle.dock.specs.declared.Policy.{Policy}
use Rattle.dock.specs.declared.Policy.TheVariants.{Give}
use Rattle.messages.specs.declared.request.Request.{Request}
use Rattle.dock.specs.declared.Standing.{Standing}
use Rattle.dock.specs.declared.Standing.TheVariants.{Ready, Asking, Sending}

-- loading
pub load_standing : (d : Dock) (s : Standing) (identity svids : List ℕ) → (s ≡ Ready → ⊥) →
    decide_load d s identity svids ≡ refuses 9
unfolding decide_load
load_standing d Ready identity svids k = absurd (k refl)
load_standing d (Asking request) identity svids k = refl
load_standing d (Sending is_page) identity svids k = refl

module _ (identity svids : List ℕ) where
  pub data_fits : good_data identity svids ≡ true → (length identity ≤ 6) × (length svids ≤ 72)
  unfolding good_data good_identity
  data_fits e =
      let rest = and_right (leb 3 (length identity) && leb (length identity) 6) _ e in (
        leb-true _ _ (and_right (leb 3 (length identity)) _ (and_left (leb 3 (length identity) && leb (length identity) 6) _ e)),
        leb-true _ _ (and_left (leb (length svids) 72) _ rest),
      )

  pub load_good : (d : Dock) (s : Standing) → s ≡ Ready → good_data identity svids ≡ true →
      decide_load d s identity svids ≡ accepts (loaded d.edition identity svids)
  unfolding decide_load
  load_good d s e good = ap (λ (x : Standing). decide_load d x identity svids) e ∙ rw good

  pub load_bad : (d : Dock) (s : Standing) → s ≡ Ready → good_data identity svids ≡ false → decide_load d s identity svids ≡ refuses 10
  unfolding decide_load
  load_bad d s e bad = ap (λ (x : Standing). decide_load d x identity svids) e ∙ rw bad

-- a request, and a message
module _ (r : Request) (d : Dock) where
  pub asking_identity : r.command ≡ 1 → with_standing (Asking r) (with_page 0 d) ≡ asking r d
  unfolding asking
  asking_identity e = rw (eq-eqb _ _ e)

  pub asking_other : (r.command ≡ 1 → ⊥) → with_standing (Asking r) d ≡ asking r d
  unfolding asking
  asking_other e = rw (ne_eqb _ _ e)

  pub request_zero : r.command < 1 → decide_request d r ≡ sends (reply r nak []) (sending false d)
  unfolding decide_request
  request_zero h = simp (lt-leb _ _ h)

  pub request_past : 1 ≤ r.command → 5 < r.command → decide_request d r ≡ sends (reply r nak []) (sending false d)
  unfolding decide_request
  request_past l h = simp (le-leb _ _ l, lt-leb _ _ h)

  pub request_asked : 1 ≤ r.command → r.command ≤ 5 → decide_request d r ≡ accepts (asking r d)
  unfolding decide_request
  request_asked l h = simp (le-leb _ _ l, le-leb _ _ h)

module _ (d : Dock) (o : Outcome) where
  pub message_refused : (number : ℕ) → o ≡ refused number → decide_message d o ≡ refuses number
  unfolding decide_message
  message_refused number e = ap (decide_message d) e

  module _ (at : Edition) (m : Message) (h : Head) (e : o ≡ accepted at m) (eh : m.head ≡ h) where
    by_head : decide_message d o ≡ cond (eqb h.kind req && not (eqb h.command attention_command)) (decide_request (spoken_to at d) (request_of h)) (refuses 6)
    unfolding decide_message
    by_head =
        ap (decide_message d) e ∙
        ap (λ (x : Head). cond (eqb x.kind req && not (eqb x.command attention_command)) (decide_request (spoken_to at d) (request_of x)) (refuses 6)) eh

    pub message_answer : (h.kind ≡ 0 → ⊥) → decide_message d o ≡ refuses 6
    message_answer k = by_head ∙ rw (ne_eqb _ _ k)

    pub message_attention : h.kind ≡ 0 → h.command ≡ 6 → decide_message d o ≡ refuses 6
    message_attention k c = by_head ∙ rw (eq-eqb _ _ k, eq-eqb _ _ c)

    pub message_request : h.kind ≡ 0 → (h.command ≡ 6 → ⊥) → decide_message d o ≡ decide_request (spoken_to at d) (request_of h)
    message_request k c = by_head ∙ rw (eq-eqb _ _ k, ne_eqb _ _ c)

-- policy's answer
pub same_itself : (r : Request) → same_request r r ≡ true
same_itself r = grind arith

not_same : (a r : Request) → (a ≡ r → ⊥) → same_request a r ≡ false
not_same a r k = grind arith

pub empty_none : (l : List ℕ) → length l ≡ 0 → is_empty l ≡ true
empty_none [] h = refl
empty_none (x ∷ l) h = absurd (omega arith)

pub empty_some : (l : List ℕ) → 0 < length l → is_empty l ≡ false
empty_some [] h = absurd (omega arith)
empty_some (x ∷ l) h = refl

module _ (d : Dock) (r : Request) where
  pub identity_few : d.extent < 3 → give_identity d r ≡ refuses 10
  unfolding give_identity good_identity
  identity_few h = simp (lt-leb _ _ h)

  pub identity_many : 3 ≤ d.extent → 6 < d.extent → give_identity d r ≡ refuses 10
  unfolding give_identity good_identity
  identity_many l h = simp (le-leb _ _ l, lt-leb _ _ h)

  pub identity_given : 3 ≤ d.extent → d.extent ≤ 6 →
      give_identity d r ≡ sends (reply r ack (take d.extent d.identity)) (sending false d)
  unfolding give_identity good_identity
  identity_given l m = simp (le-leb _ _ l, le-leb _ _ m)

  pub page_none : length (listed d) ≡ 0 → give_page d r ≡ sends (reply r nak []) (sending false d)
  unfolding give_page
  page_none h = rw (empty_none (listed d) h)

  pub page_given : 0 < length (listed d) → give_page d r ≡ sends (reply r ack (page (listed d) d.page)) (sending true d)
  unfolding give_page
  page_given h = rw (empty_some (listed d) h)

  pub other_identity : r.command ≡ 1 → give_other d r ≡ give_identity d r
  unfolding give_other
  other_identity e = rw (eq-eqb _ _ e)

  pub other_svids : (r.command ≡ 1 → ⊥) → r.command ≡ 2 → give_other d r ≡ give_page d r
  unfolding give_other
  other_svids n e = rw (ne_eqb _ _ n, eq-eqb _ _ e)

  pub other_bare : (r.command ≡ 1 → ⊥) → (r.command ≡ 2 → ⊥) → give_other d r ≡ sends (reply r ack []) (sending false d)
  unfolding give_other
  other_bare n m = rw (ne_eqb _ _ n, ne_eqb _ _ m)

  module _ (objects : List ℕ) where
    pub modes_few : length objects < 1 → give_modes d r objects ≡ refuses 10
    unfolding give_modes
    modes_few h = simp (lt-leb _ _ h)

    pub modes_many : 1 ≤ length objects → 6 < length objects → give_modes d r objects ≡ refuses 10
    unfolding give_modes
    modes_many l h = simp (le-leb _ _ l, lt-leb _ _ h)

    pub modes_given : 1 ≤ length objects → length objects ≤ 6 → give_modes d r objects ≡ sends (reply r ack objects) (sending false d)
    unfolding give_modes
    modes_given l m = simp (le-leb _ _ l, le-leb _ _ m)

    pub give_modes_lem : r.command ≡ 3 → decide_policy d Give r objects ≡ give_modes d r objects
    unfolding decide_policy
    give_modes_lem e = rw (eq-eqb _ _ e)

    pub give_brings : (r.command ≡ 3 → ⊥) → 0 < length objects → decide_policy d Give r objects ≡ refuses 10
    unfolding decide_policy bare
    give_brings n h = rw (ne_eqb _ _ n, empty_some objects h)

    pub give_other_lem : (r.command ≡ 3 → ⊥) → length objects ≤ 0 → decide_policy d Give r objects ≡ give_other d r
    unfolding decide_policy bare
    give_other_lem n h = let z : length objects ≡ 0 = omega arith in rw (ne_eqb _ _ n, empty_none objects z)

    module _ (kind : ℕ) where
      pub declined_brings : 0 < length objects → declined d r kind objects ≡ refuses 10
      unfolding bare
      declined_brings h = rw (empty_some objects h)

      pub declined_bare : length objects ≤ 0 → declined d r kind objects ≡ sends (reply r kind []) (sending false d)
      unfolding bare
      declined_bare h = let z : length objects ≡ 0 = omega arith in rw (empty_none objects z)

    module _ (policy : Policy) (s : Standing) where
      module _ (a : Request) (e : s ≡ Asking a) where
        pub answer_other : same_request a r ≡ false → decide_policy_answer d s policy r objects ≡ refuses 9
        unfolding decide_policy_answer
        answer_other n = ap (λ (x : Standing). decide_policy_answer d x policy r objects) e ∙ rw n

        pub answer_policy : same_request a r ≡ true → (p : Policy) → policy ≡ p → decide_policy_answer d s policy r objects ≡ decide_policy d p r objects
        unfolding decide_policy_answer
        answer_policy y p ep =
            ap (λ (x : Standing). decide_policy_answer d x policy r objects) e ∙ rw y (ap (λ (x : Policy). decide_policy d x r objects) ep)

-- whatever the standing is, but for that request
pub answer_unasked : (d : Dock) (r : Request) (objects : List ℕ) (policy : Policy) (s : Standing) → (s ≡ Asking r → ⊥) →
    decide_policy_answer d s policy r objects ≡ refuses 9
unfolding decide_policy_answer
answer_unasked d r objects policy Ready k = refl
answer_unasked d r objects policy (Asking a) k = answer_other d r objects policy (Asking a) a refl (not_same a r (λ e. k (ap Asking e)))
answer_unasked d r objects policy (Sending is_page) k = refl

pub answer_standing : (d : Dock) (r : Request) (objects : List ℕ) (policy : Policy) (s : Standing) → ((a : Request) → s ≡ Asking a → ⊥) →
    decide_policy_answer d s policy r objects ≡ refuses 9
answer_standing d r objects policy s k = answer_unasked d r objects policy s (k r)

-- "sent" and "failed"
module _ (d : Dock) where
  pub sent_standing : (s : Standing) → ((is_page : Bool) → s ≡ Sending is_page → ⊥) → decide_sent d s ≡ refuses 9
  unfolding decide_sent
  sent_standing Ready k = refl
  sent_standing (Asking a) k = refl
  sent_standing (Sending is_page) k = absurd (k is_page refl)

  pub failed_standing : (s : Standing) → ((is_page : Bool) → s ≡ Sending is_page → ⊥) → decide_failed d s ≡ refuses 9
  unfolding decide_failed
  failed_standing Ready k = refl
  failed_standing (Asking a) k = refl
  failed_standing (Sending is_page) k = absurd (k is_page refl)

  pub sent_moves : (s : Standing) (is_page : Bool) → s ≡ Sending is_page → decide_sent d s ≡ accepts (moved is_page d)
  unfolding decide_sent
  sent_moves s is_page e = ap (decide_sent d) e

  pub failed_ready : (s : Standing) (is_page : Bool) → s ≡ Sending is_page → decide_failed d s ≡ accepts (moved false d)
  unfolding decide_failed
  failed_ready s is_page e = ap (decide_failed d) e

  pub moved_on : (is_page : Bool) → is_page ≡ true → is_last (listed d) d.page ≡ false →
      with_standing Ready (with_page (d.page + 1) d) ≡ moved is_page d
  unfolding moved
  moved_on is_page p l = rw (p, l)

  pub moved_last : (is_page : Bool) → is_last (listed d) d.page ≡ true → with_standing Ready d ≡ moved is_page d
  unfolding moved
  moved_last true l = rw l
  moved_last false l = refl

  -- there is room for the next page's number
  pub next_fits : d.count < 256 → is_last (listed d) d.page ≡ false → d.page + 1 < 256
  unfolding is_last
  next_fits f e =
      omega
      (arith, ltb-false (length (remaining (listed d) d.page)) 12 e, length-drop (d.page * 12) (listed d), length-take d.count d.svids)

  pub moved_other : (is_page : Bool) → is_page ≡ false → with_standing Ready d ≡ moved is_page d
  unfolding moved
  moved_other is_page p = rw p
