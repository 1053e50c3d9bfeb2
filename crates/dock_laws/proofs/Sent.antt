-- What policy's answer sends is what 01 says, and nothing else is sent.
use mathlib.Core.Logic.{◌↔◌, inl, inr}
use mathlib.Core.Path.{◌≡◌, refl, ap, subst, sym, ◌∙◌}
use mathlib.Core.Bool.{Bool, true, false, cond, false≢true}
use mathlib.Core.List.{List, [], ◌∷◌}
use Prim.Native.Nat.{ℕ, ◌<◌, ◌≤◌}
use native.Mathlib.Omega.{arith}
use lib.Dec.{leb}
use lib.ListN.{length, take}
use borrow.Author.Tests.{leb-true, leb-false}
use Rattle.messages.specs.Layout.{ack, nak, busy, Message}
use Rattle.messages.specs.Requests.{same_request}
use Rattle.messages.specs.declared.request.Request.{Request}
use Rattle.messages.proofs.Requests.{same_is}
use Rattle.dock.specs.Data.{listed, good_identity}
use Rattle.dock.specs.Dock.{Decision, refuses, accepts, sends, reply, sending, give_identity, give_other, decide_policy, decide_policy_answer}
use Rattle.dock.specs.declared.Dock.{Dock}
use Rattle.dock.specs.declared.Policy.{Policy}
use Rattle.dock.specs.declared.Policy.TheVariants.{Give}
use Rattle.dock.specs.declared.Standing.{Standing}
use Rattle.dock.specs.declared.Standing.TheVariants.{Ready, Asking, Sending}
use Rattle.dock.proofs.Decisions.{identity_given, page_none, page_given, other_identity, other_svids, other_bare, modes_given, give_modes_lem, give_other_lem, declined_bare, answer_policy, same_itself}
use Rattle.dock_laws.specs.Given.{BringsWrong, not_1_to_6, brings_some, no_identity, AnswerIs, gives_identity, gives_page, gives_empty_list, gives_modes, gives_other, says_nak, says_busy, HasToSend}
use Rattle.dock_laws.proofs.Fates.{gives, three_to_six, Fate, wrong, right, policy_fate, wrong_refused}
use Rattle.dock_laws.proofs.Limits.{outside}

some_listed : (l : List ℕ) → (l ≡ [] → ⊥) → 0 < length l
some_listed [] h = absurd (h refl)
some_listed (x ∷ l) h = omega arith

-- a decision that sends, and its message
abbrev is_sends : Decision → Bool
is_sends (refuses number) = false
is_sends (accepts next) = false
is_sends (sends m next) = true

abbrev pub sent_by : Message → Decision → Message
sent_by other (refuses number) = other
sent_by other (accepts next) = other
sent_by other (sends m next) = m

module _ (d : Dock) (policy : Policy) (r : Request) (objects : List ℕ) where
  -- to the request that waits it is as policy says, and no other has an answer
  pub to_policy : d.standing ≡ Asking r → decide_policy_answer d d.standing policy r objects ≡ decide_policy d policy r objects
  to_policy waits = answer_policy d r objects policy d.standing r waits (same_itself r) policy refl

  module _ (m : Message) where
    waits_for : (next : Dock) → decide_policy_answer d d.standing policy r objects ≡ sends m next → d.standing ≡ Asking r
    unfolding decide_policy_answer
    waits_for next = go d.standing refl
      where
        named : (a : Request) (t : Bool) → same_request a r ≡ t → d.standing ≡ Asking a →
            cond t (decide_policy d policy r objects) (refuses 9) ≡ sends m next → d.standing ≡ Asking r
        named a true f e h = e ∙ ap Asking (same_is a r f)
        named a false f e h = absurd (false≢true (ap is_sends h))

        go : (s : Standing) → d.standing ≡ s → decide_policy_answer d s policy r objects ≡ sends m next → d.standing ≡ Asking r
        go Ready e h = absurd (false≢true (ap is_sends h))
        go (Asking a) e h = named a (same_request a r) refl e h
        go (Sending is_page) e h = absurd (false≢true (ap is_sends h))

    answer_in : (next : Dock) → decide_policy d policy r objects ≡ sends m next → Fate d r policy objects (decide_policy d policy r objects) → AnswerIs d policy r objects m
    answer_in next e (wrong brought f) = absurd (false≢true (sym (ap is_sends f) ∙ ap is_sends e))
    answer_in next e (right kind behind after few sized is f) = subst (AnswerIs d policy r objects) (ap (sent_by m) (sym f ∙ e)) is

    module _ (brought : BringsWrong d policy r objects → ⊥) where
      nothing_brought : (policy ≡ Give → r.command ≡ 3 → ⊥) → length objects ≤ 0
      nothing_brought other = go (leb (length objects) 0) refl
        where
          go : (t : Bool) → leb (length objects) 0 ≡ t → length objects ≤ 0
          go true e = leb-true (length objects) 0 e
          go false e = absurd (brought (brings_some other (leb-false (length objects) 0 e)))

      other_decides : policy ≡ Give → (r.command ≡ 3 → ⊥) → decide_policy d policy r objects ≡ give_other d r
      other_decides p n = ap (λ (x : Policy). decide_policy d x r objects) p ∙ give_other_lem d r objects n (nothing_brought (λ q. n))

      identity_known : policy ≡ Give → r.command ≡ 1 → (t : Bool) → good_identity d.extent ≡ t →
          give_identity d r ≡ sends (reply r ack (take d.extent d.identity)) (sending false d)
      identity_known p c true g = identity_given d r (three_to_six d.extent g).0 (three_to_six d.extent g).1
      identity_known p c false g = absurd (brought (no_identity p c (outside d.extent g)))

      modes_brought : policy ≡ Give → r.command ≡ 3 → (1 ≤ length objects) × (length objects ≤ 6)
      modes_brought p c = go (leb 1 (length objects)) (leb (length objects) 6) refl refl
        where
          go : (l f : Bool) → leb 1 (length objects) ≡ l → leb (length objects) 6 ≡ f → (1 ≤ length objects) × (length objects ≤ 6)
          go true true el ef = (leb-true 1 (length objects) el, leb-true (length objects) 6 ef)
          go false f el ef = absurd (brought (not_1_to_6 p c (inl (omega (arith, leb-false 1 (length objects) el)))))
          go true false el ef = absurd (brought (not_1_to_6 p c (inr (leb-false (length objects) 6 ef))))

      as_sent : (x : Message) (next : Dock) → m ≡ x → decide_policy d policy r objects ≡ sends x next →
          (after : Dock) × (decide_policy d policy r objects ≡ sends m after)
      as_sent x next is e = (next, e ∙ ap (λ (y : Message). sends y next) (sym is))

      sends_answer : AnswerIs d policy r objects m → (next : Dock) × (decide_policy d policy r objects ≡ sends m next)
      unfolding decide_policy
      sends_answer (gives_identity p c is) =
          as_sent _ (sending false d) is
          (other_decides p (λ z. omega (arith, c, z)) ∙ other_identity d r c ∙ identity_known p c (good_identity d.extent) refl)
      sends_answer (gives_page p c some is) =
          as_sent _ (sending true d) is
          (other_decides p (λ z. omega (arith, c, z)) ∙ other_svids d r (λ z. omega (arith, c, z)) c ∙ page_given d r (some_listed (listed d) some))
      sends_answer (gives_empty_list p c none is) =
          as_sent _ (sending false d) is
          (other_decides p (λ z. omega (arith, c, z)) ∙ other_svids d r (λ z. omega (arith, c, z)) c ∙ page_none d r (ap length none))
      sends_answer (gives_modes p c is) =
          as_sent _ (sending false d) is
          (ap (λ (x : Policy). decide_policy d x r objects) p ∙ give_modes_lem d r objects c ∙
          modes_given d r objects (modes_brought p c).0 (modes_brought p c).1)
      sends_answer (gives_other p i l n is) = as_sent _ (sending false d) is (other_decides p n ∙ other_bare d r i l)
      sends_answer (says_nak p is) =
          as_sent _ (sending false d) is
          (ap (λ (x : Policy). decide_policy d x r objects) p ∙
          declined_bare d r objects nak (nothing_brought (λ q c. false≢true (ap gives (sym p ∙ q)))))
      sends_answer (says_busy p is) =
          as_sent _ (sending false d) is
          (ap (λ (x : Policy). decide_policy d x r objects) p ∙
          declined_bare d r objects busy (nothing_brought (λ q c. false≢true (ap gives (sym p ∙ q)))))

    -- a message is to be sent exactly when it is 01's answer to the request that waits, and what is brought is right
    pub to_send_exactly : ((next : Dock) × (decide_policy_answer d d.standing policy r objects ≡ sends m next)) ↔ HasToSend d policy r objects m
    to_send_exactly = (
      λ e.
          let waits = waits_for e.0 e.1 in
          let decided = sym (to_policy waits) ∙ e.1 in
          record {
            waits = waits;
            brings_right = λ b. false≢true (sym (ap is_sends (wrong_refused d r policy objects b)) ∙ ap is_sends decided);
            is_answer_lem = answer_in e.0 decided (policy_fate d r policy objects);
          },
      λ (has : HasToSend d policy r objects m).
          let decided = sends_answer has.brings_right has.is_answer_lem in
          (decided.0, to_policy has.waits ∙ decided.1),
    )
