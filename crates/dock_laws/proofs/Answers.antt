-- The refusals of policy's answer.
use mathlib.Core.Logic.{◌⊎◌, inl, inr}
use mathlib.Core.Path.{◌≡◌, refl, ap, sym, ◌∙◌}
use mathlib.Core.Bool.{Bool, true, false, cond}
use mathlib.Core.List.{List}
use Prim.Native.Nat.{ℕ}
use lib.ListN.{length}
use Rattle.messages.specs.Layout.{Message}
use Rattle.messages.specs.Requests.{same_request}
use Rattle.messages.specs.Writing.{well_shaped}
use Rattle.messages.specs.declared.request.Request.{Request}
use Rattle.messages.proofs.Laws.{write_refused_5, write_refused_11}
use Rattle.messages.proofs.Requests.{same_is}
use Rattle.dock.specs.Dock.{Decision, refuses, sends, step_of, reply, decide_policy, decide_policy_answer}
use Rattle.dock.specs.declared.Dock.{Dock}
use Rattle.dock.specs.declared.Policy.{Policy}
use Rattle.dock.specs.declared.Standing.{Standing}
use Rattle.dock.specs.declared.Standing.TheVariants.{Ready, Asking, Sending}
use Rattle.dock_laws.specs.Given.{HasToSend, TooShort, GivenToPolicyAnswer, not_waiting, brings_wrong, wrong_shape, no_room_for_answer}
use Rattle.dock_laws.proofs.Fates.{Fate, wrong, right, policy_fate, wrong_refused}
use Rattle.dock.proofs.Decisions.{same_itself}
use Rattle.dock_laws.proofs.Sent.{to_policy, to_send_exactly}
use Rattle.dock_laws.proofs.Sending.{sends_refusal, too_short, write_given}
use Rattle.dock_laws.proofs.Loading.{clash}

abbrev waits_for : Request → Standing → Bool
waits_for r Ready = false
waits_for r (Asking a) = same_request a r
waits_for r (Sending is_page) = false

module _ (d : Dock) (number : ℕ) (some : number ≡ 0 → ⊥) where
  -- policy's answer
  module _ (policy : Policy) (r : Request) (objects out : List ℕ) where
    abbrev answered : Decision → Type 0
    answered x = (step_of d x (length out)).refusal ≡ number

    policy_given : d.standing ≡ Asking r → Fate d r policy objects (decide_policy d policy r objects) → answered (decide_policy d policy r objects) →
        GivenToPolicyAnswer d policy r objects out number
    unfolding step_of
    policy_given waits (wrong brought e) h = brings_wrong (sym h ∙ ap (λ (x : Decision). (step_of d x (length out)).refusal) e) waits brought
    policy_given waits (right kind behind next few sized is e) h =
        sent_given_by
        (write_given number some m out (sym (sends_refusal d m next (length out)) ∙ sym (ap (λ (x : Decision). (step_of d x (length out)).refusal) e) ∙ h))
      where
        m : Message
        m = reply r kind behind

        has : HasToSend d policy r objects m
        has = (to_send_exactly d policy r objects m).0 (next, to_policy d policy r objects waits ∙ e)

        sent_given_by : ((number ≡ 5) × (well_shaped m ≡ false)) ⊎ ((number ≡ 11) × (well_shaped m ≡ true) × TooShort out m) →
            GivenToPolicyAnswer d policy r objects out number
        sent_given_by (inl bad) = wrong_shape bad.0 m has bad.1
        sent_given_by (inr short) = no_room_for_answer short.0 m has short.1 short.2

    pub policy_answer_given : answered (decide_policy_answer d d.standing policy r objects) → GivenToPolicyAnswer d policy r objects out number
    unfolding decide_policy_answer step_of
    policy_answer_given = go d.standing refl
      where
        other : (s : Standing) → d.standing ≡ s → waits_for r s ≡ false → 9 ≡ number → GivenToPolicyAnswer d policy r objects out number
        other s e f h = not_waiting (sym h) (λ z. clash (waits_for r) d.standing s (Asking r) e z f (same_itself r))

        named : (a : Request) (t : Bool) → d.standing ≡ Asking a → same_request a r ≡ t →
            answered (cond t (decide_policy d policy r objects) (refuses 9)) → GivenToPolicyAnswer d policy r objects out number
        named a true e f h = policy_given (e ∙ ap Asking (same_is a r f)) (policy_fate d r policy objects) h
        named a false e f h = other (Asking a) e f h

        go : (s : Standing) → d.standing ≡ s → answered (decide_policy_answer d s policy r objects) → GivenToPolicyAnswer d policy r objects out number
        go Ready e h = other Ready e refl h
        go (Asking a) e h = named a (same_request a r) e refl h
        go (Sending is_page) e h = other (Sending is_page) e refl h

    by_answer : (x : Decision) → decide_policy_answer d d.standing policy r objects ≡ x → answered x → answered (decide_policy_answer d d.standing policy r objects)
    by_answer x e h = ap (λ (y : Decision). (step_of d y (length out)).refusal) e ∙ h

    pub policy_answer_refused_by : GivenToPolicyAnswer d policy r objects out number → answered (decide_policy_answer d d.standing policy r objects)
    unfolding decide_policy_answer step_of
    policy_answer_refused_by (not_waiting is none) = go d.standing refl
      where
        named : (a : Request) (t : Bool) → d.standing ≡ Asking a → same_request a r ≡ t → answered (cond t (decide_policy d policy r objects) (refuses 9))
        named a true e f = absurd (none (e ∙ ap Asking (same_is a r f)))
        named a false e f = sym is

        go : (s : Standing) → d.standing ≡ s → answered (decide_policy_answer d s policy r objects)
        go Ready e = sym is
        go (Asking a) e = named a (same_request a r) e refl
        go (Sending is_page) e = sym is
    policy_answer_refused_by (brings_wrong is waits brought) = by_answer (refuses 10) (to_policy d policy r objects waits ∙ wrong_refused d r policy objects brought) (sym is)
    policy_answer_refused_by (wrong_shape is m has bad) =
        let decided = (to_send_exactly d policy r objects m).1 has in
        by_answer (sends m decided.0) decided.1
        (sends_refusal d m decided.0 (length out) ∙ (write_refused_5 m (length out)).1 bad ∙ sym is)
    policy_answer_refused_by (no_room_for_answer is m has good short) =
        let decided = (to_send_exactly d policy r objects m).1 has in
        by_answer (sends m decided.0) decided.1
        (sends_refusal d m decided.0 (length out) ∙ (write_refused_11 m (length out)).1 (good, too_short m out short) ∙ sym is)
