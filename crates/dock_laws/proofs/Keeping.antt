-- A sound dock stays sound, and the shape of its answers is good: no run gets 5 from policy's answer.
use mathlib.Core.Logic.{◌↔◌}
use mathlib.Core.Path.{◌≡◌, refl, ap, subst, sym, ◌∙◌}
use mathlib.Core.Bool.{Bool, true, false, false≢true}
use mathlib.Core.List.{List, [], ◌∷◌}
use Prim.Native.Nat.{ℕ, ◌+◌, ◌≤◌}
use native.Mathlib.Omega.{arith}
use lib.ListN.{length}
use Rattle.messages.specs.Layout.{req, Message}
use Rattle.messages.specs.Requests.{head_for}
use Rattle.messages.specs.Table.{shape, one_to_five}
use Rattle.messages.specs.Writing.{well_shaped}
use Rattle.messages.specs.declared.request.Request.{Request}
use Rattle.dock.specs.Data.{fresh_dock}
use Rattle.dock.specs.Dock.{sends, reply, decide_policy, decide_policy_answer}
use Rattle.dock.specs.Sound.{Asked, Sound}
use Rattle.dock.specs.declared.Dock.{Dock}
use Rattle.dock.specs.declared.Policy.{Policy}
use Rattle.dock.specs.declared.Standing.TheVariants.{Asking}
use Rattle.dock.proofs.Kept.{fresh_sound}
use Rattle.dock.proofs.Laws.{load_keeps, message_keeps, answer_keeps, sent_keeps, failed_keeps}
use Rattle.dock.proofs.Shapes.{reshaped, request_shape}
use Rattle.dock_laws.specs.Effects.{Call, load, message, policy_answer, sent, failed, effect_of, dock_after}
use Rattle.dock_laws.specs.Given.{BringsWrong, HasToSend, GivenToPolicyAnswer, not_waiting, brings_wrong, wrong_shape, no_room_for_answer}
use Rattle.dock_laws.proofs.Fates.{Fate, wrong, right, policy_fate}
use Rattle.dock_laws.proofs.Given.{given_exactly}
use Rattle.dock_laws.proofs.Sent.{sent_by, to_policy, to_send_exactly}

-- a dock that meets 01's limits meets them after each call, and after any calls
pub keeps : (c : Call) (d : Dock) (out : List ℕ) → Sound d → Sound (effect_of c d out).dock
keeps (load identity svids) d out sound = load_keeps d sound identity svids
keeps (message bytes) d out sound = message_keeps d sound bytes (length out)
keeps (policy_answer policy r objects) d out sound = answer_keeps d sound policy r objects (length out)
keeps sent d out sound = sent_keeps d sound
keeps failed d out sound = failed_keeps d sound

pub sound_after : (calls : List (Call × List ℕ)) (d : Dock) → Sound d → Sound (dock_after calls d)
sound_after [] d sound = sound
sound_after (c ∷ rest) d sound = sound_after rest (effect_of c.0 d c.1).dock (keeps c.0 d c.1 sound)

is_shape : (m : Message) → well_shaped m ≡ shape m.head (length m.objects + 1)
unfolding well_shaped
is_shape m = refl

module _ (d : Dock) (policy : Policy) (r : Request) (objects : List ℕ) where
  module _ (there : d.extent ≤ length d.identity) (five : one_to_five r.command ≡ true) where
    -- an answer to a request that a message can have
    answer_shaped : shape (head_for r req) 1 ≡ true → (m : Message) → HasToSend d policy r objects m → well_shaped m ≡ true
    unfolding well_shaped
    answer_shaped good m has = go (policy_fate d r policy objects)
      where
        decided : (next : Dock) × (decide_policy_answer d d.standing policy r objects ≡ sends m next)
        decided = (to_send_exactly d policy r objects m).1 has

        go : Fate d r policy objects (decide_policy d policy r objects) → well_shaped m ≡ true
        go (wrong brought e) = absurd (has.brings_right brought)
        go (right kind behind next few sized is e) =
            ap well_shaped (ap (sent_by m) (sym decided.1 ∙ to_policy d policy r objects has.waits ∙ e)) ∙
            reshaped (head_for r req) 1 good kind (length behind + 1) few (sized five there).0 (sized five there).1

    -- 5 is given to a waiting request of 1 to 5 exactly when it is none that a message can have
    pub five_exactly : (out : List ℕ) → d.standing ≡ Asking r → (BringsWrong d policy r objects → ⊥) →
        ((effect_of (policy_answer policy r objects) d out).refusal ≡ 5) ↔ (shape (head_for r req) 1 ≡ false)
    five_exactly out waits none = (
      λ e. unshaped ((given_exactly (policy_answer policy r objects) d out 5 (λ z. omega arith)).0 e) (shape (head_for r req) 1) refl,
      λ e. (given_exactly (policy_answer policy r objects) d out 5 (λ z. omega arith)).1 (wrongly e (policy_fate d r policy objects)),
    )
      where
        unshaped : GivenToPolicyAnswer d policy r objects out 5 → (t : Bool) → shape (head_for r req) 1 ≡ t → shape (head_for r req) 1 ≡ false
        unshaped given false e = e
        unshaped (not_waiting is why) true e = absurd (omega arith)
        unshaped (brings_wrong is w why) true e = absurd (omega arith)
        unshaped (wrong_shape is m has bad) true e = absurd (false≢true (sym bad ∙ answer_shaped e m has))
        unshaped (no_room_for_answer is m has good short) true e = absurd (omega arith)

        shape_of : (kind count : ℕ) (t : Bool) → shape (head_for r req) 1 ≡ false → shape (head_for r kind) count ≡ t → shape (head_for r kind) count ≡ false
        shape_of kind count true e f = absurd (false≢true (sym e ∙ request_shape (head_for r kind) count f five))
        shape_of kind count false e f = f

        wrongly : shape (head_for r req) 1 ≡ false → Fate d r policy objects (decide_policy d policy r objects) → GivenToPolicyAnswer d policy r objects out 5
        wrongly e (wrong brought f) = absurd (none brought)
        wrongly e (right kind behind next few sized is f) =
            wrong_shape refl (reply r kind behind) ((to_send_exactly d policy r objects (reply r kind behind)).0 (next, to_policy d policy r objects waits ∙ f))
            (is_shape (reply r kind behind) ∙ shape_of kind (length behind + 1) (shape (head_for r kind) (length behind + 1)) e refl)

  -- a sound dock never gives 5
  pub never_5 : Sound d → (out : List ℕ) → (effect_of (policy_answer policy r objects) d out).refusal ≡ 5 → ⊥
  never_5 sound out e = go ((given_exactly (policy_answer policy r objects) d out 5 (λ z. omega arith)).0 e)
    where
      asked : d.standing ≡ Asking r → Asked (Asking r)
      asked waits = subst Asked waits sound.asked_sound

      go : GivenToPolicyAnswer d policy r objects out 5 → ⊥
      go (not_waiting is why) = omega arith
      go (brings_wrong is w why) = omega arith
      go (wrong_shape is m has bad) =
          let a = asked has.waits in
          false≢true (sym bad ∙ answer_shaped sound.identity_there a.0 a.1 m has)
      go (no_room_for_answer is m has good short) = omega arith

-- and so no run does, from a fresh dock on
pub no_run_gives_5 : (calls : List (Call × List ℕ)) (policy : Policy) (r : Request) (objects out : List ℕ) →
    (effect_of (policy_answer policy r objects) (dock_after calls fresh_dock) out).refusal ≡ 5 → ⊥
no_run_gives_5 calls policy r objects out =
    never_5 (dock_after calls fresh_dock) policy r objects (sound_after calls fresh_dock fresh_sound) out
