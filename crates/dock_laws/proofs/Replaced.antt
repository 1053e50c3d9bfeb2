-- A new good request while asking or sending replaces the old one, as if it had failed.
use mathlib.Core.Logic.{◌⊎◌, inl, inr}
use mathlib.Core.Path.{◌≡◌, refl, ap, sym, ◌∙◌}
use mathlib.Core.Bool.{Bool, true, false, cond, false≢true}
use mathlib.Core.List.{List, []}
use Prim.Native.Nat.{ℕ, ◌≤◌}
use native.Mathlib.Omega.{arith}
use lib.Dec.{eqb}
use lib.ListN.{length}
use borrow.Author.Tests.{eq-eqb, le-ltb}
use Rattle.messages.specs.Layout.{req, nak, Message, message_length}
use Rattle.messages.specs.Reading.{accepted, read_outcome}
use Rattle.messages.specs.Requests.{attention_command, request_of}
use Rattle.messages.specs.Table.{one_to_five}
use Rattle.messages.specs.Writing.{write_refusal}
use Rattle.messages.specs.declared.edition.Edition.{Edition}
use Rattle.messages.specs.declared.request.Request.{Request}
use Rattle.messages.proofs.Laws.{read_shape, write_accepted}
use Rattle.dock.specs.Data.{with_page, with_standing}
use Rattle.dock.specs.Dock.{Decision, accepts, sends, step_of, buffer_of, reply, asking, sending, decide_request, spoken_to, moved}
use Rattle.dock.specs.declared.Dock.{Dock}
use Rattle.dock.specs.declared.Standing.TheVariants.{Asking, Sending}
use Rattle.dock.proofs.Decisions.{message_request, failed_ready}
use Rattle.dock_laws.specs.Effects.{message, failed, decision, effect_of, as_failed}
use Rattle.dock_laws.proofs.Messages.{straight, nak_shape}

-- "failed" leads there
pub failed_leads : (d : Dock) (is_page : Bool) (out : List ℕ) → d.standing ≡ Sending is_page → (effect_of failed d out).dock ≡ as_failed d
unfolding step_of moved
failed_leads d is_page out e = ap (λ (x : Decision). (step_of d x 0).dock) (failed_ready d d.standing is_page e)

asking_same : (r : Request) (d : Dock) → asking r (as_failed d) ≡ asking r d
unfolding asking
asking_same r d = go (eqb r.command 1)
  where
    go : (t : Bool) → with_standing (Asking r) (cond t (with_page 0 (as_failed d)) (as_failed d)) ≡ with_standing (Asking r) (cond t (with_page 0 d) d)
    go true = refl
    go false = refl

request_same : (r : Request) (d : Dock) → decide_request (as_failed d) r ≡ decide_request d r
unfolding decide_request sending
request_same r d = ap (λ (x : Dock). cond (one_to_five r.command) (accepts x) (sends (reply r nak []) (sending false d))) (asking_same r d)

module _ (d : Dock) (bytes out : List ℕ) (at : Edition) (m : Message) (read : read_outcome bytes ≡ accepted at m) (is_req : m.head.kind ≡ req)
    (other : m.head.command ≡ attention_command → ⊥) (room : (one_to_five m.head.command ≡ true) ⊎ (4 ≤ length out)) where
  abbrev asked : Request
  asked = request_of m.head

  decides : (x : Dock) → decision (message bytes) x ≡ decide_request (spoken_to at x) asked
  decides x = message_request x (read_outcome bytes) at m m.head read refl is_req other

  same_decision : decision (message bytes) (as_failed d) ≡ decision (message bytes) d
  same_decision = decides (as_failed d) ∙ request_same asked (spoken_to at d) ∙ sym (decides d)

  -- the step of a good request does not depend on the state that a refusal would keep
  accepted_same : (x : Dock) → step_of x (decide_request (spoken_to at d) asked) (length out) ≡ step_of d (decide_request (spoken_to at d) asked) (length out)
  unfolding step_of decide_request
  accepted_same x = go (one_to_five m.head.command) refl room
    where
      answer : Message
      answer = reply asked nak []

      written_whole : one_to_five m.head.command ≡ false → 4 ≤ length out → write_refusal answer (length out) ≡ 0
      written_whole e h =
          (write_accepted answer (length out)).1
          (nak_shape m (read_shape bytes at m read) (straight m.head.command e other), le-ltb (length out) (message_length answer) (omega arith))

      go : (t : Bool) → one_to_five m.head.command ≡ t → (t ≡ true) ⊎ (4 ≤ length out) →
          step_of x (cond t (accepts (asking asked (spoken_to at d))) (sends answer (sending false (spoken_to at d)))) (length out) ≡
          step_of d (cond t (accepts (asking asked (spoken_to at d))) (sends answer (sending false (spoken_to at d)))) (length out)
      go true e h = refl
      go false e (inl h) = absurd (false≢true h)
      go false e (inr h) = rw (eq-eqb (write_refusal answer (length out)) 0 (written_whole e h))

  -- the step and the buffer are those of a dock whose old request has failed
  pub replaced_as_failed : (effect_of (message bytes) d out ≡ effect_of (message bytes) (as_failed d) out) ×
      (buffer_of (decision (message bytes) d) out ≡ buffer_of (decision (message bytes) (as_failed d)) out)
  replaced_as_failed = (
    ap (λ (x : Decision). step_of d x (length out)) (decides d) ∙ sym (accepted_same (as_failed d)) ∙
        ap (λ (x : Decision). step_of (as_failed d) x (length out)) (sym (decides d) ∙ sym same_decision),
    ap (λ (x : Decision). buffer_of x out) (sym same_decision),
  )
