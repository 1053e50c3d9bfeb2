-- What the dock hands over has the dock's edition: ACK, NAK and BUSY, and the NAK to commands 0 and 7..31 (02, R-5).
use mathlib.Core.Logic.{◌⊎◌}
use mathlib.Core.Path.{◌≡◌, refl, ap, ap₂, subst, sym, ◌∙◌}
use mathlib.Core.Bool.{Bool, true, false, cond, false≢true}
use mathlib.Core.List.{List, [], ◌++◌}
use Prim.Native.Nat.{ℕ, ◌<◌, ◌≤◌}
use native.Mathlib.Omega.{arith}
use lib.Dec.{eqb}
use lib.ListN.{length, take, drop}
use lib.Seq.{take-append_seam}
use borrow.Author.Tests.{eq-eqb, eqb-true, ltb-false, le-ltb}
use Rattle.messages.specs.Editions.{ours, lower}
use Rattle.messages.specs.Layout.{req, nak, Message, message_bytes, message_length}
use Rattle.messages.specs.Reading.{accepted, read_outcome}
use Rattle.messages.specs.Requests.{attention_command, request_of}
use Rattle.messages.specs.Writing.{write_refusal, written}
use Rattle.messages.specs.declared.edition.Edition.{Edition}
use Rattle.messages.specs.declared.request.Request.{Request}
use Rattle.messages.proofs.Laws.{read_shape, write_accepted}
use Rattle.messages.proofs.RoundTrip.{read_bytes}
use Rattle.messages.proofs.Stores.{length_message}
use Rattle.dock.specs.Data.{fresh_dock}
use Rattle.dock.specs.Dock.{Decision, refuses, accepts, sends, refused_by, accepted_by, step_of, buffer_of, reply, sending, spoken_to}
use Rattle.dock.specs.declared.Dock.{Dock}
use Rattle.dock.specs.declared.Policy.{Policy}
use Rattle.dock.specs.Step.{Step}
use Rattle.dock_laws.specs.Editions.{Newest, none, request, newest_in, edition_by, AskedBy, handed_over, SentAt}
use Rattle.dock_laws.specs.Effects.{Call, load, message, policy_answer, sent, failed, decision, room_for, effect_of, dock_after}
use Rattle.dock_laws.specs.Given.{HasToSend}
use Rattle.dock_laws.proofs.Editions.{is_asking, answer_keeps_edition, edition_newest, asked_newest}
use Rattle.dock_laws.proofs.Messages.{nak_shape, nak_sent}
use Rattle.dock_laws.proofs.Sending.{sends_refusal}
use Rattle.dock_laws.proofs.Sent.{to_send_exactly}

-- a message written whole stands at the front of the buffer
front : (at : Edition) (m : Message) (out : List ℕ) → write_refusal m (length out) ≡ 0 → take (message_length m) (written at m out) ≡ message_bytes at m
unfolding written
front at m out e =
    rw e
    (ap (λ (n : ℕ). take n (message_bytes at m ++ drop (message_length m) out)) (sym (length_message at m)) ∙
    take-append_seam (message_bytes at m) (drop (message_length m) out))

-- a call that decides to send, with room for the message
module _ (c : Call) (d : Dock) (out : List ℕ) (m : Message) (next : Dock) (is : decision c d ≡ sends m next) (lent : room_for c out ≡ length out)
    (room : write_refusal m (length out) ≡ 0) where
  whole : effect_of c d out ≡ accepted_by (message_length m) next
  unfolding step_of
  whole =
      ap (λ (x : Decision). step_of d x (room_for c out)) is ∙ ap (λ (n : ℕ). step_of d (sends m next) n) lent ∙
      rw (eq-eqb (write_refusal m (length out)) 0 room)

  bytes_over : handed_over c d out ≡ message_bytes next.edition m
  unfolding buffer_of
  bytes_over =
      ap₂ (λ (n : ℕ) (l : List ℕ). take n l) (ap (λ (s : Step). s.length) whole) (ap (λ (x : Decision). buffer_of x out) is) ∙ front next.edition m out room

  handed : SentAt c d out next.edition m
  handed =
      record {
        decided = (next, is);
        bytes_are = bytes_over;
        read_as = λ fits. ap read_outcome bytes_over ∙ read_bytes next.edition m fits ((write_accepted m (length out)).0 room).0;
      }

-- whatever a call sends has the edition of the dock afterwards
sends_some : (d : Dock) (x : Decision) (room : ℕ) → 0 < (step_of d x room).length → (m : Message) × (next : Dock) × (x ≡ sends m next) × (write_refusal m room ≡ 0)
unfolding step_of
sends_some d (refuses number) room h = absurd (omega arith)
sends_some d (accepts next) room h = absurd (omega arith)
sends_some d (sends m next) room h = go (eqb (write_refusal m room) 0) refl h
  where
    go : (t : Bool) → eqb (write_refusal m room) 0 ≡ t → 0 < (cond t (accepted_by (message_length m) next) (refused_by (write_refusal m room) d)).length →
        (m' : Message) × (next' : Dock) × (sends m next ≡ sends m' next') × (write_refusal m' room ≡ 0)
    go true e some = (m, next, refl, eqb-true (write_refusal m room) 0 e)
    go false e some = absurd (omega arith)

lent_whole : (c : Call) (out : List ℕ) → 0 < room_for c out → room_for c out ≡ length out
lent_whole (load identity svids) out h = absurd (omega arith)
lent_whole (message bytes) out h = refl
lent_whole (policy_answer policy r objects) out h = refl
lent_whole sent out h = absurd (omega arith)
lent_whole failed out h = absurd (omega arith)

pub sent_at : (c : Call) (d : Dock) (out : List ℕ) → 0 < (effect_of c d out).length → (m : Message) × SentAt c d out (effect_of c d out).dock.edition m
sent_at c d out some = go (sends_some d (decision c d) (room_for c out) some)
  where
    go : (m : Message) × (next : Dock) × (decision c d ≡ sends m next) × (write_refusal m (room_for c out) ≡ 0) →
        (m : Message) × SentAt c d out (effect_of c d out).dock.edition m
    go (m, next, is, room) =
        let lent : room_for c out ≡ length out =
        lent_whole c out (omega (arith, ltb-false (room_for c out) (message_length m) ((write_accepted m (room_for c out)).0 room).1)) in
        let there : write_refusal m (length out) ≡ 0 = sym (ap (write_refusal m) lent) ∙ room in
        let same : next.edition ≡ (effect_of c d out).dock.edition = sym (ap (λ (s : Step). s.dock.edition) (whole c d out m next is lent there)) in
        (m, subst (λ (at : Edition). SentAt c d out at m) same (handed c d out m next is lent there))

-- each answer that policy has to send, ACK, NAK or BUSY, has the dock's edition
pub answer_at : (d : Dock) (policy : Policy) (r : Request) (objects out : List ℕ) (m : Message) → HasToSend d policy r objects m →
    (effect_of (policy_answer policy r objects) d out).refusal ≡ 0 → SentAt (policy_answer policy r objects) d out d.edition m
answer_at d policy r objects out m has good =
    let c = policy_answer policy r objects in
    let decided = (to_send_exactly d policy r objects m).1 has in
    let next = decided.0 in
    let room : write_refusal m (length out) ≡ 0 =
    sym (sends_refusal d m next (length out)) ∙ sym (ap (λ (x : Decision). (step_of d x (length out)).refusal) decided.1) ∙ good in
    let kept : next.edition ≡ d.edition =
    sym (ap (λ (s : Step). s.dock.edition) (whole c d out m next decided.1 refl room)) ∙ answer_keeps_edition d out policy r objects in
    subst (λ (at : Edition). SentAt c d out at m) kept (handed c d out m next decided.1 refl room)

-- the NAK to commands 0 and 7..31 has the lower of its own request's edition and ours already
pub nak_at : (d : Dock) (bytes out : List ℕ) (e : Edition) (m : Message) → read_outcome bytes ≡ accepted e m → m.head.kind ≡ req →
    (m.head.command ≡ 0) ⊎ (attention_command < m.head.command) → 4 ≤ length out →
    SentAt (message bytes) d out (lower e ours) (reply (request_of m.head) nak [])
unfolding sending
nak_at d bytes out e m read is_req straight fits =
    let answer = reply (request_of m.head) nak [] in
    let room : write_refusal answer (length out) ≡ 0 =
    (write_accepted answer (length out)).1 (nak_shape m (read_shape bytes e m read) straight, le-ltb (length out) (message_length answer) fits) in
    handed (message bytes) d out answer (sending false (spoken_to e d)) (nak_sent d bytes e m read is_req straight) refl room

-- after any calls from a fresh dock: an answer is to the newest good request, and has the lower of its edition and ours
pub answered_at : (calls : List (Call × List ℕ)) (policy : Policy) (r : Request) (objects out : List ℕ) (m : Message) →
    HasToSend (dock_after calls fresh_dock) policy r objects m → (effect_of (policy_answer policy r objects) (dock_after calls fresh_dock) out).refusal ≡ 0 →
    (e : Edition) × (q : Message) × (newest_in calls fresh_dock ≡ request e q) × (request_of q.head ≡ r) ×
    SentAt (policy_answer policy r objects) (dock_after calls fresh_dock) out (lower e ours) m
unfolding fresh_dock
answered_at calls policy r objects out m has good =
    go (newest_in calls fresh_dock) refl (asked_newest calls fresh_dock r has.waits) (edition_newest calls fresh_dock)
  where
    d : Dock
    d = dock_after calls fresh_dock

    go : (n : Newest) → newest_in calls fresh_dock ≡ n → AskedBy (newest_in calls fresh_dock) fresh_dock r →
        d.edition ≡ edition_by (newest_in calls fresh_dock) fresh_dock.edition →
        (e : Edition) × (q : Message) × (newest_in calls fresh_dock ≡ request e q) × (request_of q.head ≡ r) ×
        SentAt (policy_answer policy r objects) d out (lower e ours) m
    go none is asked at = absurd (false≢true (ap is_asking (subst (λ (n : Newest). AskedBy n fresh_dock r) is asked)))
    go (request e q) is asked at = (
      e,
      q,
      is,
      subst (λ (n : Newest). AskedBy n fresh_dock r) is asked,
      subst (λ (x : Edition). SentAt (policy_answer policy r objects) d out x m) (at ∙ ap (λ (n : Newest). edition_by n fresh_dock.edition) is)
          (answer_at d policy r objects out m has good),
    )
