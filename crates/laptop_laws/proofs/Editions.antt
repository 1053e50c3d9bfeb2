-- The edition after each call, and that of what it sends (02, R-5).
use mathlib.Core.Path.{◌≡◌, refl, ap, subst, sym, ◌∙◌}
use mathlib.Core.Bool.{Bool, true, false, cond, ◌&&◌, ◌||◌}
use mathlib.Core.List.{List, ◌++◌}
use Prim.Native.Nat.{ℕ, ◌<◌}
use native.Mathlib.Omega.{arith}
use lib.Dec.{leb, ltb, eqb}
use lib.ListN.{length, take}
use lib.ListN.{drop as dropFirst}
use lib.Seq.{take-append_seam}
use borrow.Author.Tests.{eqb-true}
use Rattle.messages.specs.Editions.{ours}
use Rattle.messages.specs.Layout.{Message, message_bytes, message_length}
use Rattle.messages.specs.Reading.{accepted, read_outcome}
use Rattle.messages.specs.Writing.{write_refusal, written}
use Rattle.messages.specs.declared.edition.Edition.{Edition}
use Rattle.messages.specs.declared.request.Request.{Request}
use Rattle.messages.proofs.Laws.{read_write}
use Rattle.messages.proofs.Stores.{length_message}
use Rattle.hearing.specs.Hearing.{fits}
use Rattle.laptop.specs.Calls.{Decision, refuses, accepts, sends, refused_by, sent_by, step_of, buffer_of, unless, short_runs}
use Rattle.laptop.specs.State.{Memory, dropped, counted}
use Rattle.owner.specs.Owner.{request_message, decide_drop, decide_enter, decide_exit}
use Rattle.timers.specs.Timers.{over, decide_timer, decide_error}
use Rattle.laptop.specs.declared.Laptop.{Laptop}
use Rattle.laptop.specs.Step.{Step}
use Rattle.laptop.specs.declared.Told.{Told}
use Rattle.laptop.specs.declared.Told.TheVariants.{Timer, ProtocolError}
use Rattle.std.specs.Prelude.{Option, Some, None}
use Rattle.laptop_laws.specs.Editions.{Said, nothing, acknowledged, edition_by, is_awaited_ack, acknowledgement, edition_after, request_edition, SentAt}
use Rattle.laptop_laws.specs.Effects.{Call, message, next, start_over, drop, enter, exit, timer, protocol_error, decided, effect_of}
use Rattle.laptop_laws.specs.Refusing.{brings_page, brings_late_page, left_by}
use Rattle.laptop_laws.specs.WellFormed.{awaits_identity}
use Rattle.laptop_laws.proofs.Refusing.{refusal_state}
use Rattle.laptop_laws.proofs.Saying.{counted_edition, message_says, Decides, next_decides, start_decides, drop_decides, enter_decides, exit_decides, timer_decides, error_decides, call_says}

-- ONE CALL: the edition afterwards
pub call_edition : (c : Call) (l : Laptop) (m : Memory) (out : List ℕ) → (effect_of c l m out).step.laptop.edition ≡ edition_after c l m out
call_edition c l m out = (call_says c l m out).edition_is

-- a refused call changes no edition
left_edition : (number : ℕ) (c : Call) (l : Laptop) → (left_by number c l).edition ≡ l.edition
left_edition number c l = go (eqb number 8 || eqb number 14) (brings_page c) (eqb number 6 && brings_late_page c l)
  where
    go : (a p b : Bool) → (cond a (dropped (cond p (counted l) l)) (cond b (dropped l) l)).edition ≡ l.edition
    go true true b = counted_edition l
    go true false b = refl
    go false p true = refl
    go false p false = refl

pub refusal_keeps : (c : Call) (l : Laptop) (m : Memory) (out : List ℕ) → ((effect_of c l m out).step.refusal ≡ 0 → ⊥) →
    (effect_of c l m out).step.laptop.edition ≡ l.edition
refusal_keeps c l m out n =
    ap (λ (s : Step). s.laptop.edition) (refusal_state c l m out n) ∙ left_edition (effect_of c l m out).step.refusal c l

-- a message that acknowledges no awaited Identity changes none: NAK and BUSY, the ACKs of other commands, Attention, late pages, a late Identity ACK
module _ (l : Laptop) (m : Memory) (out bytes : List ℕ) (at : Edition) (x : Message) (read : read_outcome bytes ≡ accepted at x) where
  unacknowledged_keeps : is_awaited_ack l.wait x.head ≡ false → (effect_of (message bytes) l m out).step.laptop.edition ≡ l.edition
  unacknowledged_keeps e =
      (message_says l m bytes).1.edition_is ∙ ap (λ (s : Said). edition_by s l.edition) (go (short_runs (length m.run) (length m.held_run)))
    where
      none : acknowledgement l (read_outcome bytes) ≡ nothing
      none = ap (acknowledgement l) read ∙ ap (λ (t : Bool). cond t (acknowledged at) nothing) e

      go : (t : Bool) → cond t nothing (acknowledgement l (read_outcome bytes)) ≡ nothing
      go true = refl
      go false = none

  pub other_keeps : ((x.head.command ≡ 1) × (x.head.kind ≡ 1) → ⊥) → (effect_of (message bytes) l m out).step.laptop.edition ≡ l.edition
  other_keeps other = unacknowledged_keeps (go (fits l.wait x.head) (eqb x.head.command 1) (eqb x.head.kind 1) refl refl)
    where
      go : (f c k : Bool) → eqb x.head.command 1 ≡ c → eqb x.head.kind 1 ≡ k → (f && (c && k)) ≡ false
      go f true true ec ek = absurd (other (eqb-true _ 1 ec, eqb-true _ 1 ek))
      go true true false ec ek = refl
      go false true false ec ek = refl
      go true false k ec ek = refl
      go false false k ec ek = refl

  pub unawaited_keeps : fits l.wait x.head ≡ false → (effect_of (message bytes) l m out).step.laptop.edition ≡ l.edition
  unawaited_keeps e = unacknowledged_keeps (ap (λ (t : Bool). t && (eqb x.head.command 1 && eqb x.head.kind 1)) e)

-- nor do drop, enter, exit, a timer or the protocol error
abbrev Keeps : Laptop → Decision → Type 0
Keeps l (refuses number after) = after.edition ≡ l.edition
Keeps l (accepts told after) = after.edition ≡ l.edition
Keeps l (sends x after) = after.edition ≡ l.edition

either : (l : Laptop) (t : Bool) (a b : Decision) → Keeps l a → Keeps l b → Keeps l (cond t a b)
either l true a b ka kb = ka
either l false a b ka kb = kb

unless_keeps : (l : Laptop) (number : ℕ) (d : Decision) → Keeps l d → Keeps l (unless number l d)
unfolding unless
unless_keeps l number d k = either l (eqb number 0) d _ k refl

over_keeps : (l : Laptop) (r : Request) (told : Told) → Keeps l (over l r told)
unfolding over
over_keeps l r told = either l (eqb r.command 1) _ _ refl (either l (ltb r.command 4) _ _ refl refl)

step_keeps : (l : Laptop) (d : Decision) (room : ℕ) → Keeps l d → (step_of l d room).laptop.edition ≡ l.edition
unfolding step_of
step_keeps l (refuses number after) room k = k
step_keeps l (accepts told after) room k = k
step_keeps l (sends x after) room k = go (eqb (write_refusal x room) 0)
  where
    go : (t : Bool) → (cond t (sent_by (message_length x) after) (refused_by (write_refusal x room) l)).laptop.edition ≡ l.edition
    go true = k
    go false = refl

module _ (l : Laptop) (m : Memory) (out : List ℕ) where
  pub drop_keeps : (effect_of drop l m out).step.laptop.edition ≡ l.edition
  unfolding decide_drop
  drop_keeps = step_keeps l _ (length out) (unless_keeps l _ _ refl)

  pub enter_keeps : (svid position : ℕ) → (effect_of (enter svid position) l m out).step.laptop.edition ≡ l.edition
  unfolding decide_enter
  enter_keeps svid position = step_keeps l _ (length out) (unless_keeps l _ _ (unless_keeps l _ _ (unless_keeps l _ _ refl)))

  pub exit_keeps : (svid position : ℕ) → (effect_of (exit svid position) l m out).step.laptop.edition ≡ l.edition
  unfolding decide_exit
  exit_keeps svid position = step_keeps l _ (length out) (unless_keeps l _ _ (unless_keeps l _ _ refl))

  pub timer_keeps : (first last : ℕ) → (effect_of (timer first last) l m out).step.laptop.edition ≡ l.edition
  unfolding decide_timer
  timer_keeps first last = step_keeps l _ (length out) (go l.wait)
    where
      go : (w : Option Request) → Keeps l (decide_timer first last l w)
      go None = refl
      go (Some r) = either l (leb first r.command && leb r.command last) _ _ (over_keeps l r (Timer r)) refl

  pub error_keeps : (effect_of protocol_error l m out).step.laptop.edition ≡ l.edition
  unfolding decide_error
  error_keeps = step_keeps l _ (length out) (go l.wait)
    where
      go : (w : Option Request) → Keeps l (decide_error l w)
      go None = refl
      go (Some r) = over_keeps l r (ProtocolError r)

-- what is sent, and at which edition
first_bytes : (at : Edition) (r : Request) (out : List ℕ) → write_refusal (request_message r) (length out) ≡ 0 →
    take 4 (written at (request_message r) out) ≡ message_bytes at (request_message r)
unfolding written
first_bytes at r out e =
    rw e (ap (λ (n : ℕ). take n (message_bytes at (request_message r) ++ dropFirst 4 out)) (sym (length_message at (request_message r))) ∙
    take-append_seam (message_bytes at (request_message r)) (dropFirst 4 out))

abbrev Sends : Laptop → List ℕ → Memory → Decision → Type 0
Sends l out m d = 0 < (step_of l d (length out)).length → (r : Request) × SentAt (request_edition r l.edition) r (decided l m out d)

request_sent : (l after : Laptop) (m : Memory) (out : List ℕ) (r : Request) → after.wait ≡ Some r → after.edition ≡ request_edition r l.edition →
    Sends l out m (sends (request_message r) after)
unfolding step_of buffer_of
request_sent l after m out r waits at = go (eqb (write_refusal (request_message r) (length out)) 0) refl
  where
    go : (t : Bool) → eqb (write_refusal (request_message r) (length out)) 0 ≡ t →
        0 < (cond t (sent_by 4 after) (refused_by (write_refusal (request_message r) (length out)) l)).length →
        (q : Request) × SentAt (request_edition q l.edition) q
        (record {
          step = cond t (sent_by 4 after) (refused_by (write_refusal (request_message r) (length out)) l);
          after = m;
          buffer = written after.edition (request_message r) out;
        })
    go true e h = (
      r,
      record {
        awaited = waits;
        edition_is = at;
        bytes_are = first_bytes after.edition r out (eqb-true _ 0 e) ∙ ap (λ (x : Edition). message_bytes x (request_message r)) at;
        read_again = λ fits.
            read_write after.edition (request_message r) (record { svid_fits = fits; objects_fit = λ k. omega arith }) out (eqb-true _ 0 e) ∙
            ap (λ (x : Edition). accepted x (request_message r)) at;
      },
    )
    go false e h = absurd (omega (arith, h))

decided_sent : (l : Laptop) (m : Memory) (out : List ℕ) (d : Decision) → Decides l d → Sends l out m d
unfolding step_of buffer_of
decided_sent l m out (refuses number after) h some = absurd (omega (arith, some))
decided_sent l m out (accepts told after) h some = absurd (omega (arith, some))
decided_sent l m out (sends x after) h some =
    subst (λ (y : Message). Sends l out m (sends y after)) (sym h.1) (request_sent l after m out h.0 h.2 h.3) some

-- WHAT IS SENT: a request whose bytes say its edition, Identity ours and every other that of the laptop
pub sent_at : (c : Call) (l : Laptop) (m : Memory) (out : List ℕ) → 0 < (effect_of c l m out).step.length →
    (r : Request) × SentAt (request_edition r l.edition) r (effect_of c l m out)
sent_at (message bytes) l m out some = absurd (omega (arith, some, (message_says l m bytes).0))
sent_at next l m out some = decided_sent l m out _ (next_decides l m.svids m.entered _ _) some
sent_at start_over l m out some = decided_sent l m out _ (start_decides l m.entered _ _) some
sent_at drop l m out some = decided_sent l m out _ (drop_decides l _ _) some
sent_at (enter svid position) l m out some = decided_sent l m out _ (enter_decides l m.held_svids m.held_modes m.entered _ _ svid position) some
sent_at (exit svid position) l m out some = decided_sent l m out _ (exit_decides l m.held_svids m.held_modes m.entered _ _ svid position) some
sent_at (timer first last) l m out some = decided_sent l m out _ (timer_decides first last l l.wait) some
sent_at protocol_error l m out some = decided_sent l m out _ (error_decides l l.wait) some

-- so Identity always goes out at ours, and every other request at the edition that the laptop had
module _ (c : Call) (l : Laptop) (m : Memory) (out : List ℕ) (some : 0 < (effect_of c l m out).step.length) where
  by_identity : (t : Bool) → awaits_identity (effect_of c l m out).step.laptop.wait ≡ t →
      (r : Request) × SentAt (cond t ours l.edition) r (effect_of c l m out)
  by_identity t e =
      let sent = sent_at c l m out some in
      let is : eqb sent.0.command 1 ≡ t = sym (ap awaits_identity sent.1.awaited) ∙ e in
      (sent.0, subst (λ (u : Bool). SentAt (cond u ours l.edition) sent.0 (effect_of c l m out)) is sent.1)

  pub identity_at_ours : awaits_identity (effect_of c l m out).step.laptop.wait ≡ true → (r : Request) × SentAt ours r (effect_of c l m out)
  identity_at_ours e = by_identity true e

  pub others_at_edition : awaits_identity (effect_of c l m out).step.laptop.wait ≡ false → (r : Request) × SentAt l.edition r (effect_of c l m out)
  others_at_edition e = by_identity false e
