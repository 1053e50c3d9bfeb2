-- The refusals of a message.
use mathlib.Core.Logic.{◌⊎◌, inl, inr}
use mathlib.Core.Path.{◌≡◌, refl, ap, subst, sym, ◌∙◌}
use mathlib.Core.Bool.{Bool, true, false, cond, not, ◌&&◌, false≢true}
use mathlib.Core.List.{List, []}
use Prim.Native.Nat.{ℕ, zero, suc, ◌+◌, ◌-◌, ◌/◌, ◌%◌, ◌<◌, ◌≤◌}
use native.Mathlib.Omega.{arith}
use lib.Dec.{leb, eqb}
use lib.ListN.{length}
use borrow.Author.Tests.{eqb-true, eqb-false, le-ltb, leb-true, leb-false}
use Rattle.messages.specs.Layout.{req, nak, Message}
use Rattle.messages.specs.Reading.{Outcome, accepted, refused, read_outcome}
use Rattle.messages.specs.Requests.{attention_command, request_of}
use Rattle.messages.specs.Table.{row_of, counts_of, one_to_five}
use Rattle.messages.specs.Writing.{well_shaped}
use Rattle.messages.specs.declared.edition.Edition.{Edition}
use Rattle.messages.proofs.Laws.{read_shape, read_refused_by, write_refused_11}
use Rattle.dock.specs.Dock.{Decision, refuses, accepts, sends, step_of, reply, asking, sending, decide_request, spoken_to, decide_message}
use Rattle.dock.specs.declared.Dock.{Dock}
use Rattle.dock.proofs.Decisions.{message_refused, message_answer, message_attention, message_request, request_zero, request_past}
use Rattle.dock.proofs.Shapes.{reshaped}
use Rattle.dock_laws.specs.Given.{TooShort, GivenToMessage, not_read, not_a_request, no_room_for_nak}
use Rattle.dock_laws.proofs.Sending.{sends_refusal, too_short, write_given}

-- the number before
number_before : (n : ℕ) → (n ≡ 0 → ⊥) → n ≡ 1 + (n - 1)
number_before zero h = absurd (h refl)
number_before (suc n) h = omega arith

-- commands 0 and 7..31, and the shape of their NAK
pub straight : (command : ℕ) → one_to_five command ≡ false → (command ≡ 6 → ⊥) → (command ≡ 0) ⊎ (6 < command)
straight command e six = go (leb 1 command) (leb command 5) (leb command 6) refl refl refl e
  where
    go : (l m s : Bool) → leb 1 command ≡ l → leb command 5 ≡ m → leb command 6 ≡ s → (l && m) ≡ false → (command ≡ 0) ⊎ (6 < command)
    go false m s el em es h = inl (omega (arith, leb-false 1 command el))
    go true true s el em es h = absurd (false≢true (sym h))
    go true false true el em es h = absurd (six (omega (arith, leb-false command 5 em, leb-true command 6 es)))
    go true false false el em es h = inr (leb-false command 6 es)

nak_row : (command : ℕ) → (command ≡ 0) ⊎ (6 < command) → (counts_of (row_of command) nak / 16 ≤ 1) × (1 ≤ counts_of (row_of command) nak % 16)
unfolding row_of counts_of
nak_row command (inl e) = subst (λ (c : ℕ). (counts_of (row_of c) nak / 16 ≤ 1) × (1 ≤ counts_of (row_of c) nak % 16)) (sym e) (omega arith, omega arith)
nak_row command (inr h) = rw (le-ltb command 7 h) (omega arith, omega arith)

pub nak_shape : (m : Message) → well_shaped m ≡ true → (m.head.command ≡ 0) ⊎ (6 < m.head.command) → well_shaped (reply (request_of m.head) nak []) ≡ true
unfolding well_shaped
nak_shape m good c =
    let row = nak_row m.head.command c in
    reshaped m.head (length m.objects + 1) good nak 1 (omega arith) row.0 row.1

pub nak_sent : (d : Dock) (bytes : List ℕ) (at : Edition) (m : Message) → read_outcome bytes ≡ accepted at m → m.head.kind ≡ req →
    (m.head.command ≡ 0) ⊎ (6 < m.head.command) →
    decide_message d (read_outcome bytes) ≡ sends (reply (request_of m.head) nak []) (sending false (spoken_to at d))
nak_sent d bytes at m read k (inl c) =
    message_request d (read_outcome bytes) at m m.head read refl k (λ z. omega (arith, c, z)) ∙
    request_zero (request_of m.head) (spoken_to at d) (omega (arith, c))
nak_sent d bytes at m read k (inr c) =
    message_request d (read_outcome bytes) at m m.head read refl k (λ z. omega (arith, c, z)) ∙
    request_past (request_of m.head) (spoken_to at d) (omega (arith, c)) (omega (arith, c))

module _ (d : Dock) (number : ℕ) (some : number ≡ 0 → ⊥) where
  -- a message
  module _ (bytes out : List ℕ) where
    abbrev decided : Decision → Type 0
    decided x = (step_of d x (length out)).refusal ≡ number

    module _ (at : Edition) (m : Message) (read : read_outcome bytes ≡ accepted at m) where
      request_given : m.head.kind ≡ req → (m.head.command ≡ 6 → ⊥) → decided (decide_request (spoken_to at d) (request_of m.head)) →
          GivenToMessage bytes out number
      unfolding decide_request step_of
      request_given k six = go (one_to_five m.head.command) refl
        where
          answered : (m.head.command ≡ 0) ⊎ (6 < m.head.command) →
              ((number ≡ 5) × (well_shaped (reply (request_of m.head) nak []) ≡ false)) ⊎
              ((number ≡ 11) × (well_shaped (reply (request_of m.head) nak []) ≡ true) × TooShort out (reply (request_of m.head) nak [])) →
              GivenToMessage bytes out number
          answered c (inl bad) = absurd (false≢true (sym bad.1 ∙ nak_shape m (read_shape bytes at m read) c))
          answered c (inr short) = no_room_for_nak short.0 at m read k c short.2

          go : (t : Bool) → one_to_five m.head.command ≡ t →
              decided (cond t (accepts (asking (request_of m.head) (spoken_to at d))) (sends (reply (request_of m.head) nak []) (sending false (spoken_to at d)))) →
              GivenToMessage bytes out number
          go true e h = absurd (some (sym h))
          go false e h =
              answered (straight m.head.command e six)
              (write_given number some (reply (request_of m.head) nak []) out (sym (sends_refusal d (reply (request_of m.head) nak []) (sending false (spoken_to at d)) (length out)) ∙ h))

      accepted_given : decided (decide_message d (accepted at m)) → GivenToMessage bytes out number
      unfolding decide_message step_of
      accepted_given = go (eqb m.head.kind req) (eqb m.head.command attention_command) refl refl
        where
          go : (k c : Bool) → eqb m.head.kind req ≡ k → eqb m.head.command attention_command ≡ c →
              decided (cond (k && not c) (decide_request (spoken_to at d) (request_of m.head)) (refuses 6)) → GivenToMessage bytes out number
          go false c ek ec h = not_a_request (sym h) at m read (inl (eqb-false m.head.kind req ek))
          go true true ek ec h = not_a_request (sym h) at m read (inr (eqb-true m.head.command attention_command ec))
          go true false ek ec h = request_given (eqb-true m.head.kind req ek) (eqb-false m.head.command attention_command ec) h

      -- and back
      six_refused : (m.head.kind ≡ req → ⊥) ⊎ (m.head.command ≡ attention_command) → decide_message d (read_outcome bytes) ≡ refuses 6
      six_refused (inl k) = message_answer d (read_outcome bytes) at m m.head read refl k
      six_refused (inr c) = go (eqb m.head.kind req) refl
        where
          go : (t : Bool) → eqb m.head.kind req ≡ t → decide_message d (read_outcome bytes) ≡ refuses 6
          go true e = message_attention d (read_outcome bytes) at m m.head read refl (eqb-true m.head.kind req e) c
          go false e = message_answer d (read_outcome bytes) at m m.head read refl (eqb-false m.head.kind req e)

    pub message_given : decided (decide_message d (read_outcome bytes)) → GivenToMessage bytes out number
    unfolding decide_message step_of
    message_given = go (read_outcome bytes) refl
      where
        go : (o : Outcome) → read_outcome bytes ≡ o → decided (decide_message d o) → GivenToMessage bytes out number
        go (refused k) e h =
            let is : number ≡ 1 + (number - 1) = number_before number some in
            not_read (number - 1) is ((read_refused_by bytes (number - 1)).0 (e ∙ ap refused (h ∙ is)))
        go (accepted at m) e h = accepted_given at m e h

    by_decision : (x : Decision) → decide_message d (read_outcome bytes) ≡ x → decided x → decided (decide_message d (read_outcome bytes))
    by_decision x e h = ap (λ (y : Decision). (step_of d y (length out)).refusal) e ∙ h

    pub message_refused_by : GivenToMessage bytes out number → decided (decide_message d (read_outcome bytes))
    unfolding step_of
    message_refused_by (not_read k is first) =
        by_decision (refuses (1 + k)) (message_refused d (read_outcome bytes) (1 + k) ((read_refused_by bytes k).1 first)) (sym is)
    message_refused_by (not_a_request is at m read why) = by_decision (refuses 6) (six_refused at m read why) (sym is)
    message_refused_by (no_room_for_nak is at m read k c short) =
        by_decision (sends (reply (request_of m.head) nak []) (sending false (spoken_to at d))) (nak_sent d bytes at m read k c)
        (sends_refusal d (reply (request_of m.head) nak []) (sending false (spoken_to at d)) (length out) ∙
        (write_refused_11 (reply (request_of m.head) nak []) (length out)).1
        (nak_shape m (read_shape bytes at m read) c, too_short (reply (request_of m.head) nak []) out short) ∙ sym is)
