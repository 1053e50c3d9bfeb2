-- What reading and writing keep, for whoever stands above: the laws that the promises of `read` and `write` give, by name.
use mathlib.Core.Logic.{◌↔◌}
use mathlib.Core.Path.{◌≡◌, refl, ap, ap₂, sym, ◌∙◌}
use mathlib.Core.Bool.{Bool, true, false, cond, not, false≢true}
use mathlib.Core.List.{List, [], ◌++◌, append-nil}
use Prim.Native.Nat.{ℕ, ◌+◌, ◌/◌, ◌<◌, ◌≤◌}
use native.Mathlib.Omega.{arith}
use lib.Dec.{ltb}
use lib.ListN.{length, get_or, take, drop, length-set}
use lib.Seq.{take-append_seam, drop-length}
use Rattle.laws.specs.Bounded.{Below}
use Rattle.laws.specs.Lines.{first_at}
use Rattle.laws.specs.Padded.{padded}
use Rattle.laws.proofs.Lines.{first_line_lem, first_at_lem}
use Rattle.messages.specs.Layout.{head_of, Message, Representable, message_bytes, message_length, with_version, with_reserved_clear}
use Rattle.messages.specs.Table.{row_of, counts_of, shape, allowed, first_head}
use Rattle.messages.specs.Reading.{header_in, read_lines, read_refusal, message_in, Outcome, accepted, refused, read_outcome, shown}
use Rattle.messages.specs.Reading.{as_shown}
use Rattle.std.specs.Prelude.{Result, Ok, Err}
use Rattle.messages.specs.declared.Received.{Received}
use Rattle.messages.specs.declared.refusal.Refusal.{Refusal}
use Rattle.messages.specs.Writing.{well_shaped, write_refusal, written, Written}
use Rattle.messages.specs.Reading.{Refused}
use Rattle.messages.specs.Reading.{ReadAsMessage}
use Rattle.messages.specs.declared.Head.{Head}
use Rattle.messages.specs.Reading.{Reading}
use Rattle.messages.specs.declared.edition.Edition.{Edition}
use Rattle.messages.proofs.Refusals.{read_refused, outcome_refused}
use Rattle.messages.proofs.Numbers.{number_once}
use Rattle.messages.proofs.RoundTrip.{read_bytes, bytes_read, accepted_shape, accepted_fits, message_bytes_lem}
use Rattle.messages.proofs.Rule.{shape_allowed, shape_least, shape_count, pair_has}
use Rattle.messages.proofs.Stores.{length_message, write_whole}

-- writing is refused 5 exactly for a wrong shape, 11 exactly for a short buffer under a good one, and by no other number
pub write_refused_5 : (m : Message) (room : ℕ) → (write_refusal m room ≡ 5) ↔ (well_shaped m ≡ false)
unfolding write_refusal
write_refused_5 m room = go (well_shaped m) (ltb room (message_length m))
  where
    go : (s t : Bool) → (◌≡◌ {A = ℕ} (cond (not s) 5 (cond t 11 0)) 5) ↔ (s ≡ false)
    go true true = (λ e. absurd (omega arith), λ e. absurd (false≢true (sym e)))
    go true false = (λ e. absurd (omega arith), λ e. absurd (false≢true (sym e)))
    go false t = (λ e. refl, λ e. refl)

pub write_refused_11 : (m : Message) (room : ℕ) →
    (write_refusal m room ≡ 11) ↔ ((well_shaped m ≡ true) × (ltb room (message_length m) ≡ true))
unfolding write_refusal
write_refused_11 m room = go (well_shaped m) (ltb room (message_length m))
  where
    go : (s t : Bool) → (◌≡◌ {A = ℕ} (cond (not s) 5 (cond t 11 0)) 11) ↔ ((s ≡ true) × (t ≡ true))
    go true true = (λ e. (refl, refl), λ e. refl)
    go true false = (λ e. absurd (omega arith), λ e. absurd (false≢true e.1))
    go false t = (λ e. absurd (omega arith), λ e. absurd (false≢true e.0))

pub write_accepted : (m : Message) (room : ℕ) →
    (write_refusal m room ≡ 0) ↔ ((well_shaped m ≡ true) × (ltb room (message_length m) ≡ false))
unfolding write_refusal
write_accepted m room = go (well_shaped m) (ltb room (message_length m))
  where
    go : (s t : Bool) → (◌≡◌ {A = ℕ} (cond (not s) 5 (cond t 11 0)) 0) ↔ ((s ≡ true) × (t ≡ false))
    go true true = (λ e. absurd (omega arith), λ e. absurd (false≢true (sym e.1)))
    go true false = (λ e. (refl, refl), λ e. refl)
    go false t = (λ e. absurd (omega arith), λ e. absurd (false≢true e.0))

-- what was written at an edition is read again, with it
pub read_write : (at : Edition) (m : Message) → Representable m → (out : List ℕ) → write_refusal m (length out) ≡ 0 →
    read_outcome (take (message_length m) (written at m out)) ≡ accepted at m
unfolding written
read_write at m fits out e =
    let kept : take (message_length m) (written at m out) ≡ message_bytes at m =
    rw e (ap (λ (n : ℕ). take n (message_bytes at m ++ drop (message_length m) out)) (sym (length_message at m)) ∙
    take-append_seam (message_bytes at m) (drop (message_length m) out)) in
    ap read_outcome kept ∙ read_bytes at m fits ((write_accepted m (length out)).0 e).0

-- what was read is written again at its own edition, with bit 5 cleared and the version bits in that edition's form
pub write_read : (b : List ℕ) → Below 256 b → (at : Edition) (m : Message) → read_outcome b ≡ accepted at m → (out : List ℕ) → length out ≡ length b →
    Written at m out 0 (with_version at (with_reserved_clear b))
unfolding with_version with_reserved_clear
write_read b below at m e out room =
    let bytes : message_bytes at m ≡ with_version at (with_reserved_clear b) = bytes_read b at m below e in
    let size : message_length m ≡ length out = sym (length_message at m) ∙ ap length bytes ∙ length-set (with_reserved_clear b) 1 _ ∙ length-set b 0 _ ∙ sym room in
    let rest : drop (message_length m) out ≡ [] = ap (λ (n : ℕ). drop n out) size ∙ drop-length out in
    write_whole at m out (accepted_shape b at m e) (omega (arith, size)) (with_version at (with_reserved_clear b))
    (sym bytes ∙ sym (append-nil (message_bytes at m)) ∙ ap (λ (l : List ℕ). message_bytes at m ++ l) (sym rest))

-- what was read has a good shape and fits the layout's widths, and what is written are bytes
pub read_shape : (b : List ℕ) (at : Edition) (m : Message) → read_outcome b ≡ accepted at m → well_shaped m ≡ true
read_shape b at m e = accepted_shape b at m e

-- at most six objects stand behind the header
pub read_count : (b : List ℕ) (at : Edition) (m : Message) → read_outcome b ≡ accepted at m → length m.objects ≤ 6
unfolding well_shaped
read_count b at m e = omega (arith, (shape_count m.head (length m.objects + 1) (accepted_shape b at m e)).1)

-- an Identity ACK has three objects or more behind the header, a Modes ACK one or more
ack_least : (m : Message) (command : ℕ) → well_shaped m ≡ true → m.head.command ≡ command → m.head.kind ≡ 1 →
    counts_of (row_of command) 1 / 16 ≤ length m.objects + 1
unfolding well_shaped
ack_least m command good ec ek =
    let least = shape_least m.head (length m.objects + 1) good in
    let row : counts_of (row_of m.head.command) m.head.kind ≡ counts_of (row_of command) 1 = ap₂ (λ (c k : ℕ). counts_of (row_of c) k) ec ek in
    omega (arith, least, row)

pub identity_least : (m : Message) → well_shaped m ≡ true → m.head.command ≡ 1 → m.head.kind ≡ 1 → 3 ≤ length m.objects
unfolding counts_of row_of
identity_least m good ec ek = omega (arith, ack_least m 1 good ec ek)

pub modes_least : (m : Message) → well_shaped m ≡ true → m.head.command ≡ 3 → m.head.kind ≡ 1 → 1 ≤ length m.objects
unfolding counts_of row_of
modes_least m good ec ek = omega (arith, ack_least m 3 good ec ek)

pub read_fits : (b : List ℕ) (at : Edition) (m : Message) → Below 256 b → read_outcome b ≡ accepted at m → Representable m
read_fits b at m below e = accepted_fits b at m below e

pub write_fits : (at : Edition) (m : Message) → Below 256 (message_bytes at m)
write_fits at m = message_bytes_lem at m

-- a result that a promise allows is the only one
shown_once : (r r' : Result Received Refusal) → as_shown r ≡ as_shown r' → r ≡ r'
shown_once (Ok a) (Ok b) e =
    let same : ReadAsMessage a.edition a.head a.count ≡ ReadAsMessage b.edition b.head b.count = ap (λ (s : Reading). s.outcome) e in
    let edition : a.edition ≡ b.edition = cc in
    let head : a.head ≡ b.head = cc in
    let count : a.count ≡ b.count = cc in
    let objects : a.objects ≡ b.objects = ap (λ (s : Reading). s.objects) e in
    λ i. Ok (record { edition = edition i; head = head i; count = count i; objects = objects i })
shown_once (Ok a) (Err q) e = absurd (let o : ◌≡◌ {A = ℕ} 0 1 = cc (ap (λ (s : Reading). s.outcome) e) in omega arith)
shown_once (Err p) (Ok b) e = absurd (let o : ◌≡◌ {A = ℕ} 0 1 = cc (ap (λ (s : Reading). s.outcome) e) in omega arith)
shown_once (Err p) (Err q) e = ap Err (number_once p q (cc (ap (λ (s : Reading). s.outcome) e)))

pub read_only : (b : List ℕ) (r r' : Result Received Refusal) →
    as_shown r ≡ shown (read_outcome b) → as_shown r' ≡ shown (read_outcome b) → r ≡ r'
read_only b r r' e e' = shown_once r r' (e ∙ sym e')

pub write_only : (at : Edition) (m : Message) (out : List ℕ) (number number' : ℕ) (after after' : List ℕ) →
    Written at m out number after → Written at m out number' after' → (number ≡ number') × (after ≡ after')
write_only at m out number number' after after' w w' =
    (w.number_is ∙ sym w'.number_is, w.buffer_is ∙ sym w'.buffer_is)

-- for whoever takes what was read apart: each case of it is one of the outcome
pub shown_refused : (o : Outcome) (r : Reading) (number : ℕ) → r ≡ shown o → r.outcome ≡ Refused number → o ≡ refused number
unfolding shown
shown_refused (accepted at m) r number e a = absurd (let o : ◌≡◌ {A = ℕ} 0 1 = cc (ap (λ (s : Reading). s.outcome) e) in omega arith)
shown_refused (refused n) r number e a = cc (ap (λ (s : Reading). s.outcome) e)

pub shown_message : (o : Outcome) (r : Reading) (at : Edition) (h : Head) (count : ℕ) → r ≡ shown o → r.outcome ≡ ReadAsMessage at h count →
    (m : Message) × (o ≡ accepted at m) × (m.head ≡ h) × (length m.objects ≡ count) × (padded m.objects ≡ r.objects)
unfolding shown
shown_message (accepted e m) r at h count is a =
    let same : ReadAsMessage e m.head (length m.objects) ≡ ReadAsMessage at h count = sym (ap (λ (s : Reading). s.outcome) is) ∙ a in
    let edition : e ≡ at = cc in
    (m, ap (λ (x : Edition). accepted x m) edition, cc, cc, ap (λ (s : Reading). s.objects) (sym is))
shown_message (refused n) r at h count is a = absurd (let o : ◌≡◌ {A = ℕ} 0 1 = cc (ap (λ (s : Reading). s.outcome) is) in omega arith)

-- reading is refused by a number exactly when that line of the table is the first that holds; there are lines 1 to 5, of which 4 is withdrawn
pub read_refused_by : (b : List ℕ) (k : ℕ) → (read_outcome b ≡ refused (1 + k)) ↔ (first_at (read_lines b) k ≡ true)
unfolding read_refusal
read_refused_by b k = (
  λ e. (first_line_lem 1 (read_lines b) k (omega arith)).0 (outcome_refused b (1 + k) e),
  λ e. read_refused b (1 + k) (λ z. omega arith) ((first_line_lem 1 (read_lines b) k (omega arith)).1 e),
)

-- a pair of command and type that the table does not allow is 5, read or written
pair_shape : (h : Head) (count : ℕ) → allowed h.command h.kind ≡ false → shape h count ≡ false
pair_shape h count none = go (shape h count) refl
  where
    go : (t : Bool) → shape h count ≡ t → shape h count ≡ false
    go true e = absurd (false≢true (sym none ∙ shape_allowed h count e))
    go false e = e

pub write_pair : (m : Message) (room : ℕ) → allowed m.head.command m.head.kind ≡ false → write_refusal m room ≡ 5
unfolding well_shaped
write_pair m room none = (write_refused_5 m room).1 (pair_shape m.head (length m.objects + 1) none)

pub read_pair : (b : List ℕ) → ((k : ℕ) → k < 4 → get_or (read_lines b) k false ≡ false) →
    allowed (message_in b).head.command (message_in b).head.kind ≡ false → read_outcome b ≡ refused 5
unfolding message_in
read_pair b before none =
    (read_refused_by b 4).1 (first_at_lem (read_lines b) 4 before (ap not (pair_shape (head_of (header_in b)) (length b / 4) none)))

-- and each pair that it allows has a message
pub pair_occurs : (command kind : ℕ) → allowed command kind ≡ true →
    (count : ℕ) × (shape (first_head command kind) count ≡ true)
pair_occurs command kind e = (counts_of (row_of command) kind / 16, pair_has command kind e)
