-- Reading what was written, and writing what was read.
use mathlib.Core.Path.{◌≡◌, refl, ap, ap₂, subst, sym, ◌∙◌}
use mathlib.Core.Bool.{Bool, true, false, cond, ◌&&◌}
use mathlib.Core.List.{List, [], ◌∷◌, ◌++◌}
use Prim.Native.Nat.{ℕ, zero, suc, ◌+◌, ◌*◌, ◌/◌, ◌%◌, ◌^◌, ◌<◌, ◌≤◌}
use native.Mathlib.Nat.{mod-lt}
use native.Mathlib.Omega.{arith}
use lib.Dec.{leb, eqb}
use lib.ListN.{length, get_or, drop, length-drop}
use borrow.Author.Tests.{eqb-true, eqb-false, leb-true, not-false}
use Rattle.laws.specs.Bounded.{Below}
use Rattle.laws.specs.Lines.{first_line}
use Rattle.laws.proofs.Lines.{and_left, and_right, none_holds}
use Rattle.messages.specs.Editions.{major_of, minor_of}
use Rattle.messages.specs.Layout.{bits, object_of, bytes_of_object, objects_of, bytes_of, structured, edition_said, head_of, header_of, Message, Representable, message_bytes, with_version, without_reserved, with_reserved_clear}
use Rattle.messages.specs.Table.{shape}
use Rattle.messages.specs.Reading.{header_lines, header_in, read_lines, read_refusal, message_in, edition_in, accepted, refused, outcome, read_outcome}
use Rattle.messages.specs.Writing.{well_shaped}
use Rattle.messages.specs.declared.Head.{Head}
use Rattle.messages.specs.declared.edition.Edition.{Edition}
use Rattle.messages.proofs.Editions.{version_below}
use Rattle.messages.proofs.Header.{header_below, header_structured, header_major, header_edition, head_header, header_head}
use Rattle.messages.proofs.Objects.{objects_below, bytes_below, objects_bytes, bytes_objects, object_bytes, length_objects}
use Rattle.messages.proofs.Refusals.{right_length, lines_none, read_accepted, refusal_header}
use Rattle.messages.proofs.Rule.{shape_command, shape_kind, shape_position, shape_count}
use Rattle.messages.proofs.Stores.{length_message}

module _ (e : Edition) (m : Message) (fits : Representable m) (good : well_shaped m ≡ true) where
  good_shape : shape m.head (length m.objects + 1) ≡ true
  unfolding well_shaped
  good_shape = good

  good_command : m.head.command < 32
  good_command = shape_command _ _ good_shape

  good_kind : m.head.kind < 4
  good_kind = shape_kind _ _ good_shape

  good_position : m.head.position < 8
  good_position = shape_position _ _ good_shape

  objects_again : objects_of (message_bytes e m) ≡ header_of e m.head ∷ m.objects
  unfolding message_bytes
  objects_again = objects_bytes (header_of e m.head ∷ m.objects) below
    where
      below : Below (2 ^ 32) (header_of e m.head ∷ m.objects)
      below zero =
          header_below e m.head fits.svid_fits good_command good_kind good_position
      below (suc k) = fits.objects_fit k

  header_again : header_in (message_bytes e m) ≡ header_of e m.head
  header_again = ap (λ (l : List ℕ). get_or l 0 0) objects_again

  count_again : length (message_bytes e m) / 4 ≡ length m.objects + 1
  count_again = omega (arith, length_message e m)

  head_again : head_of (header_of e m.head) ≡ m.head
  head_again = head_header e m.head fits.svid_fits good_command good_kind good_position

  no_line : 0 ≡ first_line 2 (header_lines (header_of e m.head) (length m.objects + 1))
  no_line =
      lines_none (header_of e m.head) (length m.objects + 1)
      (λ z. omega (arith, header_structured e m.head fits.svid_fits good_command good_kind good_position))
      (omega (arith, header_major e m.head fits.svid_fits good_command good_kind good_position, (version_below e).0))
      (sym (ap (λ (h : Head). shape h (length m.objects + 1)) head_again ∙ good_shape))

  not_refused : read_refusal (message_bytes e m) ≡ 0
  not_refused =
      refusal_header (message_bytes e m)
      (right_length (length (message_bytes e m)) (omega (arith, length_message e m)) (omega (arith, length_message e m, (shape_count _ _ good_shape).1)) (omega (arith, length_message e m))) ∙
      ap (λ (w : ℕ). first_line 2 (header_lines w (length (message_bytes e m) / 4))) header_again ∙
      ap (λ (n : ℕ). first_line 2 (header_lines (header_of e m.head) n)) count_again ∙ sym no_line

  message_again : message_in (message_bytes e m) ≡ m
  unfolding message_in
  message_again =
      let eh : head_of (header_in (message_bytes e m)) ≡ m.head = ap head_of header_again ∙ head_again in
      let eo : drop 1 (objects_of (message_bytes e m)) ≡ m.objects = ap (λ (l : List ℕ). drop 1 l) objects_again in
      λ i. record { head = eh i; objects = eo i }

  edition_again : edition_in (message_bytes e m) ≡ e
  unfolding edition_in
  edition_again = ap edition_said header_again ∙ header_edition e m.head fits.svid_fits good_command good_kind good_position

  pub read_bytes : read_outcome (message_bytes e m) ≡ accepted e m
  read_bytes = read_accepted (message_bytes e m) not_refused ∙ ap₂ accepted edition_again message_again

-- what an accepted message says of its bytes
outcome_accepted : (number : ℕ) (d : Edition) (n : Message) (e : Edition) (m : Message) → outcome number d n ≡ accepted e m →
    (number ≡ 0) × (d ≡ e) × (n ≡ m)
unfolding outcome
outcome_accepted number d n e m = go (eqb number 0) refl
  where
    go : (t : Bool) → eqb number 0 ≡ t → cond t (accepted d n) (refused number) ≡ accepted e m → (number ≡ 0) × (d ≡ e) × (n ≡ m)
    go true z e = (eqb-true number 0 z, cc, cc)
    go false z e = absurd (let o : ◌≡◌ {A = ℕ} 0 1 = cc in omega arith)

module _ (b : List ℕ) (at : Edition) (m : Message) (e : read_outcome b ≡ accepted at m) where
  is_in : message_in b ≡ m
  unfolding read_outcome
  is_in = (outcome_accepted (read_refusal b) (edition_in b) (message_in b) at m e).2

  line : (k : ℕ) → get_or (read_lines b) k false ≡ false
  unfolding read_outcome read_refusal
  line k = none_holds 1 (read_lines b) (omega arith) (outcome_accepted (read_refusal b) (edition_in b) (message_in b) at m e).0 k

  pub accepted_length : (4 ≤ length b) × (length b ≤ 28) × (length b % 4 ≡ 0)
  accepted_length =
      let n : ℕ = length b in
      let right = not-false (leb 4 n && (leb n 28 && eqb (n % 4) 0)) (line 0) in
      let rest = and_right (leb 4 n) _ right in (
        leb-true 4 n (and_left (leb 4 n) _ right),
        leb-true n 28 (and_left (leb n 28) _ rest),
        eqb-true (n % 4) 0 (and_right (leb n 28) _ rest),
      )

  is_structured : structured (header_in b) ≡ 1
  is_structured = let no = eqb-false (structured (header_in b)) 0 (line 1) in omega arith

  has_shape : shape (head_of (header_in b)) (length b / 4) ≡ true
  has_shape = not-false _ (line 4)

  pub accepted_shape : well_shaped m ≡ true
  unfolding well_shaped message_in
  accepted_shape =
      let count : length (drop 1 (objects_of b)) + 1 ≡ length b / 4 = omega (arith, length-drop 1 (objects_of b), length_objects b, accepted_length.0) in
      ap well_shaped (sym is_in) ∙ ap (λ (n : ℕ). shape (head_of (header_in b)) n) count ∙ has_shape

-- what was read fits the layout's widths, and what is written are bytes
drop_below : (n : ℕ) (l : List ℕ) → Below n l → Below n (drop 1 l)
drop_below n [] b k = b k
drop_below n (x ∷ l) b k = b (suc k)

pub accepted_fits : (b : List ℕ) (at : Edition) (m : Message) → Below 256 b → read_outcome b ≡ accepted at m → Representable m
unfolding message_in head_of
accepted_fits b at m below e =
    subst Representable (is_in b at m e)
    (record { svid_fits = mod-lt _ (omega arith); objects_fit = drop_below (2 ^ 32) (objects_of b) (objects_below b below) })

pub message_bytes_lem : (e : Edition) (m : Message) → Below 256 (message_bytes e m)
unfolding message_bytes
message_bytes_lem e m = bytes_below (header_of e m.head ∷ m.objects)

-- four bytes are the header: bit 5 stands in its first, the version in its second
bytes_again : (at : Edition) (b : List ℕ) → Below 256 b → 4 ≤ length b → length b % 4 ≡ 0 → structured (header_in b) ≡ 1 →
    message_bytes at (message_in b) ≡ with_version at (with_reserved_clear b)
unfolding message_bytes message_in with_version with_reserved_clear objects_of bytes_of
bytes_again at [] below l e s = absurd (omega arith)
bytes_again at (p ∷ []) below l e s = absurd (omega arith)
bytes_again at (p ∷ q ∷ []) below l e s = absurd (omega arith)
bytes_again at (p ∷ q ∷ r ∷ []) below l e s = absurd (omega arith)
bytes_again at (p ∷ q ∷ r ∷ t ∷ rest) below l e s =
    let cleared : ℕ = without_reserved p in
    let version : ℕ = bits 7 7 q * 2 ^ 7 + major_of at * 2 ^ 5 + minor_of at * 2 ^ 3 + bits 2 0 q in
    let header : header_of at (head_of (object_of p q r t)) ≡ object_of cleared version r t = header_head p q r t (below 0) (below 1) (below 2) (below 3) at s in
    let first : bytes_of_object (header_of at (head_of (object_of p q r t))) ≡ cleared ∷ version ∷ r ∷ t ∷ [] =
    ap bytes_of_object header ∙ object_bytes cleared version r t (omega (arith, below 0)) (omega (arith, (version_below at).0, (version_below at).1)) (below 2) (below 3) in
    let others : bytes_of (objects_of rest) ≡ rest = bytes_objects rest (λ k. below (suc (suc (suc (suc k))))) (omega arith) in
    ap₂ (λ (x y : List ℕ). x ++ y) first others

pub bytes_read : (b : List ℕ) (at : Edition) (m : Message) → Below 256 b → read_outcome b ≡ accepted at m →
    message_bytes at m ≡ with_version at (with_reserved_clear b)
bytes_read b at m below e =
    ap (message_bytes at) (sym (is_in b at m e)) ∙
    bytes_again at b below (accepted_length b at m e).0 (accepted_length b at m e).2 (is_structured b at m e)
