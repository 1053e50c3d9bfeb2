-- A message's bytes in a lent buffer: the stores of the code, and the buffer of the definition.
use mathlib.Core.Path.{◌≡◌, refl, ap, sym, ◌∙◌}
use mathlib.Core.Bool.{Bool, true, false}
use mathlib.Core.List.{List, [], ◌∷◌, ◌++◌, append_assoc, append-nil}
use Prim.Native.Nat.{ℕ, ◌+◌, ◌*◌, ◌<◌, ◌≤◌}
use native.Mathlib.Nat.{div-one}
use native.Mathlib.Numerals.{add-one}
use native.Mathlib.Omega.{arith}
use lib.ListN.{length, get_or, take, drop}
use lib.Seq.{sets, length-sets, length-take-le, take-suc}
use borrow.Author.Tests.{lt-ltb, le-ltb}
use Rattle.laws.proofs.Stores.{sets_append, sets_front}
use Rattle.messages.specs.Layout.{bytes_of_object, bytes_of, header_of, Message, message_bytes, message_length}
use Rattle.messages.specs.Table.{shape}
use Rattle.messages.specs.Writing.{well_shaped, write_refusal, written, Written}
use Rattle.messages.specs.declared.edition.Edition.{Edition}
use Rattle.std.specs.Int.{to_le_bytes}
use Rattle.std.specs.Int.{w32}
use Rattle.messages.proofs.Objects.{length_bytes}
use Rattle.messages.proofs.Rule.{shape_count}

pub object_bytes : (w : ℕ) → to_le_bytes w32 w ≡ bytes_of_object w
unfolding bytes_of_object
object_bytes w = rw div-one

bytes_append : (vs ws : List ℕ) → bytes_of (vs ++ ws) ≡ bytes_of vs ++ bytes_of ws
unfolding bytes_of
bytes_append [] ws = refl
bytes_append (v ∷ vs) ws = ap (λ (l : List ℕ). bytes_of_object v ++ l) (bytes_append vs ws) ∙ sym (append_assoc (bytes_of_object v) (bytes_of vs) (bytes_of ws))

bytes_one : (w : ℕ) → bytes_of (w ∷ []) ≡ bytes_of_object w
unfolding bytes_of
bytes_one w = append-nil (bytes_of_object w)

-- one object more behind the first i
store_next : (out objects : List ℕ) (i : ℕ) → i < length objects →
    sets (sets out 4 (bytes_of (take i objects))) (4 + i * 4) (bytes_of_object (get_or objects i 0)) ≡ sets out 4 (bytes_of (take (i + 1) objects))
store_next out objects i h =
    let w : ℕ = get_or objects i 0 in
    let n : 4 + length (bytes_of (take i objects)) ≡ 4 + i * 4 = omega (arith, length_bytes (take i objects), length-take-le i objects (omega arith)) in
    let t : take (i + 1) objects ≡ take i objects ++ w ∷ [] = rw add-one (take-suc objects i 0 h) in
    sym
    (ap (λ (l : List ℕ). sets out 4 (bytes_of l)) t ∙
    ap (λ (l : List ℕ). sets out 4 l) (bytes_append (take i objects) (w ∷ []) ∙ ap (λ (l : List ℕ). bytes_of (take i objects) ++ l) (bytes_one w)) ∙
    sets_append out 4 (bytes_of (take i objects)) (bytes_of_object w) ∙
    ap (λ (k : ℕ). sets (sets out 4 (bytes_of (take i objects))) k (bytes_of_object w)) n)

pub store_step : (out before after objects : List ℕ) (i : ℕ) → i < length objects →
    before ≡ sets out 4 (bytes_of (take i objects)) →
    after ≡ sets before (4 + i * 4) (bytes_of_object (get_or objects i 0)) →
    after ≡ sets out 4 (bytes_of (take (i + 1) objects))
store_step out before after objects i h b a =
    a ∙ ap (λ (l : List ℕ). sets l (4 + i * 4) (bytes_of_object (get_or objects i 0))) b ∙ store_next out objects i h

pub length_stored : (out stored bytes : List ℕ) (at : ℕ) → stored ≡ sets out at bytes → length stored ≡ length out
length_stored out stored bytes at e = ap length e ∙ length-sets out at bytes

pub length_message : (e : Edition) (m : Message) → length (message_bytes e m) ≡ message_length m
unfolding message_bytes
length_message e m = omega (arith, length_bytes (header_of e m.head ∷ m.objects))

-- the header, then the objects
stored_whole : (e : Edition) (m : Message) (out one after : List ℕ) → length (message_bytes e m) ≤ length out →
    one ≡ sets out 0 (bytes_of_object (header_of e m.head)) → after ≡ sets one 4 (bytes_of m.objects) →
    after ≡ message_bytes e m ++ drop (length (message_bytes e m)) out
unfolding message_bytes bytes_of bytes_of_object
stored_whole e m out one after fits eo ea =
    ea ∙ ap (λ (l : List ℕ). sets l 4 (bytes_of m.objects)) eo ∙
    sym (sets_append out 0 (bytes_of_object (header_of e m.head)) (bytes_of m.objects)) ∙
    sets_front out (bytes_of (header_of e m.head ∷ m.objects)) fits

pub store_message : (e : Edition) (m : Message) (out one after : List ℕ) → message_length m ≤ length out →
    one ≡ sets out 0 (bytes_of_object (header_of e m.head)) → after ≡ sets one 4 (bytes_of m.objects) →
    after ≡ message_bytes e m ++ drop (message_length m) out
store_message e m out one after fits eo ea =
    stored_whole e m out one after (omega (arith, length_message e m)) eo ea ∙ ap (λ (n : ℕ). message_bytes e m ++ drop n out) (length_message e m)

-- the ways out of writing
module _ (e : Edition) (m : Message) (out : List ℕ) where
  pub write_shape : well_shaped m ≡ false → Written e m out 5 out
  unfolding write_refusal written
  write_shape bad = record { number_is = simp bad; buffer_is = simp bad }

  pub write_short : well_shaped m ≡ true → length out < message_length m → Written e m out 11 out
  unfolding write_refusal written
  write_short good short =
      let t = lt-ltb _ _ short in
      record { number_is = simp (good, t); buffer_is = simp (good, t) }

  pub write_whole : well_shaped m ≡ true → message_length m ≤ length out → (after : List ℕ) →
      after ≡ message_bytes e m ++ drop (message_length m) out → Written e m out 0 after
  unfolding write_refusal written
  write_whole good room after is =
      let t = le-ltb _ _ room in
      record { number_is = simp (good, t); buffer_is = simp (good, t) is }

pub shape_many : (m : Message) → 6 < length m.objects → well_shaped m ≡ false
unfolding well_shaped
shape_many m many = go (shape m.head (length m.objects + 1)) refl
  where
    go : (t : Bool) → shape m.head (length m.objects + 1) ≡ t → shape m.head (length m.objects + 1) ≡ false
    go true e = absurd (omega (arith, (shape_count m.head _ e).1))
    go false e = e
