-- The bytes of the records that a walk has passed, and what one record more adds to them.
use mathlib.Core.Path.{◌≡◌, refl, ap, ap₂, sym, ◌∙◌}
use mathlib.Core.Bool.{Bool, true, false}
use mathlib.Core.List.{List, [], ◌∷◌, ◌++◌, append_assoc, append-nil}
use Prim.Native.Nat.{ℕ, zero, suc, ◌+◌, ◌*◌, ◌<◌, ◌≤◌}
use native.Mathlib.Omega.{arith}
use lib.ListN.{length, take, length-take}
use lib.Seq.{length-take-le}
use borrow.Author.Tests.{eqb-true}
use Rattle.laws.specs.Bounded.{Below}
use Rattle.messages.specs.Layout.{object_of, objects_of, bytes_of}
use Rattle.messages.proofs.Objects.{object_bytes, bytes_objects, length_objects}
use Rattle.laptop.specs.Catalogue.{Entry, Catalogue}
use Rattle.catalogue.specs.Bytes.{svid_kind, mode_kind, svid_bytes, mode_bytes, modes_bytes, entry_bytes, entries_bytes}
use Rattle.records.specs.Records.{body_length, svid_in, mode_in, found_in}
use Rattle.records.specs.Records.{Whole}
use Rattle.records.specs.declared.Record.{Record}
use Rattle.records.specs.declared.Record.TheVariants.{Identity, Svid, Mode}
use Rattle.records.proofs.Laws.{IsWhole, whole, Told, told}
use Rattle.records.proofs.Laws.Told.{identity, svid, mode, end}
use Rattle.records.proofs.Bodies.{identity_bounds}
use Rattle.judging.specs.Walking.{svids_of, walk_of, is_end, may_follow, with_mode, added}
use Rattle.judging.proofs.Entries.{more, mode_behind, Split, split}
use Rattle.judging.proofs.Following.{listed_as, added_under}
use Rattle.catalogue_laws.proofs.Below.{take_below}

-- the identity's bytes, none before it, and those of the entries
abbrev identity_bytes : List ℕ → List ℕ
identity_bytes [] = []
identity_bytes (object ∷ objects) = length (object ∷ objects) ∷ bytes_of (object ∷ objects)

unfoldable pub passed_bytes : Catalogue → List ℕ
passed_bytes c = identity_bytes c.identity ++ entries_bytes c.entries

-- a beginning of the entries' bytes, behind the identity's
pub passed_part : (c : Catalogue) (entries : List Entry) (more : List ℕ) → entries_bytes c.entries ≡ entries_bytes entries ++ more →
    passed_bytes c ≡ passed_bytes (record { identity = c.identity; entries = entries }) ++ more
unfolding passed_bytes
passed_part c entries more e =
    ap (λ (l : List ℕ). identity_bytes c.identity ++ l) e ∙ sym (append_assoc (identity_bytes c.identity) (entries_bytes entries) more)

-- no SVID is passed before the identity
abbrev pub Begun : Catalogue → Type 0
Begun c = length c.identity ≡ 0 → c.entries ≡ []

-- the bytes of entries, one behind another
pub entries_append : (a b : List Entry) → entries_bytes (a ++ b) ≡ entries_bytes a ++ entries_bytes b
unfolding entries_bytes
entries_append [] b = refl
entries_append (entry ∷ a) b = ap (λ (l : List ℕ). entry_bytes entry ++ l) (entries_append a b) ∙ sym (append_assoc (entry_bytes entry) (entries_bytes a) (entries_bytes b))

modes_append : (a b : List ℕ) → modes_bytes (a ++ b) ≡ modes_bytes a ++ modes_bytes b
unfolding modes_bytes
modes_append [] b = refl
modes_append (word ∷ a) b = ap (λ (l : List ℕ). mode_bytes word ++ l) (modes_append a b) ∙ sym (append_assoc (mode_bytes word) (modes_bytes a) (modes_bytes b))

-- of one entry,
one_entry : (entry : Entry) → entries_bytes (entry ∷ []) ≡ entry_bytes entry
unfolding entries_bytes
one_entry entry = append-nil (entry_bytes entry)

-- with one mode more
entry_more : (entry : Entry) (word : ℕ) → entry_bytes (more entry word) ≡ entry_bytes entry ++ mode_bytes word
unfolding entry_bytes modes_bytes
entry_more entry word =
    ap (λ (l : List ℕ). svid_bytes entry.svid ++ l) (modes_append entry.modes (word ∷ []) ∙ ap (λ (l : List ℕ). modes_bytes entry.modes ++ l) one_mode) ∙
    sym (append_assoc (svid_bytes entry.svid) (modes_bytes entry.modes) (mode_bytes word))
  where
    one_mode : modes_bytes (word ∷ []) ≡ mode_bytes word
    one_mode = append-nil (mode_bytes word)

with_mode_bytes : (entries : List Entry) (word : ℕ) → Split entries → entries_bytes (with_mode entries word) ≡ entries_bytes entries ++ mode_bytes word
with_mode_bytes entries word s =
    ap entries_bytes (ap (λ (l : List Entry). with_mode l word) s.is ∙ mode_behind s.before s.last word) ∙
    entries_append s.before (more s.last word ∷ []) ∙
    ap (λ (l : List ℕ). entries_bytes s.before ++ l) (one_entry (more s.last word) ∙ entry_more s.last word) ∙
    sym (append_assoc (entries_bytes s.before) (entry_bytes s.last) (mode_bytes word)) ∙
    ap (λ (l : List ℕ). l ++ mode_bytes word)
    (ap (λ (l : List ℕ). entries_bytes s.before ++ l) (sym (one_entry s.last)) ∙ sym (entries_append s.before (s.last ∷ [])) ∙ ap entries_bytes (sym s.is))

-- a record's bytes are those that its body was read off
svid_record : (rest : List ℕ) → Below 256 rest → 2 ≤ length rest → svid_bytes (svid_in rest) ≡ svid_kind ∷ take 2 rest
unfolding svid_bytes svid_in
svid_record [] b there = absurd (omega arith)
svid_record (x ∷ []) b there = absurd (omega arith)
svid_record (x ∷ y ∷ rest) b there =
    let low : x < 256 = b 0 in
    let high : y < 256 = b 1 in
    ap₂ (λ (p : ℕ) (q : ℕ). svid_kind ∷ p ∷ q ∷ []) (omega (arith, low, high)) (omega (arith, low, high))

mode_record : (rest : List ℕ) → Below 256 rest → 4 ≤ length rest → mode_bytes (mode_in rest) ≡ mode_kind ∷ take 4 rest
unfolding mode_bytes mode_in objects_of
mode_record [] b there = absurd (omega arith)
mode_record (w ∷ []) b there = absurd (omega arith)
mode_record (w ∷ x ∷ []) b there = absurd (omega arith)
mode_record (w ∷ x ∷ y ∷ []) b there = absurd (omega arith)
mode_record (w ∷ x ∷ y ∷ z ∷ rest) b there = ap (λ (l : List ℕ). mode_kind ∷ l) (object_bytes w x y z (b 0) (b 1) (b 2) (b 3))

-- four times a number, by which objects are taken one at a time
abbrev four_times : ℕ → ℕ
four_times zero = zero
four_times (suc k) = suc (suc (suc (suc (four_times k))))

four_times_lem : (k : ℕ) → four_times k ≡ k * 4
four_times_lem zero = refl
four_times_lem (suc k) = omega (arith, four_times_lem k)

objects_take : (k : ℕ) (bytes : List ℕ) → take k (objects_of bytes) ≡ objects_of (take (four_times k) bytes)
unfolding objects_of
objects_take zero bytes = refl
objects_take (suc k) [] = refl
objects_take (suc k) (w ∷ []) = refl
objects_take (suc k) (w ∷ x ∷ []) = refl
objects_take (suc k) (w ∷ x ∷ y ∷ []) = refl
objects_take (suc k) (w ∷ x ∷ y ∷ z ∷ rest) = ap (λ (l : List ℕ). object_of w x y z ∷ l) (objects_take k rest)

identity_record : (k : ℕ) (rest : List ℕ) → Below 256 rest → k * 4 ≤ length rest → bytes_of (take k (objects_of rest)) ≡ take (k * 4) rest
identity_record k rest b there =
    let size : length (take (k * 4) rest) ≡ k * 4 = length-take-le (k * 4) rest there in
    let below : Below 256 (take (k * 4) rest) = take_below 256 (k * 4) rest b in
    ap bytes_of (objects_take k rest ∙ ap (λ (m : ℕ). objects_of (take m rest)) (four_times_lem k)) ∙ bytes_objects (take (k * 4) rest) below (omega (arith, size))

-- an identity of some objects
some_objects : (objects : List ℕ) (n : ℕ) → length objects ≡ n → 1 ≤ n → identity_bytes objects ≡ n ∷ bytes_of objects
some_objects [] n e some = absurd (omega (arith, e))
some_objects (object ∷ objects) n e some = ap (λ (k : ℕ). k ∷ bytes_of (object ∷ objects)) e

module _ (c : Catalogue) where
  passed_identity : (kind : ℕ) (rest : List ℕ) → Below 256 rest → 1 ≤ kind → kind * 4 ≤ length rest → length c.identity ≡ 0 → Begun c →
      passed_bytes (added c (Identity kind) (kind ∷ rest)) ≡ passed_bytes c ++ (kind ∷ take (kind * 4) rest)
  unfolding passed_bytes added entries_bytes
  passed_identity kind rest b some there none begun =
      let size : length (take kind (objects_of rest)) ≡ kind = omega (arith, length-take kind (objects_of rest), length_objects rest) in
      let old : identity_bytes c.identity ++ entries_bytes c.entries ≡ [] = ap₂ (λ (i : List ℕ) (e : List Entry). identity_bytes i ++ entries_bytes e) (empty c.identity none) (begun none) in
      ap₂ (λ (i : List ℕ) (e : List Entry). i ++ entries_bytes e)
      (some_objects (take kind (objects_of rest)) kind size some ∙ ap (λ (l : List ℕ). kind ∷ l) (identity_record kind rest b there)) (begun none) ∙
      append-nil (kind ∷ take (kind * 4) rest) ∙ ap (λ (l : List ℕ). l ++ (kind ∷ take (kind * 4) rest)) (sym old)
    where
      empty : (l : List ℕ) → length l ≡ 0 → l ≡ []
      empty [] e = refl
      empty (x ∷ l) e = absurd (omega (arith, e))

  passed_svid : (number : ℕ) (bytes : List ℕ) → passed_bytes (added c (Svid number) bytes) ≡ passed_bytes c ++ svid_bytes number
  unfolding passed_bytes added entry_bytes modes_bytes
  passed_svid number bytes =
      let new : Entry = record { svid = number; modes = [] } in
      ap (λ (l : List ℕ). identity_bytes c.identity ++ l)
      (entries_append c.entries (new ∷ []) ∙ ap (λ (l : List ℕ). entries_bytes c.entries ++ l) (one_entry new ∙ append-nil (svid_bytes number))) ∙
      sym (append_assoc (identity_bytes c.identity) (entries_bytes c.entries) (svid_bytes number))

  passed_mode : (word : ℕ) (bytes : List ℕ) → Split c.entries → passed_bytes (added c (Mode word) bytes) ≡ passed_bytes c ++ mode_bytes word
  unfolding passed_bytes added
  passed_mode word bytes s =
      ap (λ (l : List ℕ). identity_bytes c.identity ++ l) (with_mode_bytes c.entries word s) ∙
      sym (append_assoc (identity_bytes c.identity) (entries_bytes c.entries) (mode_bytes word))

-- one record more: its bytes follow, and no SVID is before the identity still
pub record PassedMore (c : Catalogue) (bytes : List ℕ) (r : Record) (n : ℕ) : Type 0 where
  pub bytes_are : passed_bytes (added c r bytes) ≡ passed_bytes c ++ take n bytes
  pub begun : Begun (added c r bytes)

more_as : (c : Catalogue) (bytes bytes' : List ℕ) → bytes ≡ bytes' → (r r' : Record) → r ≡ r' → (n n' : ℕ) → n ≡ n' → PassedMore c bytes' r' n' → PassedMore c bytes r n
more_as c bytes bytes' e r r' h n n' k p = rw (e, h, k) p

pub passed_more : (at : ℕ) (c : Catalogue) (bytes : List ℕ) (r : Record) (n : ℕ) → Below 256 bytes → Begun c → found_in bytes ≡ Whole r n →
    may_follow (walk_of at c) (svids_of c.entries) r ≡ true → is_end r ≡ false → PassedMore c bytes r n
unfolding added may_follow walk_of
passed_more at c bytes r n b begun found follows more = go (told w.kind w.rest w.known)
  where
    w : IsWhole bytes r n
    w = whole bytes r n found

    below : Below 256 w.rest
    below k = rw w.bytes_are at b (suc k)

    size : (k : ℕ) → body_length w.kind ≡ k → n ≡ 1 + k
    size k l = w.length_is ∙ ap (λ (m : ℕ). 1 + m) l

    go : Told w.kind w.rest → PassedMore c bytes r n
    go (identity i e l) =
        let variant = w.record_is ∙ e in
        let bounds = identity_bounds w.kind i in
        let none : length c.identity ≡ 0 = eqb-true (length c.identity) 0 (ap (may_follow (walk_of at c) (svids_of c.entries)) (sym variant) ∙ follows) in
        let there : w.kind * 4 ≤ length w.rest = omega (arith, l, w.there) in
        more_as c bytes (w.kind ∷ w.rest) w.bytes_are r (Identity w.kind) variant n (suc (w.kind * 4)) (omega (arith, size (w.kind * 4) l)) (record {
          bytes_are = passed_identity c w.kind w.rest below (omega (arith, bounds.0)) there none begun;
          begun = λ empty. begun none;
        })
    go (svid k e l) =
        let variant = w.record_is ∙ e in
        let number = svid_in w.rest in
        more_as c bytes (svid_kind ∷ w.rest) (w.bytes_are ∙ ap (λ (x : ℕ). x ∷ w.rest) k) r (Svid number) variant n 3 (size 2 l) (record {
          bytes_are = passed_svid c number (svid_kind ∷ w.rest) ∙ ap (λ (x : List ℕ). passed_bytes c ++ x) (svid_record w.rest below (omega (arith, l, w.there)));
          begun = λ empty. absurd (omega (arith, (listed_as (walk_of at c) (svids_of c.entries) number (ap (may_follow (walk_of at c) (svids_of c.entries)) (sym variant) ∙ follows)).begun, empty));
        })
    go (mode k e l) =
        let variant = w.record_is ∙ e in
        let word = mode_in w.rest in
        let under = added_under (walk_of at c) (svids_of c.entries) word (ap (may_follow (walk_of at c) (svids_of c.entries)) (sym variant) ∙ follows) in
        more_as c bytes (mode_kind ∷ w.rest) (w.bytes_are ∙ ap (λ (x : ℕ). x ∷ w.rest) k) r (Mode word) variant n 5 (size 4 l) (record {
          bytes_are =
              passed_mode c word (mode_kind ∷ w.rest) (split c.entries under.0) ∙
              ap (λ (x : List ℕ). passed_bytes c ++ x) (mode_record w.rest below (omega (arith, l, w.there)));
          begun = λ empty. absurd (omega (arith, under.0, ap length (begun empty)));
        })
    go (end k e l) = absurd (let z : ◌≡◌ {A = Bool} true false = sym (ap is_end (w.record_is ∙ e)) ∙ more in let y : ◌≡◌ {A = ℕ} 0 1 = cc in omega arith)
