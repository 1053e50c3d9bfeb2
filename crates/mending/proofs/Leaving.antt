-- The last SVID left out where it has no modes: what is left of the entries.
use mathlib.Core.Path.{◌≡◌, refl, ap, sym, ◌∙◌}
use mathlib.Core.Bool.{Bool, true, false, cond}
use mathlib.Core.List.{List, [], ◌∷◌, ◌++◌, append-nil}
use Prim.Native.Nat.{ℕ, ◌+◌, ◌*◌, ◌-◌, ◌<◌}
use native.Mathlib.Omega.{arith}
use lib.Dec.{eqb}
use lib.ListN.{length, length-append}
use borrow.Author.Tests.{eqb-true, eqb-false, eq-eqb, ne_eqb}
use Rattle.laptop.specs.Catalogue.{Entry, Catalogue}
use Rattle.catalogue.specs.Bytes.{entry_bytes, entries_bytes}
use Rattle.catalogue.proofs.Lengths.{length_entry}
use Rattle.judging.specs.Walking.{all_modes, last_number, walk_of, is_bare}
use Rattle.judging.proofs.Entries.{modes_append, last_behind, Split, split}
use Rattle.judging.proofs.Following.{bare_none, bare_some}
use Rattle.catalogue_laws.proofs.Passing.{entries_append}
use Rattle.mending.specs.Keeping.{svids_kept}
use Rattle.mending.specs.Mending.{without_bare}

behind : (a : List Entry) (entry : Entry) → without_bare (a ++ entry ∷ []) ≡ a ++ cond (eqb (length entry.modes) 0) [] (entry ∷ [])
unfolding without_bare
behind [] entry = refl
behind (x ∷ []) entry = refl
behind (x ∷ y ∷ a) entry = ap (λ (l : List Entry). x ∷ l) (behind (y ∷ a) entry)

-- an SVID without modes is left out
pub without_bare_lem : (a : List Entry) (bare : Entry) → length bare.modes ≡ 0 → without_bare (a ++ bare ∷ []) ≡ a
without_bare_lem a bare none =
    behind a bare ∙ ap (λ (b : Bool). a ++ cond b [] (bare ∷ [])) (eq-eqb _ _ none) ∙ append-nil a

-- all entries where the last has modes, or there is none; else those before the last
pub data Left (entries : List Entry) : Type 0 where
  all : without_bare entries ≡ entries → (0 < length entries → 0 < last_number entries) → Left entries
  before : (a : List Entry) (bare : Entry) → entries ≡ a ++ bare ∷ [] → length bare.modes ≡ 0 → without_bare entries ≡ a → Left entries

pub left : (entries : List Entry) → Left entries
unfolding without_bare
left [] = all refl (λ some. absurd (omega arith))
left (first ∷ rest) = go (eqb (length s.last.modes) 0) refl
  where
    s : Split (first ∷ rest)
    s = split (first ∷ rest) (omega arith)

    without : (b : Bool) → eqb (length s.last.modes) 0 ≡ b → without_bare (first ∷ rest) ≡ s.before ++ cond b [] (s.last ∷ [])
    without b e = ap without_bare s.is ∙ behind s.before s.last ∙ ap (λ (t : Bool). s.before ++ cond t [] (s.last ∷ [])) e

    last : last_number (first ∷ rest) ≡ length s.last.modes
    last = ap last_number s.is ∙ last_behind s.before s.last

    go : (b : Bool) → eqb (length s.last.modes) 0 ≡ b → Left (first ∷ rest)
    go true e = before s.before s.last s.is (eqb-true _ _ e) (without true e ∙ append-nil s.before)
    go false e =
        let some : length s.last.modes ≡ 0 → ⊥ = eqb-false _ _ e in
        all (without false e ∙ sym s.is) (λ any. omega (arith, last, some))

-- so many bytes have entries
pub entries_size : (entries : List Entry) → length (entries_bytes entries) ≡ length entries * 3 + all_modes entries * 5
unfolding entries_bytes all_modes
entries_size [] = refl
entries_size (entry ∷ entries) =
    omega (arith, length-append (entry_bytes entry) (entries_bytes entries), length_entry entry, entries_size entries)

module _ (entries : List Entry) where
  -- no mode is left out
  pub modes_left : all_modes (without_bare entries) ≡ all_modes entries
  unfolding all_modes
  modes_left = go (left entries)
    where
      go : Left entries → all_modes (without_bare entries) ≡ all_modes entries
      go (all e some) = ap all_modes e
      go (before a bare is none e) = ap all_modes e ∙ omega (arith, ap all_modes is, modes_append a (bare ∷ []), none)

  -- what is left is a beginning of the bytes
  pub record Beginning : Type 0 where
    pub more : List ℕ
    pub bytes_are : entries_bytes entries ≡ entries_bytes (without_bare entries) ++ more

  pub bytes_left : Beginning
  bytes_left = go (left entries)
    where
      go : Left entries → Beginning
      go (all e some) = record { more = []; bytes_are = ap entries_bytes (sym e) ∙ sym (append-nil (entries_bytes (without_bare entries))) }
      go (before a bare is none e) = record {
        more = entries_bytes (bare ∷ []);
        bytes_are = ap entries_bytes is ∙ entries_append a (bare ∷ []) ∙ ap (λ (l : List Entry). entries_bytes l ++ entries_bytes (bare ∷ [])) (sym e);
      }

-- the number of SVIDs left, by the walk that has passed them
pub svids_left : (at : ℕ) (c : Catalogue) → length (without_bare c.entries) ≡ svids_kept (walk_of at c)
unfolding svids_kept walk_of
svids_left at c = go (left c.entries)
  where
    kept : (b : Bool) → is_bare (walk_of at c) ≡ b → svids_kept (walk_of at c) ≡ cond b (length c.entries - 1) (length c.entries)
    kept b e = ap (λ (t : Bool). cond t (length c.entries - 1) (length c.entries)) e

    closed : (n : ℕ) → length c.entries ≡ n → (0 < n → 0 < last_number c.entries) → is_bare (walk_of at c) ≡ false
    closed n e some = by (eqb n 0) refl
      where
        by : (b : Bool) → eqb n 0 ≡ b → is_bare (walk_of at c) ≡ false
        by true t = bare_none (walk_of at c) (omega (arith, e, eqb-true n 0 t))
        by false t =
            let any = eqb-false n 0 t in
            let has = some (omega (arith, any)) in
            bare_some (walk_of at c) (λ none. any (omega (arith, e, none))) ∙ ne_eqb (last_number c.entries) 0 (λ z. omega (arith, has, z))

    go : Left c.entries → length (without_bare c.entries) ≡ svids_kept (walk_of at c)
    go (all e some) = ap length e ∙ sym (kept false (closed (length c.entries) refl some))
    go (before a bare is none e) =
        let size : length c.entries ≡ length a + 1 = ap length is ∙ length-append a (bare ∷ []) in
        let none_yet : last_number c.entries ≡ 0 = ap last_number is ∙ last_behind a bare ∙ none in
        let t : is_bare (walk_of at c) ≡ true = bare_some (walk_of at c) (λ z. omega (arith, size, z)) ∙ eq-eqb (last_number c.entries) 0 none_yet in
        ap length e ∙ omega (arith, size) ∙ sym (kept true t)
