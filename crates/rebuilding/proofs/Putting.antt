-- Words put one at a time, and entry by entry.
use mathlib.Core.Path.{◌≡◌, refl, ap, ap₂, sym, ◌∙◌}
use mathlib.Core.List.{List, [], ◌∷◌, ◌++◌, append_assoc}
use Prim.Native.Nat.{ℕ, zero, suc, ◌+◌, ◌*◌, ◌-◌, ◌^◌, ◌<◌, ◌≤◌}
use native.Mathlib.Numerals.{add-one}
use native.Mathlib.Omega.{arith}
use lib.ListN.{length, get_or, take, drop, set, get_or-eq_default, length-take, length-set, drop_of_length-le}
use lib.Seq.{sets, get_or-take, length-sets, drop-drop, drop_at}
use Rattle.laws.specs.Bounded.{Below}
use Rattle.messages.specs.Layout.{bytes_of_object, objects_of, bytes_of}
use Rattle.messages.proofs.Objects.{objects_bytes}
use Rattle.laptop.specs.Catalogue.{Entry, modes_each}
use Rattle.catalogue.specs.Bytes.{mode_kind, end_kind, svid_bytes, mode_bytes, modes_bytes, entry_bytes, entries_bytes, Each, EntryFits}
use Rattle.catalogue.proofs.Lengths.{length_modes}
use Rattle.judging.proofs.Places.{entry_at, number_noted, next_entry}
use Rattle.judging.specs.declared.walk.Walk.{Walk}
use Rattle.rebuilding.specs.Putting.{words_from, Standing}
use Rattle.rebuilding.specs.Rebuilding.{modes_into}

-- an object of so many, 0 past them
module _ (extent : ℕ) (objects : List ℕ) (i : ℕ) where
  pub object_within : i < extent → get_or objects i 0 ≡ get_or (take extent objects) i 0
  object_within h = sym (get_or-take extent objects i 0 h)

  pub object_none : extent ≤ i → 0 ≡ get_or (take extent objects) i 0
  object_none h = sym (get_or-eq_default (take extent objects) 0 (omega (arith, length-take extent objects)))

-- where the loop over words stands
pub record PuttingWords (bytes : List ℕ) (at number : ℕ) (start : List ℕ) (place : ℕ) (run : List ℕ) (i : ℕ) : Type 0 where
  pub within : i ≤ number
  pub kept : length run ≡ length start
  pub same : sets run (place + i) (words_from bytes (at + i * 5) (number - i)) ≡ sets start place (words_from bytes at number)

module _ (bytes : List ℕ) (at number : ℕ) (start : List ℕ) (place : ℕ) where
  pub words_start : PuttingWords bytes at number start place start 0
  words_start = record {
    within = omega arith;
    kept = refl;
    same =
        ap₂ (λ (k : ℕ) (l : List ℕ). sets start k l) (omega_zero place)
        (ap₂ (λ (k : ℕ) (n : ℕ). words_from bytes k n) (omega_zero at) (minus_zero number));
  }
    where
      omega_zero : (k : ℕ) → k + 0 ≡ k
      omega_zero k = omega arith

      minus_zero : (k : ℕ) → k - 0 ≡ k
      minus_zero k = omega arith

  module _ (run : List ℕ) (i : ℕ) (p : PuttingWords bytes at number start place run i) where
    pub words_next : i < number → (word : ℕ) → word ≡ get_or (objects_of (drop (at + i * 5 + 1) bytes)) 0 0 → (after : List ℕ) → after ≡ set run (place + i) word →
        PuttingWords bytes at number start place after (i + 1)
    unfolding words_from
    words_next h word e after ea =
        let left : number - i ≡ suc (number - (i + 1)) = omega arith in
        let further : at + i * 5 + 5 ≡ at + (i + 1) * 5 = omega arith in
        let behind : suc (place + i) ≡ place + (i + 1) = omega arith in
        record {
          within = omega arith;
          kept = ap length ea ∙ length-set run (place + i) word ∙ p.kept;
          same =
              ap₂ (λ (l : List ℕ) (k : ℕ). sets l k (words_from bytes (at + (i + 1) * 5) (number - (i + 1)))) (ea ∙ ap (set run (place + i)) e) (sym behind) ∙
              ap (λ (k : ℕ). sets run (place + i) (get_or (objects_of (drop (at + i * 5 + 1) bytes)) 0 0 ∷ words_from bytes k (number - (i + 1)))) (sym further) ∙
              ap (λ (n : ℕ). sets run (place + i) (words_from bytes (at + i * 5) n)) (sym left) ∙ p.same;
        }

    pub words_end : number ≤ i → run ≡ sets start place (words_from bytes at number)
    unfolding words_from
    words_end all =
        let none : number - i ≡ 0 = omega arith in
        sym (ap (λ (n : ℕ). sets run (place + i) (words_from bytes (at + i * 5) n)) none) ∙ p.same

-- the first entry's bytes, and its words in the run
svid_size : (number : ℕ) → length (svid_bytes number) ≡ 3
unfolding svid_bytes
svid_size number = refl

entry_first : (entry : Entry) (entries : List Entry) →
    entries_bytes (entry ∷ entries) ++ end_kind ∷ [] ≡ svid_bytes entry.svid ++ (modes_bytes entry.modes ++ (entries_bytes entries ++ end_kind ∷ []))
unfolding entries_bytes entry_bytes
entry_first entry entries =
    append_assoc (svid_bytes entry.svid ++ modes_bytes entry.modes) (entries_bytes entries) (end_kind ∷ []) ∙
    append_assoc (svid_bytes entry.svid) (modes_bytes entry.modes) (entries_bytes entries ++ end_kind ∷ [])

into_first : (run : List ℕ) (i : ℕ) (entry : Entry) (entries : List Entry) →
    modes_into run i (entry ∷ entries) ≡ modes_into (sets run (i * modes_each) entry.modes) (suc i) entries
unfolding modes_into
into_first run i entry entries = refl

into_none : (run : List ℕ) (i : ℕ) → modes_into run i [] ≡ run
unfolding modes_into
into_none run i = refl

-- what stands behind a part of known length
behind : (bytes : List ℕ) (at : ℕ) (part rest : List ℕ) (n : ℕ) → drop at bytes ≡ part ++ rest → length part ≡ n → drop (at + n) bytes ≡ rest
behind bytes at part rest n e size = sym (drop-drop n at bytes) ∙ ap (drop n) e ∙ drop_at part rest n size

first_object : (word : ℕ) (rest : List ℕ) → word < 2 ^ 32 → get_or (objects_of (bytes_of_object word ++ rest)) 0 0 ≡ word
unfolding objects_of bytes_of_object bytes_of
first_object word rest small = ap (λ (l : List ℕ). get_or l 0 0) (objects_bytes (word ∷ []) one)
  where
    one : Below (2 ^ 32) (word ∷ [])
    one zero = small
    one (suc k) = omega arith

-- the words of mode records
words_of : (bytes : List ℕ) (at : ℕ) (modes rest : List ℕ) → Below (2 ^ 32) modes → drop at bytes ≡ modes_bytes modes ++ rest → words_from bytes at (length modes) ≡ modes
unfolding words_from modes_bytes mode_bytes bytes_of_object
words_of bytes at [] rest b e = refl
words_of bytes at (word ∷ modes) rest b e =
    let whole : drop at bytes ≡ (mode_kind ∷ bytes_of_object word) ++ (modes_bytes modes ++ rest) = e ∙ append_assoc (mode_kind ∷ bytes_of_object word) (modes_bytes modes) rest in
    let object : drop (at + 1) bytes ≡ bytes_of_object word ++ (modes_bytes modes ++ rest) = behind bytes at (mode_kind ∷ []) (bytes_of_object word ++ (modes_bytes modes ++ rest)) 1 whole refl in
    let further : drop (at + 5) bytes ≡ modes_bytes modes ++ rest = behind bytes at (mode_kind ∷ bytes_of_object word) (modes_bytes modes ++ rest) 5 whole (object_size word) in
    ap₂ (λ (w : ℕ) (l : List ℕ). w ∷ l) (ap (λ (l : List ℕ). get_or (objects_of l) 0 0) object ∙ first_object word (modes_bytes modes ++ rest) (b 0))
    (words_of bytes (at + 5) modes rest (λ k. b (suc k)) further)
  where
    object_size : (w : ℕ) → length (mode_kind ∷ bytes_of_object w) ≡ 5
    object_size w = refl

pub each_at : (P : Entry → Type 0) (entries : List Entry) (i : ℕ) → Each P entries → i < length entries → P (entry_at entries i)
each_at P [] i each h = absurd (omega arith)
each_at P (entry ∷ entries) zero each h = each.0
each_at P (entry ∷ entries) (suc i) each h = each_at P entries i each.1 (omega arith)

-- where the loop over entries stands
pub record PuttingModes (bytes : List ℕ) (walk : Walk) (numbers start run : List ℕ) (at i : ℕ) : Type 0 where
  pub within : i ≤ walk.count
  pub near : at ≤ 25 + i * 2000
  pub kept : length run ≡ length start
  pub same : (entries : List Entry) → Standing entries bytes walk numbers →
      (drop at bytes ≡ entries_bytes (drop i entries) ++ end_kind ∷ []) × (modes_into run i (drop i entries) ≡ modes_into start 0 entries)

module _ (bytes : List ℕ) (walk : Walk) (numbers start : List ℕ) where
  pub modes_start : walk.extent ≤ 6 → PuttingModes bytes walk numbers start start (1 + walk.extent * 4) 0
  modes_start few = record { within = omega arith; near = omega arith; kept = refl; same = λ entries s. (s.bytes_are, refl) }

  module _ (run : List ℕ) (at i : ℕ) (p : PuttingModes bytes walk numbers start run at i) where
    pub modes_next : i < walk.count → walk.count ≤ 72 → (number : ℕ) → number ≡ get_or numbers i 0 → number < 256 →
        (after : List ℕ) → after ≡ sets run (i * modes_each) (words_from bytes (at + 3) number) →
        PuttingModes bytes walk numbers start after (at + 3 + number * 5) (i + 1)
    modes_next h few number e small after ea = record {
      within = omega arith;
      near = omega (arith, p.near);
      kept = ap length ea ∙ length-sets run (i * modes_each) (words_from bytes (at + 3) number) ∙ p.kept;
      same = one_more;
    }
      where
        stands : (entries : List Entry) (entry : Entry) → drop i entries ≡ entry ∷ drop (i + 1) entries → number ≡ length entry.modes → Below (2 ^ 32) entry.modes →
            (drop at bytes ≡ entries_bytes (drop i entries) ++ end_kind ∷ []) × (modes_into run i (drop i entries) ≡ modes_into start 0 entries) →
            (drop (at + 3 + number * 5) bytes ≡ entries_bytes (drop (i + 1) entries) ++ end_kind ∷ []) × (modes_into after (i + 1) (drop (i + 1) entries) ≡ modes_into start 0 entries)
        stands entries entry next size fit before =
            let rest : List ℕ = entries_bytes (drop (i + 1) entries) ++ end_kind ∷ [] in
            let known : drop at bytes ≡ svid_bytes entry.svid ++ (modes_bytes entry.modes ++ rest) =
            before.0 ∙ ap (λ (l : List Entry). entries_bytes l ++ end_kind ∷ []) next ∙ entry_first entry (drop (i + 1) entries) in
            let modes : drop (at + 3) bytes ≡ modes_bytes entry.modes ++ rest = behind bytes at (svid_bytes entry.svid) (modes_bytes entry.modes ++ rest) 3 known (svid_size entry.svid) in
            let words : words_from bytes (at + 3) number ≡ entry.modes = ap (words_from bytes (at + 3)) size ∙ words_of bytes (at + 3) entry.modes rest fit modes in (
              behind bytes (at + 3) (modes_bytes entry.modes) rest (number * 5) modes (length_modes entry.modes ∙ ap (λ (n : ℕ). n * 5) (sym size)),
              ap₂ (λ (l : List ℕ) (k : ℕ). modes_into l k (drop (i + 1) entries)) (ea ∙ ap (sets run (i * modes_each)) words) (add-one i) ∙
                  sym (into_first run i entry (drop (i + 1) entries)) ∙ ap (modes_into run i) (sym next) ∙ before.1,
            )

        one_more : (entries : List Entry) → Standing entries bytes walk numbers →
            (drop (at + 3 + number * 5) bytes ≡ entries_bytes (drop (i + 1) entries) ++ end_kind ∷ []) × (modes_into after (i + 1) (drop (i + 1) entries) ≡ modes_into start 0 entries)
        one_more entries s =
            let there : i < length entries = omega (arith, s.count_is) in
            let all : length entries ≤ 72 = omega (arith, s.count_is) in
            let size : number ≡ length (entry_at entries i).modes = e ∙ ap (λ (l : List ℕ). get_or l i 0) s.numbers_are ∙ number_noted entries all i there in
            stands entries (entry_at entries i) (next_entry entries all i there) size (each_at EntryFits entries i s.fits there).1 (p.same entries s)

    pub modes_end : walk.count ≤ i → (entries : List Entry) → Standing entries bytes walk numbers → run ≡ modes_into start 0 entries
    modes_end all entries s =
        sym (into_none run i) ∙ ap (modes_into run i) (sym (drop_of_length-le entries (past entries s))) ∙ (p.same entries s).1
      where
        past : (entries : List Entry) → Standing entries bytes walk numbers → length entries ≤ i
        past entries s = omega (arith, s.count_is, all)
