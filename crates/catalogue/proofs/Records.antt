-- The bytes of each record, and of a whole catalogue, as the numbers that are put.
use mathlib.Core.Path.{◌≡◌, refl, ap, ap₂, sym, ◌∙◌}
use mathlib.Core.Bool.{Bool, cond}
use mathlib.Core.List.{List, [], ◌∷◌, ◌++◌}
use Prim.Native.Nat.{ℕ, zero, suc, ◌+◌, ◌*◌, ◌/◌, ◌%◌, ◌^◌, ◌≤◌}
use native.Mathlib.Nat.{div-one}
use native.Mathlib.Omega.{arith}
use lib.ListN.{length, take, length-append}
use lib.Seq.{sets, length-sets}
use borrow.Author.Tests.{eq-eqb, ne_eqb}
use Rattle.std.proofs.Math.Nat.{div-div-eq-div-mul, pow-suc}
use Rattle.std.specs.Int.{w64, to_le_bytes, bytes_low_first}
use Rattle.laws.proofs.Stores.{sets_append}
use Rattle.messages.specs.Layout.{bytes_of_object, bytes_of}
use Rattle.laptop.specs.Catalogue.{Entry, Catalogue}
use Rattle.catalogue.specs.Bytes.{svid_kind, mode_kind, end_kind, svid_bytes, mode_bytes, modes_bytes, entry_bytes, entries_bytes, catalogue_bytes, most_objects}
use Rattle.catalogue.specs.Records.{low_first, mode_size, object_size, word_number, words_bytes, Put}

-- the low bytes of a number of eight
low_from : (i k m number : ℕ) → k ≤ m → take k (bytes_low_first i m number) ≡ low_first k (number / 256 ^ i)
unfolding low_first
low_from i zero m number few = refl
low_from i (suc k) zero number few = absurd (omega arith)
low_from zero (suc k) (suc m) number few =
    rw div-one (ap (λ (l : List ℕ). number % 256 ∷ l) (low_from 1 k m number (omega arith)))
low_from (suc i) (suc k) (suc m) number few =
    let behind : number / 256 ^ suc i / 256 ≡ number / 256 ^ suc (suc i) =
    div-div-eq-div-mul number (256 ^ suc i) 256 ∙ ap (λ (n : ℕ). number / n) (sym (pow-suc 256 (suc i))) in
    ap (λ (l : List ℕ). number / 256 ^ suc i % 256 ∷ l) (low_from (suc (suc i)) k m number (omega arith) ∙ ap (low_first k) (sym behind))

pub low_taken : (size number : ℕ) → size ≤ 8 → take size (to_le_bytes w64 number) ≡ low_first size number
low_taken size number few = low_from 0 size 8 number few ∙ ap (low_first size) (div-one number)

pub length_low : (size number : ℕ) → length (low_first size number) ≡ size
unfolding low_first
length_low zero number = refl
length_low (suc size) number = ap suc (length_low size (number / 256))

pub number_mode : (size word : ℕ) → size ≡ mode_size → mode_kind + word * 256 ≡ word_number size word
unfolding word_number
number_mode size word e = ap (λ (t : Bool). cond t (mode_kind + word * 256) word) (sym (eq-eqb size mode_size e))

pub number_object : (size word : ℕ) → (size ≡ mode_size → ⊥) → word ≡ word_number size word
unfolding word_number
number_object size word n = ap (λ (t : Bool). cond t (mode_kind + word * 256) word) (sym (ne_eqb size mode_size n))

pub svid_record : (svid : ℕ) → low_first 3 (svid_kind + svid * 256) ≡ svid_bytes svid
unfolding low_first svid_bytes
svid_record svid =
    let kind : (16 + svid * 256) % 256 ≡ 16 = omega arith in
    let behind : (16 + svid * 256) / 256 ≡ svid = omega arith in
    rw (kind, behind, div-one)

object_record : (word : ℕ) → low_first 4 word ≡ bytes_of_object word
unfolding low_first bytes_of_object
object_record word =
    let third : word / 256 / 256 ≡ word / 65536 = omega arith in
    let fourth : word / 65536 / 256 ≡ word / 16777216 = omega arith in
    rw (third, fourth, div-one)

mode_record : (word : ℕ) → low_first 5 (mode_kind + word * 256) ≡ mode_bytes word
unfolding low_first mode_bytes
mode_record word =
    let kind : (32 + word * 256) % 256 ≡ 32 = omega arith in
    let behind : (32 + word * 256) / 256 ≡ word = omega arith in
    ap₂ (λ (k : ℕ) (n : ℕ). k ∷ low_first 4 n) kind behind ∙ ap (λ (l : List ℕ). 32 ∷ l) (object_record word)

pub objects_words : (words : List ℕ) → words_bytes object_size words ≡ bytes_of words
unfolding words_bytes word_number bytes_of
objects_words [] = refl
objects_words (word ∷ words) = ap₂ (λ (p : List ℕ) (q : List ℕ). p ++ q) (object_record word) (objects_words words)

pub modes_words : (words : List ℕ) → words_bytes mode_size words ≡ modes_bytes words
unfolding words_bytes word_number modes_bytes
modes_words [] = refl
modes_words (word ∷ words) = ap₂ (λ (p : List ℕ) (q : List ℕ). p ++ q) (mode_record word) (modes_words words)

-- one part behind the other
pub put_behind : {out : List ℕ} {at : ℕ} {front : List ℕ} {place : ℕ} {mid rest : List ℕ} {end : ℕ} {after : List ℕ} →
    Put out at front place mid → Put mid place rest end after → Put out at (front ++ rest) end after
put_behind {out} {at} {front} {place} {mid} {rest} {end} {after} p q = record {
  ends = omega (arith, p.ends, q.ends, length-append front rest);
  stored =
      q.stored ∙ ap₂ (λ (l : List ℕ) (k : ℕ). sets l k rest) p.stored p.ends ∙
      sym (sets_append out at front rest);
}

pub put_kept : {out : List ℕ} {at : ℕ} {bytes : List ℕ} {end : ℕ} {after : List ℕ} → Put out at bytes end after → length after ≡ length out
put_kept {out} {at} {bytes} p = ap length p.stored ∙ length-sets out at bytes

pub number_ends : (size number : ℕ) {out : List ℕ} {at end : ℕ} {after : List ℕ} → Put out at (low_first size number) end after → end ≡ at + size
number_ends size number {at = at} p = p.ends ∙ ap (λ (k : ℕ). at + k) (length_low size number)

pub put_same : {out : List ℕ} {at : ℕ} {bytes : List ℕ} {end : ℕ} {after : List ℕ} → Put out at bytes end after → (same : List ℕ) → bytes ≡ same →
    Put out at same end after
put_same {out} {at} {bytes} {end} {after} p same e = record {
  ends = p.ends ∙ ap (λ (l : List ℕ). at + length l) e;
  stored = p.stored ∙ ap (sets out at) e;
}

pub entry_record : (entry : Entry) → low_first 3 (svid_kind + entry.svid * 256) ++ words_bytes mode_size entry.modes ≡ entry_bytes entry
unfolding entry_bytes
entry_record entry = ap₂ (λ (p : List ℕ) (q : List ℕ). p ++ q) (svid_record entry.svid) (modes_words entry.modes)

pub entry_room : (entry : Entry) → length (entry_bytes entry) ≡ 3 + length (words_bytes mode_size entry.modes)
entry_room entry =
    let front : List ℕ = low_first 3 (svid_kind + entry.svid * 256) in
    omega (arith, ap length (entry_record entry), length-append front (words_bytes mode_size entry.modes), length_low 3 (svid_kind + entry.svid * 256))

-- the kind, the identity objects, the entries and the end
pub catalogue_records : (c : Catalogue) → length c.identity ≤ most_objects →
    low_first 1 (length c.identity) ++ words_bytes object_size c.identity ++ entries_bytes c.entries ++ low_first 1 end_kind ≡ catalogue_bytes c
unfolding low_first catalogue_bytes
catalogue_records c few =
    let kind : length c.identity % 256 ≡ length c.identity = omega arith in
    ap₂ (λ (k : ℕ) (l : List ℕ). (k ∷ []) ++ l ++ entries_bytes c.entries ++ end_kind ∷ []) kind (objects_words c.identity)
