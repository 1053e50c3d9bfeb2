-- When each number is given, and at which record (02, R-1): the first fault from the front is named, and at one record 15 comes before 16 and 16 before 17.
use Rattle.std.specs.Prelude.{◌⊎◌, ◌≡◌, false, List, ℕ, ◌+◌, ◌<◌, length, drop}
use Rattle.laptop.specs.Catalogue.{Catalogue}
use Rattle.records.specs.Records.{found_in, unknown_kind, cut_record}
use Rattle.records.specs.Records.{Whole, Unknown, Cut, Nothing}
use Rattle.records.specs.declared.Record.{Record}
use Rattle.records.specs.declared.Record.TheVariants.{End}
use Rattle.judging.specs.Judging.{out_of_order, bytes_after_end, nothing_yet}
use Rattle.judging.specs.Walking.{is_end, added}
use Rattle.catalogue_laws.specs.Words.{Wrong}

-- whole records lie from the front to an offset, each in its order and none the end, and make a catalogue
pub data Passed (bytes : List ℕ) : ℕ → Catalogue → Type 0 where
  front : Passed bytes 0 nothing_yet
  behind : {at : ℕ} {c : Catalogue} → Passed bytes at c → (r : Record) (n : ℕ) → found_in (drop at bytes) ≡ Whole r n → (Wrong c r → ⊥) → is_end r ≡ false →
      Passed bytes (at + n) (added c r (drop at bytes))

-- the number, the offset, and the catalogue of the records before it
pub data Given (bytes : List ℕ) : ℕ → ℕ → Catalogue → Type 0 where
  unknown : {at : ℕ} {c : Catalogue} → Passed bytes at c → found_in (drop at bytes) ≡ Unknown → Given bytes unknown_kind at c
  cut : {at : ℕ} {c : Catalogue} → Passed bytes at c → (found_in (drop at bytes) ≡ Cut) ⊎ (found_in (drop at bytes) ≡ Nothing) → Given bytes cut_record at c
  wrong : {at : ℕ} {c : Catalogue} → Passed bytes at c → (r : Record) (n : ℕ) → found_in (drop at bytes) ≡ Whole r n → Wrong c r → Given bytes out_of_order at c
  behind_end : {at : ℕ} {c : Catalogue} → Passed bytes at c → (n : ℕ) → found_in (drop at bytes) ≡ Whole End n → (Wrong c End → ⊥) → at + n < length bytes →
      Given bytes bytes_after_end (at + n) c
  sound : {at : ℕ} {c : Catalogue} → Passed bytes at c → (n : ℕ) → found_in (drop at bytes) ≡ Whole End n → (Wrong c End → ⊥) → at + n ≡ length bytes →
      Given bytes 0 (at + n) c
