-- The five ways a turn of the walk goes.
use mathlib.Core.Logic.{◌⊎◌, inl, inr}
use mathlib.Core.Path.{◌≡◌, refl}
use mathlib.Core.Bool.{Bool, true, false}
use mathlib.Core.List.{List}
use Prim.Native.Nat.{ℕ, suc}
use Rattle.laptop.specs.Catalogue.{Catalogue}
use Rattle.records.specs.Records.{cut_record, found_in}
use Rattle.records.specs.Records.{Found}
use Rattle.records.specs.Records.{Whole, Unknown, Cut, Nothing}
use Rattle.records.specs.declared.Record.{Record}
use Rattle.records.specs.declared.Record.TheVariants.{Identity, Svid, Mode, End}
use Rattle.judging.specs.Judging.{judgement, walk_from}
use Rattle.judging.specs.Walking.{svids_of, walk_of, is_end, may_follow}
use Rattle.catalogue_laws.proofs.Turns.{turn_cut, turn_nothing}

-- the bytes stop before a whole record
abbrev pub Short : List ℕ → Type 0
Short bytes = (found_in bytes ≡ Cut) ⊎ (found_in bytes ≡ Nothing)

pub turn_short : (records at : ℕ) (c : Catalogue) (bytes : List ℕ) → Short bytes → walk_from (suc records) at c bytes ≡ judgement cut_record at c
turn_short records at c bytes (inl e) = turn_cut records at c bytes e
turn_short records at c bytes (inr e) = turn_nothing records at c bytes e

abbrev pub follows : ℕ → Catalogue → Record → Bool
follows at c r = may_follow (walk_of at c) (svids_of c.entries) r

pub data Step (at : ℕ) (c : Catalogue) (bytes : List ℕ) : Type 0 where
  unknown : found_in bytes ≡ Unknown → Step at c bytes
  short : Short bytes → Step at c bytes
  wrong : (r : Record) (n : ℕ) → found_in bytes ≡ Whole r n → follows at c r ≡ false → Step at c bytes
  end : (n : ℕ) → found_in bytes ≡ Whole End n → follows at c End ≡ true → Step at c bytes
  on : (r : Record) (n : ℕ) → found_in bytes ≡ Whole r n → follows at c r ≡ true → is_end r ≡ false → Step at c bytes

pub step : (at : ℕ) (c : Catalogue) (bytes : List ℕ) → Step at c bytes
step at c bytes = by_found (found_in bytes) refl
  where
    by_record : (r : Record) (n : ℕ) → found_in bytes ≡ Whole r n → follows at c r ≡ true → Step at c bytes
    by_record (Identity objects) n e f = on (Identity objects) n e f refl
    by_record (Svid svid) n e f = on (Svid svid) n e f refl
    by_record (Mode mode) n e f = on (Mode mode) n e f refl
    by_record End n e f = end n e f

    by_order : (r : Record) (n : ℕ) → found_in bytes ≡ Whole r n → (b : Bool) → follows at c r ≡ b → Step at c bytes
    by_order r n e true f = by_record r n e f
    by_order r n e false f = wrong r n e f

    by_found : (found : Found) → found_in bytes ≡ found → Step at c bytes
    by_found (Whole r n) e = by_order r n e (follows at c r) refl
    by_found Unknown e = unknown e
    by_found Cut e = short (inl e)
    by_found Nothing e = short (inr e)
