-- A file that is accepted ends with its end record, behind the records that its catalogue is made of.
use mathlib.Core.Path.{◌≡◌, refl}
use mathlib.Core.List.{List}
use Prim.Native.Nat.{ℕ, ◌+◌}
use native.Mathlib.Omega.{arith}
use lib.ListN.{length, drop}
use Rattle.laptop.specs.Catalogue.{Catalogue}
use Rattle.records.specs.Records.{found_in}
use Rattle.records.specs.Records.{Whole}
use Rattle.records.specs.declared.Record.TheVariants.{End}
use Rattle.judging.specs.Judging.{Judgement, judgement_of}
use Rattle.catalogue_laws.specs.Given.{Passed, Given}
use Rattle.catalogue_laws.specs.Given.Given.{unknown, cut, wrong, behind_end, sound}
use Rattle.catalogue_laws.specs.Words.{Wrong}
use Rattle.catalogue_laws.proofs.Given.{given_exactly}

pub record Ended (bytes : List ℕ) (at : ℕ) (c : Catalogue) : Type 0 where
  pub place : ℕ
  pub passed : Passed bytes place c
  pub size : ℕ
  pub end_is : found_in (drop place bytes) ≡ Whole End size
  pub right : Wrong c End → ⊥
  pub behind : at ≡ place + size
  pub all : at ≡ length bytes

given_ended : {bytes : List ℕ} {number at : ℕ} {c : Catalogue} → Given bytes number at c → number ≡ 0 → Ended bytes at c
given_ended (unknown p e) z = absurd (omega (arith, z))
given_ended (cut p e) z = absurd (omega (arith, z))
given_ended (wrong p r n e w) z = absurd (omega (arith, z))
given_ended (behind_end p n e right more) z = absurd (omega (arith, z))
given_ended (sound p n e right all) z = record { place = _; passed = p; size = n; end_is = e; right = right; behind = refl; all = all }

pub accepted_ended : (bytes : List ℕ) → (judgement_of bytes).refusal ≡ 0 → Ended bytes (judgement_of bytes).at (judgement_of bytes).catalogue
accepted_ended bytes z =
    let j : Judgement = judgement_of bytes in
    given_ended ((given_exactly bytes j.refusal j.at j.catalogue).0 refl) z
