-- What is kept stands at the front of the file.
use mathlib.Core.Path.{◌≡◌, refl, ap, sym, ◌∙◌}
use mathlib.Core.List.{List, [], ◌∷◌, ◌++◌}
use Prim.Native.Nat.{ℕ, ◌+◌, ◌-◌, ◌<◌, ◌≤◌}
use native.Mathlib.Omega.{arith}
use lib.ListN.{length, take, length-append, length-take}
use lib.Seq.{take-take, take_at}
use Rattle.laws.specs.Bounded.{Below}
use Rattle.laptop.specs.Catalogue.{Catalogue}
use Rattle.catalogue.specs.Bytes.{end_kind}
use Rattle.judging.specs.Judging.{Judgement, judgement_of}
use Rattle.catalogue_laws.specs.Given.{Passed, Given}
use Rattle.catalogue_laws.specs.Given.Given.{unknown, cut, wrong, behind_end, sound}
use Rattle.catalogue_laws.proofs.Given.{given_exactly}
use Rattle.catalogue_laws.proofs.Passing.{passed_bytes, passed_part}
use Rattle.catalogue_laws.proofs.Reach.{passed_within}
use Rattle.catalogue_laws.proofs.WriteRead.{passed_bytes_lem, passed_ended}
use Rattle.mending.specs.Mending.{without_bare, kept_of, kept_bytes}
use Rattle.mending.proofs.Leaving.{bytes_left}

-- what a file is judged to be stands behind records that were passed
pub record Stood (bytes : List ℕ) (at : ℕ) (c : Catalogue) : Type 0 where
  pub place : ℕ
  pub passed : Passed bytes place c
  pub near : place ≤ at

given_stood : {bytes : List ℕ} {number at : ℕ} {c : Catalogue} → Given bytes number at c → Stood bytes at c
given_stood (unknown p e) = record { place = _; passed = p; near = omega arith }
given_stood (cut p e) = record { place = _; passed = p; near = omega arith }
given_stood (wrong p r n e w) = record { place = _; passed = p; near = omega arith }
given_stood (behind_end p n e right more) = record { place = _; passed = p; near = omega arith }
given_stood (sound p n e right all) = record { place = _; passed = p; near = omega arith }

pub stood : (bytes : List ℕ) → Stood bytes (judgement_of bytes).at (judgement_of bytes).catalogue
stood bytes = let j : Judgement = judgement_of bytes in given_stood ((given_exactly bytes j.refusal j.at j.catalogue).0 refl)

-- what is left of a catalogue is a beginning of what was passed
passed_left : (c : Catalogue) → passed_bytes c ≡ passed_bytes (kept_of c) ++ (bytes_left c.entries).more
unfolding kept_of
passed_left c = passed_part c (without_bare c.entries) (bytes_left c.entries).more (bytes_left c.entries).bytes_are

-- the bytes that come out: those of the file before the fault, less an SVID's without modes, and the end
module _ (bytes : List ℕ) (b : Below 256 bytes) (begun : 0 < length (judgement_of bytes).catalogue.identity) where
  abbrev c : Catalogue
  c = (judgement_of bytes).catalogue

  abbrev kept : List ℕ
  kept = passed_bytes (kept_of c)

  kept_ended : kept ++ end_kind ∷ [] ≡ kept_bytes (judgement_of bytes)
  unfolding kept_of kept_bytes
  kept_ended = passed_ended (kept_of c) begun

  pub kept_size : length (kept_bytes (judgement_of bytes)) ≡ length kept + 1
  kept_size = ap length (sym kept_ended) ∙ length-append kept (end_kind ∷ [])

  kept_near : length kept ≤ (stood bytes).place
  kept_near =
      let s = stood bytes in
      omega (arith, ap length (passed_bytes_lem b s.passed).0, ap length (passed_left c), length-append kept (bytes_left c.entries).more, length-take s.place bytes)

  kept_first : take (length kept) bytes ≡ kept
  kept_first =
      let s = stood bytes in
      sym (take-take (length kept) s.place bytes kept_near) ∙ ap (take (length kept)) (sym (passed_bytes_lem b s.passed).0 ∙ passed_left c) ∙
      take_at kept (bytes_left c.entries).more (length kept) refl

  pub kept_before : length (kept_bytes (judgement_of bytes)) - 1 ≤ (judgement_of bytes).at
  kept_before = omega (arith, kept_size, kept_near, (stood bytes).near)

  pub kept_within : length (kept_bytes (judgement_of bytes)) - 1 ≤ length bytes
  kept_within = omega (arith, kept_size, kept_near, passed_within (stood bytes).passed)

  pub kept_front : take (length (kept_bytes (judgement_of bytes)) - 1) bytes ++ end_kind ∷ [] ≡ kept_bytes (judgement_of bytes)
  kept_front =
      let n : length (kept_bytes (judgement_of bytes)) - 1 ≡ length kept = omega (arith, kept_size) in
      ap (λ (k : ℕ). take k bytes ++ end_kind ∷ []) n ∙ ap (λ (l : List ℕ). l ++ end_kind ∷ []) kept_first ∙ kept_ended
