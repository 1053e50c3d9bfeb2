-- How far the records that a walk has passed reach.
use mathlib.Core.Path.{◌≡◌, refl}
use mathlib.Core.List.{List}
use Prim.Native.Nat.{ℕ, ◌+◌, ◌*◌, ◌≤◌}
use native.Mathlib.Omega.{arith}
use lib.ListN.{length, drop, length-drop}
use Rattle.laptop.specs.Catalogue.{Catalogue}
use Rattle.records.proofs.Laws.{whole_length}
use Rattle.judging.specs.Judging.{Judgement, judgement_of}
use Rattle.judging.specs.Walking.{all_modes, svids_of, walk_of}
use Rattle.judging.proofs.Following.{ended_closed}
use Rattle.records.specs.declared.Record.TheVariants.{End}
use Rattle.catalogue_laws.specs.Given.{Passed, Given}
use Rattle.catalogue_laws.specs.Given.Passed.{front, behind}
use Rattle.catalogue_laws.specs.Given.Given.{unknown, cut, wrong, behind_end, sound}
use Rattle.catalogue_laws.proofs.Accepted.{accepted_ended}
use Rattle.catalogue_laws.proofs.Given.{given_exactly}
use Rattle.catalogue_laws.proofs.Sized.{Sized, sized_on, sized_front}
use Rattle.catalogue_laws.proofs.Words.{right_exactly}

pub passed_within : {bytes : List ℕ} {at : ℕ} {c : Catalogue} → Passed bytes at c → at ≤ length bytes
passed_within front = omega arith
passed_within {bytes} (behind {at} p r n e right more) = omega (arith, passed_within p, whole_length (drop at bytes) r n e, length-drop at bytes)

given_within : {bytes : List ℕ} {number at : ℕ} {c : Catalogue} → Given bytes number at c → at ≤ length bytes
given_within (unknown p e) = passed_within p
given_within (cut p e) = passed_within p
given_within (wrong p r n e w) = passed_within p
given_within (behind_end p n e right more) = omega arith
given_within (sound p n e right all) = omega arith

-- what is judged stands within the bytes
pub place_within : (bytes : List ℕ) → (judgement_of bytes).at ≤ length bytes
place_within bytes = let j : Judgement = judgement_of bytes in given_within ((given_exactly bytes j.refusal j.at j.catalogue).0 refl)

passed_sized : {bytes : List ℕ} {at : ℕ} {c : Catalogue} → Passed bytes at c → Sized (walk_of at c)
passed_sized front = sized_front
passed_sized {bytes} (behind {at} {c} p r n e right more) = sized_on at c (drop at bytes) (passed_sized p) r n e ((right_exactly at c r).1 right) more

-- a sound file's records: the identity, 3 bytes an SVID, 5 a mode, and the end
pub accepted_size : (bytes : List ℕ) → (judgement_of bytes).refusal ≡ 0 →
    1 + length (judgement_of bytes).catalogue.identity * 4 + 3 * length (judgement_of bytes).catalogue.entries + 5 * all_modes (judgement_of bytes).catalogue.entries ≤
    (judgement_of bytes).at
unfolding walk_of
accepted_size bytes accepted =
    let c = (judgement_of bytes).catalogue in
    let e = accepted_ended bytes accepted in
    let s = passed_sized e.passed in
    let begun = (ended_closed (walk_of e.place c) (svids_of c.entries) ((right_exactly e.place c End).1 e.right)).0 in
    omega (arith, s.place, e.behind, begun)
