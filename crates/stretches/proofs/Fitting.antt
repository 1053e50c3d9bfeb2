-- The stretch lies within the bytes.
use mathlib.Core.Path.{◌≡◌, refl}
use mathlib.Core.Bool.{Bool, true, false, cond}
use mathlib.Core.List.{List, [], ◌∷◌}
use Prim.Native.Nat.{ℕ, ◌+◌, ◌*◌, ◌≤◌}
use native.Mathlib.Omega.{arith}
use lib.Dec.{eqb}
use lib.ListN.{length}
use borrow.Author.Tests.{eqb-true}
use Rattle.laptop.specs.Catalogue.{Entry}
use Rattle.catalogue.specs.Bytes.{modes_bytes, entry_bytes}
use Rattle.catalogue.proofs.Lengths.{length_modes, length_entry}
use Rattle.judging.specs.Judging.{Judgement, judgement_of}
use Rattle.judging.specs.Walking.{all_modes}
use Rattle.catalogue_laws.proofs.Reach.{place_within, accepted_size}
use Rattle.stretches.specs.Stretches.{refused_at, place_in, entries_at, stretch_in}
use Rattle.stretches.specs.Stretches.{Place}

abbrev end : Place → ℕ
end place = place.at + place.length

place_end : (svid at : ℕ) (entries : List Entry) → end (place_in svid at entries) ≤ at + 3 * length entries + 5 * all_modes entries
unfolding place_in all_modes
place_end svid at [] = omega arith
place_end svid at (entry ∷ entries) = go (eqb entry.svid svid) (place_end svid (at + length (entry_bytes entry)) entries)
  where
    go : (t : Bool) → end (place_in svid (at + length (entry_bytes entry)) entries) ≤ at + length (entry_bytes entry) + 3 * length entries + 5 * all_modes entries →
        end (cond t (record { refusal = 0; at = at + 3; length = length (modes_bytes entry.modes) }) (place_in svid (at + length (entry_bytes entry)) entries)) ≤
        at + 3 * length (entry ∷ entries) + 5 * (length entry.modes + all_modes entries)
    go true further = omega (arith, length_modes entry.modes)
    go false further = omega (arith, further, length_entry entry)

-- no further than the walk came
pub stretch_end : (bytes : List ℕ) (svid : ℕ) → end (stretch_in (judgement_of bytes) svid) ≤ (judgement_of bytes).at
unfolding stretch_in
stretch_end bytes svid = go (eqb j.refusal 0) refl
  where
    j : Judgement
    j = judgement_of bytes

    go : (t : Bool) → eqb j.refusal 0 ≡ t →
        end (cond t (place_in svid (entries_at j.catalogue) j.catalogue.entries) (refused_at j.refusal j.at)) ≤ j.at
    go true e = omega (arith, place_end svid (entries_at j.catalogue) j.catalogue.entries, accepted_size bytes (eqb-true j.refusal 0 e))
    go false e = omega arith

pub stretch_fits : (bytes : List ℕ) (svid : ℕ) → end (stretch_in (judgement_of bytes) svid) ≤ length bytes
stretch_fits bytes svid = omega (arith, stretch_end bytes svid, place_within bytes)
