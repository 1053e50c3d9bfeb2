-- The place of an SVID's modes among entries, entry by entry, as a walk has noted them.
use mathlib.Core.Path.{◌≡◌, ap, sym, ◌∙◌}
use mathlib.Core.Bool.{Bool, cond}
use mathlib.Core.List.{List}
use Prim.Native.Nat.{ℕ, ◌+◌, ◌*◌, ◌<◌, ◌≤◌}
use native.Mathlib.Omega.{arith}
use lib.ListN.{length, get_or, drop, drop_of_length-le}
use borrow.Author.Tests.{eq-eqb, ne_eqb}
use Rattle.pages.specs.Lists.{most_svids}
use Rattle.laptop.specs.Catalogue.{Entry}
use Rattle.catalogue.specs.Bytes.{modes_bytes, entry_bytes}
use Rattle.catalogue.proofs.Lengths.{length_modes, length_entry}
use Rattle.judging.specs.declared.walk.Walk.{Walk}
use Rattle.judging.proofs.Places.{entry_at, svid_noted, number_noted, next_entry}
use Rattle.stretches.specs.Stretches.{not_listed, refused_at, place_in, NotedAs}

module _ {entries : List Entry} {walk : Walk} {svids numbers : List ℕ} (noted_as : NotedAs entries walk svids numbers) (few : walk.count ≤ most_svids)
    (i : ℕ) (h : i < walk.count) where
  -- the entry at the place, as the walk has noted it
  all_few : length entries ≤ most_svids
  all_few = omega (arith, noted_as.count_is, few)

  there : i < length entries
  there = omega (arith, noted_as.count_is, h)

  abbrev entry : Entry
  entry = entry_at entries i

  svid_is : get_or svids i 0 ≡ entry.svid
  svid_is = ap (λ (l : List ℕ). get_or l i 0) noted_as.svids_are ∙ svid_noted entries all_few i there

  number_is : get_or numbers i 0 ≡ length entry.modes
  number_is = ap (λ (l : List ℕ). get_or l i 0) noted_as.numbers_are ∙ number_noted entries all_few i there

  module _ (svid at number : ℕ) (e : number ≡ get_or numbers i 0) where
    -- the SVID stands there,
    pub place_found : get_or svids i 0 ≡ svid → place_in svid at (drop i entries) ≡ record { refusal = 0; at = at + 3; length = number * 5 }
    unfolding place_in
    place_found same =
        ap (place_in svid at) (next_entry entries all_few i there) ∙
        ap (λ (t : Bool). cond t (record { refusal = 0; at = at + 3; length = length (modes_bytes entry.modes) })
        (place_in svid (at + length (entry_bytes (entry))) (drop (i + 1) entries))) (eq-eqb entry.svid svid (sym svid_is ∙ same)) ∙
        ap (λ (n : ℕ). record { refusal = 0; at = at + 3; length = n })
        (length_modes entry.modes ∙ ap (λ (n : ℕ). n * 5) (sym (e ∙ number_is)))

    -- or behind it
    pub place_further : (get_or svids i 0 ≡ svid → ⊥) → place_in svid at (drop i entries) ≡ place_in svid (at + 3 + number * 5) (drop (i + 1) entries)
    unfolding place_in
    place_further other =
        ap (place_in svid at) (next_entry entries all_few i there) ∙
        ap (λ (t : Bool). cond t (record { refusal = 0; at = at + 3; length = length (modes_bytes entry.modes) })
        (place_in svid (at + length (entry_bytes (entry))) (drop (i + 1) entries))) (ne_eqb entry.svid svid (λ same. other (svid_is ∙ same))) ∙
        ap (λ (n : ℕ). place_in svid n (drop (i + 1) entries))
        (omega (arith, length_entry (entry), e, number_is))

pub place_nowhere : (svid at : ℕ) (entries : List Entry) (i : ℕ) → length entries ≤ i → place_in svid at (drop i entries) ≡ refused_at not_listed 0
unfolding place_in
place_nowhere svid at entries i all = ap (place_in svid at) (drop_of_length-le entries all)
