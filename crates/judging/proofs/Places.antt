-- The entry at a place, and what a walk has noted there.
use mathlib.Core.Path.{◌≡◌, refl, ap, ◌∙◌}
use mathlib.Core.List.{List, [], ◌∷◌}
use Prim.Native.Nat.{ℕ, zero, suc, ◌+◌, ◌<◌, ◌≤◌}
use native.Mathlib.Numerals.{add-one}
use native.Mathlib.Omega.{arith}
use lib.ListN.{length, get_or, drop, replicate, length-replicate, get_or-append}
use lib.Seq.{drop-cons}
use Rattle.laws.proofs.Stores.{sets_front}
use Rattle.pages.specs.Lists.{most_svids}
use Rattle.laptop.specs.Catalogue.{Entry}
use Rattle.judging.specs.Judging.{noted}
use Rattle.judging.specs.Walking.{svids_of, numbers_of}
use Rattle.judging.proofs.Entries.{length_svids, length_numbers}

abbrev none : Entry
none = record { svid = 0; modes = [] }

abbrev pub entry_at : List Entry → ℕ → Entry
entry_at entries i = get_or entries i none

noted_at : (list : List ℕ) (i : ℕ) → i < length list → length list ≤ most_svids → get_or (noted list) i 0 ≡ get_or list i 0
noted_at list i h few =
    let zeros : List ℕ = replicate most_svids 0 in
    ap (λ (l : List ℕ). get_or l i 0) (sets_front zeros list (omega (arith, few, length-replicate {A = ℕ} most_svids 0))) ∙
    get_or-append list (drop (length list) zeros) 0 i h

svids_at : (entries : List Entry) (i : ℕ) → get_or (svids_of entries) i 0 ≡ (entry_at entries i).svid
unfolding svids_of
svids_at [] i = refl
svids_at (entry ∷ entries) zero = refl
svids_at (entry ∷ entries) (suc i) = svids_at entries i

numbers_at : (entries : List Entry) (i : ℕ) → get_or (numbers_of entries) i 0 ≡ length (entry_at entries i).modes
unfolding numbers_of
numbers_at [] i = refl
numbers_at (entry ∷ entries) zero = refl
numbers_at (entry ∷ entries) (suc i) = numbers_at entries i

module _ (entries : List Entry) (few : length entries ≤ most_svids) (i : ℕ) (h : i < length entries) where
  pub svid_noted : get_or (noted (svids_of entries)) i 0 ≡ (entry_at entries i).svid
  svid_noted = noted_at (svids_of entries) i (omega (arith, length_svids entries)) (omega (arith, length_svids entries)) ∙ svids_at entries i

  pub number_noted : get_or (noted (numbers_of entries)) i 0 ≡ length (entry_at entries i).modes
  number_noted = noted_at (numbers_of entries) i (omega (arith, length_numbers entries)) (omega (arith, length_numbers entries)) ∙ numbers_at entries i

  pub next_entry : drop i entries ≡ entry_at entries i ∷ drop (i + 1) entries
  next_entry = rw (add-one, drop-cons entries i none)
