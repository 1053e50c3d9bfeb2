-- Which words of the run have the modes of the SVIDs: mode j of SVID i is word 6i + j, and all other words stay.
use mathlib.Core.Path.{◌≡◌, refl, ap, ◌∙◌}
use mathlib.Core.List.{List, [], ◌∷◌}
use Prim.Native.Nat.{ℕ, zero, suc, ◌+◌, ◌*◌, ◌<◌, ◌≤◌}
use native.Mathlib.Nat.{add-zero, zero-add}
use native.Mathlib.Omega.{arith}
use lib.ListN.{length, get_or, take, drop, set, length-set, length-drop}
use lib.Seq.{sets, length-sets, get_or-set_same, get_or-set_other, get_or-take, get_or-drop, length-take-le, ext_get_or}
use Rattle.laptop.specs.Catalogue.{Entry, modes_each}
use Rattle.catalogue.specs.Bytes.{Each, SixModes}
use Rattle.judging.proofs.Places.{entry_at}
use Rattle.rebuilding.specs.Rebuilding.{modes_into}
use Rattle.rebuilding.proofs.Putting.{each_at}

-- one run of stores: the values where they were stored, and all else as it was
sets_other : (l : List ℕ) (i : ℕ) (values : List ℕ) (k : ℕ) → ((j : ℕ) → j < length values → k ≡ i + j → ⊥) → get_or (sets l i values) k 0 ≡ get_or l k 0
sets_other l i [] k other = refl
sets_other l i (value ∷ values) k other =
    sets_other (set l i value) (suc i) values k (λ j h e. other (suc j) (omega arith) (omega arith)) ∙
    get_or-set_other l i k value 0 (λ e. other 0 (omega arith) (omega arith))

sets_same : (l : List ℕ) (i : ℕ) (values : List ℕ) (j : ℕ) → j < length values → i + length values ≤ length l → get_or (sets l i values) (i + j) 0 ≡ get_or values j 0
sets_same l i [] j h room = absurd (omega arith)
sets_same l i (value ∷ values) zero h room =
    ap (λ (k : ℕ). get_or (sets (set l i value) (suc i) values) k 0) (add-zero i) ∙
    sets_other (set l i value) (suc i) values i (λ j less e. omega arith) ∙ get_or-set_same l i value 0 (omega arith)
sets_same l i (value ∷ values) (suc j) h room =
    let e : i + suc j ≡ suc i + j = omega arith in
    ap (λ (k : ℕ). get_or (sets (set l i value) (suc i) values) k 0) e ∙
    sets_same (set l i value) (suc i) values j (omega arith) (omega (arith, length-set l i value))

-- a word that no SVID has for a mode, where the first of the entries is SVID i
stays : (run : List ℕ) (i : ℕ) (entries : List Entry) (k : ℕ) →
    ((n j : ℕ) → n < length entries → j < length (entry_at entries n).modes → k ≡ (i + n) * modes_each + j → ⊥) → get_or (modes_into run i entries) k 0 ≡ get_or run k 0
unfolding modes_into
stays run i [] k other = refl
stays run i (entry ∷ entries) k other =
    stays (sets run (i * modes_each) entry.modes) (suc i) entries k (λ n j h few e. other (suc n) j (omega arith) few (omega arith)) ∙
    sets_other run (i * modes_each) entry.modes k (λ j few e. other 0 j (omega arith) few (omega arith))

-- words beyond an SVID's modes stay
pub beyond_stays : (run : List ℕ) (entries : List Entry) (k : ℕ) →
    ((i j : ℕ) → i < length entries → j < length (entry_at entries i).modes → k ≡ i * modes_each + j → ⊥) → get_or (modes_into run 0 entries) k 0 ≡ get_or run k 0
beyond_stays run entries k other = stays run 0 entries k (λ n j h few e. other n j h few (omega arith))

length_into : (run : List ℕ) (i : ℕ) (entries : List Entry) → length (modes_into run i entries) ≡ length run
unfolding modes_into
length_into run i [] = refl
length_into run i (entry ∷ entries) = length_into (sets run (i * modes_each) entry.modes) (suc i) entries ∙ length-sets run (i * modes_each) entry.modes

-- a word that an SVID has for a mode
mode_there : (run : List ℕ) (i : ℕ) (entries : List Entry) → Each SixModes entries → (i + length entries) * modes_each ≤ length run →
    (n j : ℕ) → n < length entries → j < length (entry_at entries n).modes →
    get_or (modes_into run i entries) ((i + n) * modes_each + j) 0 ≡ get_or (entry_at entries n).modes j 0
unfolding modes_into
mode_there run i [] six room n j h few = absurd (omega arith)
mode_there run i (entry ∷ entries) six room zero j h few =
    let e : (i + 0) * modes_each + j ≡ i * modes_each + j = omega arith in
    let after : List ℕ = sets run (i * modes_each) entry.modes in
    ap (λ (k : ℕ). get_or (modes_into after (suc i) entries) k 0) e ∙
    stays after (suc i) entries (i * modes_each + j) (λ n m less more same. omega (arith, six.0)) ∙
    sets_same run (i * modes_each) entry.modes j few (omega (arith, six.0))
mode_there run i (entry ∷ entries) six room (suc n) j h few =
    let e : (i + suc n) * modes_each + j ≡ (suc i + n) * modes_each + j = omega arith in
    let after : List ℕ = sets run (i * modes_each) entry.modes in
    ap (λ (k : ℕ). get_or (modes_into after (suc i) entries) k 0) e ∙
    mode_there after (suc i) entries six.1 (omega (arith, length-sets run (i * modes_each) entry.modes)) n j (omega arith) few

-- so the words of SVID i from 6i on are its modes
pub modes_there : (run : List ℕ) (entries : List Entry) → Each SixModes entries → length entries * modes_each ≤ length run → (i : ℕ) → i < length entries →
    take (length (entry_at entries i).modes) (drop (i * modes_each) (modes_into run 0 entries)) ≡ (entry_at entries i).modes
modes_there run entries six room i h =
    let there : List ℕ = drop (i * modes_each) (modes_into run 0 entries) in
    let modes : List ℕ = (entry_at entries i).modes in
    let few : length modes ≤ modes_each = each_at SixModes entries i six h in
    let size : length (take (length modes) there) ≡ length modes =
    length-take-le (length modes) there (omega (arith, length-drop (i * modes_each) (modes_into run 0 entries), length_into run 0 entries)) in
    ext_get_or 0 (take (length modes) there) modes size (λ j less.
    let within : j < length modes = omega (arith, size) in
    get_or-take (length modes) there j 0 within ∙ get_or-drop (i * modes_each) (modes_into run 0 entries) j 0 ∙
    rw zero-add at (mode_there run 0 entries six (omega arith) i j h within))
