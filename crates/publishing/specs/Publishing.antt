-- A candidate that is whole replaces the held catalogue (01, "The laptop end").
use Rattle.std.specs.Prelude.{◌≡◌, ℕ, suc, ◌/◌, ◌%◌, Bool, true, false, cond, ◌&&◌, List, [], ◌∷◌, leb, ltb, get_or, take, set}
use Rattle.laws.specs.Lent.{Lent, lent, left}
use Rattle.laptop.specs.Catalogue.{modes_each}
use Rattle.laptop.specs.State.{published}
use Rattle.laptop.specs.declared.Candidate.{Candidate}
use Rattle.laptop.specs.declared.Candidate.TheVariants.{Absent, Open, Done}
use Rattle.laptop.specs.declared.Laptop.{Laptop}
use Rattle.laptop.specs.Step.{Step}

-- a candidate whose list is done and of which no modes are missing is published
abbrev pub is_done : Candidate → Bool
is_done Absent = false
is_done Open = false
is_done Done = true

unfoldable pub is_whole : Laptop → Bool
is_whole l = is_done l.candidate && leb l.gathered.count l.stored

-- word k of a run is a mode of its SVID
unfoldable pub is_mode : List ℕ → ℕ → Bool
is_mode modes k = ltb (k % modes_each) (get_or modes (k / modes_each) 0)

-- publishing copies the modes into the held run, and no other word; k is the place of the first word
unfoldable pub copied : List ℕ → List ℕ → ℕ → List ℕ → List ℕ
copied modes run k [] = []
copied modes run k (word ∷ words) = cond (is_mode modes k) (get_or run k 0) word ∷ copied modes run (suc k) words

-- one word of it
unfoldable pub copied_to : List ℕ → List ℕ → ℕ → List ℕ → List ℕ
copied_to modes run k words = cond (is_mode modes k) (set words k (get_or run k 0)) words

-- publishing replaces the held catalogue at once and leaves no candidate
abbrev pub with_laptop : Laptop → Step → Step
with_laptop l s = record { refusal = s.refusal; length = s.length; told = s.told; laptop = l }

-- what publishing promises: the step, and the held arrays and run with the candidate's
abbrev pub PublishedAs : Step → List ℕ → List ℕ → List ℕ → List ℕ → Lent (List ℕ) → Lent (List ℕ) → Lent (List ℕ) → Lent (List ℕ) → Step → Type 0
PublishedAs before svids modes identity run held_svids held_modes held_identity held_run step =
    (step ≡ with_laptop (published before.laptop) before) × (left held_svids ≡ svids) × (left held_modes ≡ modes) × (left held_identity ≡ identity) ×
    (left held_run ≡ copied (take before.laptop.gathered.count modes) run 0 (lent held_run))
