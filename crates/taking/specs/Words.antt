-- 01's words on a page that came: what the tests of Taking.antt ask.
use Rattle.std.specs.Prelude.{◌⊎◌, ◌≡◌, ℕ, ◌+◌, ◌<◌, List, [], ◌∷◌, ◌++◌, length, get_or}
use Rattle.pages.specs.Lists.{most_svids}
use Rattle.pages.specs.Pages.{per_page, read_off, NoZero}
use Rattle.pages.specs.Words.{Stands, Twice}
use Rattle.taking.specs.Taking.{Judged, bad, repeats, full, ends}

-- six objects equal to the last twelve gathered
pub record RepeatPage (list values : List ℕ) : Type 0 where
  pub twelve : length values ≡ per_page
  pub earlier : List ℕ
  pub last_twelve : list ≡ earlier ++ values

-- six objects without a zero
pub record FullPage (values : List ℕ) : Type 0 where
  pub twelve : length values ≡ per_page
  pub non_zero : NoZero values

-- non_zero values followed by exactly one or two zeros
pub record EndingPage (values : List ℕ) : Type 0 where
  pub front : List ℕ
  pub zeros : List ℕ
  pub parts : values ≡ front ++ zeros
  pub non_zero : NoZero front
  pub one_or_two : (zeros ≡ 0 ∷ []) ⊎ (zeros ≡ 0 ∷ 0 ∷ [])

-- an SVID of the page is gathered already
pub record Again (list svids : List ℕ) : Type 0 where
  pub svid : ℕ
  pub on_page : Stands svid svids
  pub gathered : Stands svid list

-- a page is bad if it has neither form, repeats an SVID (one that is gathered, or one of its own), takes the total past 72, or is all zeros on
-- an empty list; its SVIDs are the values before the first zero
pub data BadPage (list values : List ℕ) : Type 0 where
  neither_form : (FullPage values → ⊥) → (EndingPage values → ⊥) → BadPage list values
  gathered_again : Again list (read_off values) → BadPage list values
  stands_twice : Twice (read_off values) → BadPage list values
  past_72 : most_svids < length list + length (read_off values) → BadPage list values
  all_zeros : list ≡ [] → ((k : ℕ) → k < length values → get_or values k 0 ≡ 0) → BadPage list values

-- what a page is: a repeat; else bad; else full, with its twelve; else ending, with the values before the first zero
pub data JudgedAs (list values : List ℕ) (judged : Judged) : Type 0 where
  as_repeat : judged ≡ repeats → RepeatPage list values → JudgedAs list values judged
  as_bad : judged ≡ bad → (RepeatPage list values → ⊥) → BadPage list values → JudgedAs list values judged
  as_full : judged ≡ full values → (RepeatPage list values → ⊥) → FullPage values → (BadPage list values → ⊥) → JudgedAs list values judged
  as_ending : judged ≡ ends (read_off values) → (RepeatPage list values → ⊥) → (FullPage values → ⊥) → EndingPage values →
      (BadPage list values → ⊥) → JudgedAs list values judged
