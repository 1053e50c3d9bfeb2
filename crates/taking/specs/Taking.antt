-- Taking a page: what its values are to the gathered list (01, "Taking a page").
use Rattle.std.specs.Prelude.{ℕ, ◌+◌, ◌-◌, Bool, true, false, cond, not, ◌&&◌, List, [], ◌∷◌, leb, eqb, length, get_or, take, drop}
use Rattle.pages.specs.Lists.{most_svids, is_in}
use Rattle.pages.specs.Pages.{per_page, read_off}
use Rattle.taking.specs.declared.Verdict.{Verdict}
use Rattle.taking.specs.declared.Verdict.TheVariants.{Bad, Repeat, More, Ends}

unfoldable pub same_list : List ℕ → List ℕ → Bool
same_list [] [] = true
same_list [] (b ∷ m) = false
same_list (a ∷ l) [] = false
same_list (a ∷ l) (b ∷ m) = eqb a b && same_list l m

-- six objects equal to the last twelve gathered
unfoldable pub is_repeat : List ℕ → List ℕ → Bool
is_repeat list values = leb per_page (length list) && same_list (drop (length list - per_page) list) values

-- the values before the first zero
abbrev pub before : List ℕ → ℕ
before values = length (read_off values)

-- six objects without a zero
unfoldable pub is_full : List ℕ → Bool
is_full values = eqb (length values) per_page && eqb (before values) per_page

-- non-zero values followed by exactly one or two zeros: one or two follow, and the last is zero, as the first is
unfoldable pub is_ending : List ℕ → Bool
is_ending values =
    leb (before values + 1) (length values) &&
    (leb (length values) (before values + 2) && eqb (get_or values (length values - 1) 0) 0)

-- none is gathered, and none stands twice on the page
unfoldable pub all_new : List ℕ → List ℕ → Bool
all_new list [] = true
all_new list (v ∷ values) = not (is_in v list) && (not (is_in v values) && all_new list values)

-- the page repeats no SVID and takes the total not past 72
unfoldable pub adds : List ℕ → List ℕ → Bool
adds list values = leb (length list + length values) most_svids && all_new list values

-- all zeros on an empty list: none gathered, and none before the first zero
abbrev pub nothing : ℕ → ℕ → Bool
nothing gathered n = eqb gathered 0 && eqb n 0

-- what a page is to the gathered list; a full page has the SVIDs that it adds, and an ending page those that it ends the list with
pub data Judged : Type 0 where
  bad : Judged
  repeats : Judged
  full : List ℕ → Judged
  ends : List ℕ → Judged

-- the refusal number of each
abbrev pub refusal_of : Judged → ℕ
refusal_of bad = 8
refusal_of repeats = 0
refusal_of (full svids) = 0
refusal_of (ends svids) = 0

-- the SVIDs that each adds to the list
abbrev pub added_by : Judged → List ℕ
added_by bad = []
added_by repeats = []
added_by (full svids) = svids
added_by (ends svids) = svids

-- a page that is neither a repeat nor full
abbrev pub judged_ending : List ℕ → List ℕ → Judged
judged_ending list values =
    cond (is_ending values && (not (nothing (length list) (before values)) && adds list (read_off values))) (ends (read_off values)) bad

abbrev pub judged : List ℕ → List ℕ → Judged
judged list values =
    cond (is_repeat list values) repeats (cond (is_full values) (cond (adds list values) (full values) bad) (judged_ending list values))

-- how the code's verdict shows it
abbrev pub shown : Judged → Verdict
shown bad = Bad
shown repeats = Repeat
shown (full svids) = More
shown (ends svids) = Ends (length svids)

-- and what that verdict says of the page's values
abbrev pub meant : List ℕ → Verdict → Judged
meant values Bad = bad
meant values Repeat = repeats
meant values More = full values
meant values (Ends k) = ends (take k values)

unfoldable pub ending_verdict : List ℕ → List ℕ → Verdict
ending_verdict list values = shown (judged_ending list values)

unfoldable pub verdict : List ℕ → List ℕ → Verdict
verdict list values = shown (judged list values)
