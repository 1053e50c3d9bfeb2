-- A well-formed laptop (01, "The laptop end").
use Rattle.std.specs.Prelude.{◌⊎◌, ◌≡◌, Bool, true, false, not, ◌||◌, List, ℕ, ◌<◌, ◌≤◌, eqb, length, get_or, take, Option, Some, None}
use Rattle.messages.specs.Requests.{identity_command, svids_command, modes_command, enter_command, exit_command}
use Rattle.messages.specs.declared.request.Request.{Request}
use Rattle.messages.specs.Table.{pd_sid}
use Rattle.pages.specs.Lists.{most_svids, sound_list}
use Rattle.gathering.specs.Gathering.{most_pages}
use Rattle.laptop.specs.Catalogue.{modes_each, run_words, held_list}
use Rattle.laptop.specs.Marks.{all_positions}
use Rattle.owner.specs.Owner.{any_entered, discover, is_absent}
use Rattle.laptop.specs.State.{Memory, identity_request}
use Rattle.laptop.specs.declared.Candidate.{Candidate}
use Rattle.laptop.specs.declared.Candidate.TheVariants.{Absent, Open, Done}
use Rattle.laptop.specs.declared.Laptop.{Laptop}
use Rattle.laptop.specs.declared.Size.{Size}
use Rattle.laptop_laws.specs.Given.{Entered, HeldAt, OneOfItsModes, MayExit, EnteredAs}

-- what is lent has its size; a run has 432 words or more
pub record Lent (m : Memory) : Type 0 where
  pub svids_size : length m.svids ≡ most_svids
  pub modes_size : length m.modes ≡ most_svids
  pub run_size : run_words ≤ length m.run
  pub held_run_size : run_words ≤ length m.held_run

-- a catalogue in arrays, of which the first n SVIDs have their modes: 3 to 6 identity objects; at most 72 SVIDs, none 0, all different; 1 to 6
-- modes each, so that they fit 432 words
pub record Listed (size : Size) (n : ℕ) (svids modes : List ℕ) : Type 0 where
  pub extent_least : 3 ≤ size.extent
  pub extent_most : size.extent ≤ 6
  pub count_fits : size.count ≤ most_svids
  pub list_sound : sound_list (take size.count svids) ≡ true
  pub some_modes : (i : ℕ) → i < n → 1 ≤ get_or modes i 0
  pub few_modes : (i : ℕ) → i < n → get_or modes i 0 ≤ modes_each

abbrev pub HeldFits : Option Size → List ℕ → List ℕ → Type 0
HeldFits None svids modes = Unit
HeldFits (Some size) svids modes = Listed size size.count svids modes

-- the list is open only under 200 pages; when it is done, modes are missing
abbrev pub CandidateFits : Candidate → Size → ℕ → ℕ → List ℕ → List ℕ → Type 0
CandidateFits Absent size pages stored svids modes = Unit
CandidateFits Open size pages stored svids modes = Listed size 0 svids modes × (pages < most_pages) × (stored ≡ 0)
CandidateFits Done size pages stored svids modes = Listed size stored svids modes × (stored < size.count)

-- what is awaited fits the candidate; the pages are counted from the sending of Identity on
abbrev pub WaitFits : Option Request → Candidate → ℕ → ℕ → List ℕ → Type 0
WaitFits None candidate pages stored svids = Unit
WaitFits (Some r) candidate pages stored svids =
    ((r ≡ identity_request) × (candidate ≡ Absent) × (pages ≡ 0)) ⊎
    (((r ≡ discover pd_sid svids_command) × (candidate ≡ Open)) ⊎
    (((r ≡ discover (get_or svids stored 0) modes_command) × (candidate ≡ Done)) ⊎
    ((enter_command ≤ r.command) × (candidate ≡ Absent))))

-- a candidate is gathered, or Identity is awaited
abbrev pub awaits_identity : Option Request → Bool
awaits_identity None = false
awaits_identity (Some r) = eqb r.command identity_command

abbrev pub is_asking : Laptop → Bool
is_asking l = not (is_absent l.candidate) || awaits_identity l.wait

-- an awaited Enter names a held mode that is not entered, an awaited Exit one that is, or 7 where any of that SVID is
abbrev pub EnterFits : Request → Laptop → Memory → Type 0
EnterFits r l m =
    (r.command ≡ enter_command) ×
    ((place : ℕ) × HeldAt l m r.svid place × OneOfItsModes m place r.position × (Entered m place r.position → ⊥))

abbrev pub ExitFits : Request → Laptop → Memory → Type 0
ExitFits r l m =
    (r.command ≡ exit_command) × ((place : ℕ) × HeldAt l m r.svid place × MayExit m place r.position × EnteredAs m place r.position)

abbrev pub ModeFits : Option Request → Laptop → Memory → Type 0
ModeFits None l m = Unit
ModeFits (Some r) l m = enter_command ≤ r.command → EnterFits r l m ⊎ ExitFits r l m

pub record WellFormed (l : Laptop) (m : Memory) : Type 0 where
  pub lent : Lent m
  pub held_fits : HeldFits l.held m.held_svids m.held_modes
  pub candidate_fits : CandidateFits l.candidate l.gathered l.pages l.stored m.svids m.modes
  pub wait_fits : WaitFits l.wait l.candidate l.pages l.stored m.svids
  -- meanwhile no mode is entered
  pub none_entered : is_asking l ≡ true → any_entered m.entered ≡ false
  -- each set has six bits
  pub sets_fit : (i : ℕ) → get_or m.entered i 0 ≤ all_positions
  -- an entered mode is one of the held catalogue: with nothing held, none is entered
  pub entered_held : (place position : ℕ) → Entered m place position →
      (place < length (held_list l.held m.held_svids)) × OneOfItsModes m place position
  pub mode_fits : ModeFits l.wait l m
