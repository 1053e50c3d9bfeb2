-- Answers that gather the list: Identity and SVIDs (01, "The laptop end", "Taking a page"; 02, R-5).
use Rattle.std.specs.Prelude.{◌≡◌, ℕ, ◌+◌, ◌/◌, ◌%◌, ◌^◌, Bool, cond, ◌&&◌, List, [], ◌∷◌, leb, eqb, length, get_or, replicate}
use Rattle.std.proofs.lemmas.List.Edits.{sets}
use Rattle.messages.specs.Editions.{ours, lower}
use Rattle.messages.specs.Layout.{ack, busy}
use Rattle.messages.specs.declared.edition.Edition.{Edition}
use Rattle.pages.specs.Lists.{most_svids}
use Rattle.pages.specs.Pages.{per_page}
use Rattle.taking.specs.Taking.{refusal_of, added_by, meant, verdict}
use Rattle.taking.specs.declared.Verdict.{Verdict}
use Rattle.taking.specs.declared.Verdict.TheVariants.{Bad, Repeat, More, Ends}
use Rattle.laptop.specs.Calls.{refused_by, accepted_with}
use Rattle.laptop.specs.State.{is_open, gathered_list, ended, dropped, opened, counted, gathered_to}
use Rattle.laptop.specs.declared.Candidate.TheVariants.{Open, Done}
use Rattle.laptop.specs.declared.Laptop.{Laptop}
use Rattle.laptop.specs.Step.{Step}
use Rattle.laptop.specs.declared.Told.TheVariants.{Nothing}

-- Identity: an ACK opens an empty list, and the lower of its edition and ours is used from now on; NAK or BUSY leaves no candidate
pub record Opening : Type 0 where
  pub step : Step
  pub svids : List ℕ
  pub identity : List ℕ

-- what hearing it promises: the step and all that may change
abbrev pub OpeningIs : Opening → Step → List ℕ → List ℕ → Type 0
OpeningIs o step svids identity = (step ≡ o.step) × (svids ≡ o.svids) × (identity ≡ o.identity)

unfoldable pub hear_identity : Laptop → Edition → ℕ → ℕ → List ℕ → List ℕ → List ℕ → Opening
hear_identity l e kind n objects svids identity =
    cond (eqb kind ack) (record { step = accepted_with Nothing (opened n (lower e ours) l); svids = replicate most_svids 0; identity = objects })
    (record { step = accepted_with Nothing (dropped l); svids = svids; identity = identity })

-- SVIDs: what becomes of the call and of the candidate's SVIDs
pub record Gathering : Type 0 where
  pub step : Step
  pub svids : List ℕ

abbrev pub GatheringIs : Gathering → Step → List ℕ → Type 0
GatheringIs g step svids = (step ≡ g.step) × (svids ≡ g.svids)

abbrev pub gathering : Step → List ℕ → Gathering
gathering step svids = record { step = step; svids = svids }

-- two hundred pages without an end
abbrev pub most_pages : ℕ
most_pages = 200

unfoldable pub unless_last : Laptop → List ℕ → Gathering → Gathering
unless_last l svids more = cond (leb most_pages l.pages) (gathering (refused_by 14 (dropped l)) svids) more

-- a full page leaves the list open, its values behind the n gathered
abbrev pub full_page : Laptop → List ℕ → List ℕ → ℕ → Gathering
full_page l svids values n =
    unless_last l svids (gathering (accepted_with Nothing (gathered_to Open (n + per_page) l)) (sets svids n values))

-- a page is taken by what it is to the gathered list: bad, repeat, full, or ending with k values; new values stand behind the n gathered
unfoldable pub take_as : Laptop → List ℕ → List ℕ → ℕ → Verdict → Gathering
take_as l svids values n Bad = gathering (refused_by (refusal_of (meant values Bad)) (dropped l)) svids
take_as l svids values n Repeat = unless_last l svids (gathering (accepted_with Nothing (ended l)) svids)
take_as l svids values n More = full_page l svids (added_by (meant values More)) n
take_as l svids values n (Ends k) =
    gathering (accepted_with Nothing (gathered_to Done (n + k) l)) (sets svids n (added_by (meant values (Ends k))))

unfoldable pub take_page : Laptop → List ℕ → List ℕ → Gathering
take_page l svids values =
    take_as l svids values (length (gathered_list l svids)) (verdict (gathered_list l svids) values)

-- the values of six words
abbrev pub six_halves : List ℕ → List ℕ
six_halves o =
    get_or o 0 0 / 2 ^ 16 ∷ get_or o 0 0 % 2 ^ 16 ∷ get_or o 1 0 / 2 ^ 16 ∷ get_or o 1 0 % 2 ^ 16 ∷ get_or o 2 0 / 2 ^ 16 ∷ get_or o 2 0 % 2 ^ 16 ∷
    get_or o 3 0 / 2 ^ 16 ∷ get_or o 3 0 % 2 ^ 16 ∷ get_or o 4 0 / 2 ^ 16 ∷ get_or o 4 0 % 2 ^ 16 ∷ get_or o 5 0 / 2 ^ 16 ∷ get_or o 5 0 % 2 ^ 16 ∷ []

-- the list is open, and nothing is gathered
unfoldable pub none_gathered : Laptop → Bool
none_gathered l = is_open l.candidate && eqb l.gathered.count 0

-- an ACK is counted and taken; BUSY changes nothing more; NAK with nothing gathered makes an empty list, later it is refused 8, as it is where no
-- list is open
unfoldable pub hear_svids : Laptop → ℕ → List ℕ → List ℕ → Gathering
hear_svids l kind values svids =
    cond (eqb kind ack) (take_page (counted l) svids values)
    (cond (eqb kind busy) (gathering (accepted_with Nothing (ended l)) svids)
    (cond (none_gathered l) (gathering (accepted_with Nothing (gathered_to Done 0 l)) svids)
    (gathering (refused_by 8 (dropped l)) svids)))
