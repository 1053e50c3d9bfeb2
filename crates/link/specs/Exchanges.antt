-- Runs that lead to the dock's whole catalogue: one in which nothing is lost, and one from wherever a run has led.
use Rattle.std.specs.Prelude.{◌⊎◌, ◌≡◌, ℕ, zero, suc, ◌+◌, ◌-◌, ◌/◌, ◌<◌, ◌≤◌, true, false, List, [], ◌∷◌, ◌++◌, length, get_or, Some, None}
use Rattle.messages.specs.Layout.{Message}
use Rattle.messages.specs.Requests.{svids_command, modes_command}
use Rattle.messages.specs.Table.{pd_sid}
use Rattle.pages.specs.Pages.{per_page}
use Rattle.dock.specs.Data.{listed, good_identity}
use Rattle.dock.specs.declared.Dock.{Dock}
use Rattle.dock.specs.declared.Policy.TheVariants.{Give}
use Rattle.owner.specs.Owner.{discover}
use Rattle.laptop.specs.Catalogue.{modes_each}
use Rattle.laptop.specs.State.{identity_request}
use Rattle.laptop_laws.specs.Effects.{next, drop, protocol_error}
use Rattle.link.specs.Demand.{whole, held_words, Holds}
use Rattle.link.specs.Joined.{System, Event, calls, reach, answer, arrive, sent}
use Rattle.link.specs.Link.{step, run}
use Rattle.link.specs.Needed.{identity_answer, modes_answer, has_come, needed, in_all_of, is_listing}

-- THE LOSS-FREE RUN. The dock can give all that is asked: 3 to 6 identity objects, and 1 to 6 modes for each listed SVID
pub record HasAll (modes_of : ℕ → List ℕ) (d : Dock) : Type 0 where
  pub identity_good : good_identity d.extent ≡ true
  pub identity_there : length d.identity ≡ 6
  pub some_modes : (i : ℕ) → i < length (listed d) → 1 ≤ length (modes_of (get_or (listed d) i 0))
  pub few_modes : (i : ℕ) → i < length (listed d) → length (modes_of (get_or (listed d) i 0)) ≤ modes_each

-- an exchange: next, the request reaches the dock, policy gives, the answer arrives, and what the dock hears of it; nothing is lost where that is "sent"
abbrev pub exchange_with : Event → List ℕ → List Event
exchange_with heard out = calls next out ∷ reach out ∷ answer Give out ∷ arrive ∷ heard ∷ []

abbrev pub exchange : List ℕ → List Event
exchange out = exchange_with sent out

abbrev pub times : ℕ → List Event → List Event
times zero events = []
times (suc n) events = events ++ times n events

-- k exchanges, and one more up to the arrival
abbrev pub up_to_arrival : ℕ → List ℕ → List Event
up_to_arrival k out = times k (exchange out) ++ calls next out ∷ reach out ∷ answer Give out ∷ []

-- of each state of a run, from its first to its last
abbrev pub Throughout : (ℕ → List ℕ) → (System → Type 0) → List Event → System → Type 0
Throughout modes_of P [] s = P s
Throughout modes_of P (e ∷ events) s = P s × Throughout modes_of P events (step modes_of e s)

-- so many exchanges end with the dock's whole catalogue held; up to the last arrival the old one is held, to the word; the pages are n / 12 + 1
abbrev pub LossFree : (ℕ → List ℕ) → System → List ℕ → Type 0
LossFree modes_of s out =
    Throughout modes_of (λ x. held_words x ≡ held_words s) (up_to_arrival (in_all_of (length (listed s.dock)) - 1) out) s ×
    Holds (whole modes_of s.dock) (run modes_of (times (in_all_of (length (listed s.dock))) (exchange out)) s) ×
    (0 < length (listed s.dock) →
    (run modes_of (times (in_all_of (length (listed s.dock))) (exchange out)) s).laptop.pages ≡ length (listed s.dock) / per_page + 1)

-- NO DEAD END. The wait is ended, what still arrives is heard, and the candidate is dropped
abbrev pub to_rest : List Event
to_rest = calls protocol_error [] ∷ arrive ∷ calls drop [] ∷ []

-- whatever has happened, a wait can be ended, and then the dock's whole catalogue gathered
abbrev pub NoDeadEnd : (ℕ → List ℕ) → Dock → System → List ℕ → Type 0
NoDeadEnd modes_of d s out =
    ((step modes_of (calls protocol_error []) s).laptop.wait ≡ None) ×
    Holds (whole modes_of d) (run modes_of (to_rest ++ times (in_all_of (length (listed d))) (exchange out)) s)

-- NEXT ASKS FOR WHAT IS NEEDED, whatever has been lost: Identity where nothing has come or nothing is missing, SVIDs while an answer to SVIDs is missing, and
-- then Modes of a listed SVID whose modes are
pub record AsksModes (modes_of : ℕ → List ℕ) (d : Dock) (got : List Message) (after : System) : Type 0 where
  pub place : ℕ
  pub is_listed : place < length (listed d)
  pub asked : after.laptop.wait ≡ Some (discover (get_or (listed d) place 0) modes_command)
  pub not_come : has_come (modes_answer modes_of (get_or (listed d) place 0)) got ≡ false

abbrev pub NextAsks : (ℕ → List ℕ) → Dock → System → List Message → List ℕ → Type 0
NextAsks modes_of d s got out =
    ((got ≡ []) ⊎ (needed modes_of d got ≡ 0) → (step modes_of (calls next out) s).laptop.wait ≡ Some identity_request) ×
    (has_come (identity_answer d) got ≡ true → is_listing (listed d) got ≡ true →
    (step modes_of (calls next out) s).laptop.wait ≡ Some (discover pd_sid svids_command)) ×
    (is_listing (listed d) got ≡ false → 0 < needed modes_of d got → AsksModes modes_of d got (step modes_of (calls next out) s))
