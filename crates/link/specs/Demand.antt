-- What demand 3 says, in the words of document 01.
use Rattle.std.specs.Prelude.{◌⊎◌, ◌≡◌, ℕ, ◌+◌, ◌/◌, ◌^◌, ◌<◌, ◌≤◌, true, false, List, [], ◌∷◌, length, take, Some, None, Option}
use Rattle.laws.specs.Bounded.{Below}
use Rattle.messages.specs.Editions.{ours}
use Rattle.messages.specs.Layout.{Message, message_bytes}
use Rattle.messages.specs.Reading.{accepted, read_outcome}
use Rattle.messages.specs.declared.edition.Edition.{Edition}
use Rattle.pages.specs.Pages.{per_page}
use Rattle.dock.specs.Data.{listed}
use Rattle.dock.specs.Dock.{step_of}
use Rattle.dock.specs.Sound.{Sound}
use Rattle.dock.specs.declared.Dock.{Dock}
use Rattle.dock.specs.declared.Standing.TheVariants.{Ready}
use Rattle.catalogue.specs.Bytes.{HeldCatalogue, held_catalogue}
use Rattle.catalogue.specs.Bytes.{holding as holds}
use Rattle.laptop.specs.Catalogue.{Entry, Catalogue}
use Rattle.hearing.specs.Hearing.{is_late_page}
use Rattle.owner.specs.Owner.{is_absent, request_message}
use Rattle.laptop.specs.State.{gathered_list, identity_request}
use Rattle.laptop_laws.specs.Effects.{start_over, drop, message, Kept}
use Rattle.laptop_laws.specs.Holding.{Holding, holding}
use Rattle.laptop_laws.specs.WellFormed.{awaits_identity, WellFormed}
use Rattle.link.specs.Ends.{laptop_does, dock_hears}
use Rattle.link.specs.Joined.{clear, request, gone, System, Event, calls, arrive}
use Rattle.link.specs.Link.{step}
use Rattle.link.specs.Needed.{needed, pages_in, is_listing, on_way, arriving, received_by, brings_new}

-- fixed data that meets 01: a sound dock, whose numbers are as wide as messages have them. That each listed SVID has modes is not asked: the
-- dock refuses policy's answer otherwise
pub record Meets (modes_of : ℕ → List ℕ) (d : Dock) : Type 0 where
  pub sound : Sound d
  pub svids_fit : Below (2 ^ 16) (listed d)
  pub identity_fits : Below (2 ^ 32) (take d.extent d.identity)
  pub modes_fit : (svid : ℕ) → Below (2 ^ 32) (modes_of svid)

-- a Discover Identity has just gone out from a well-formed laptop, and nothing else is on its way; the dock is at rest, at any page
pub record Begins (s : System) : Type 0 where
  pub formed : WellFormed s.laptop s.memory
  pub identity_awaited : s.laptop.wait ≡ Some identity_request
  pub identity_out : s.way ≡ request (message_bytes ours (request_message identity_request))
  pub nothing_else : s.fate ≡ gone
  pub at_rest : s.dock.standing ≡ Ready

-- before that: a well-formed laptop that awaits nothing, nothing on its way, and the dock at rest
pub record AtRest (s : System) : Type 0 where
  pub formed : WellFormed s.laptop s.memory
  pub nothing_awaited : s.laptop.wait ≡ None
  pub nothing_comes : s.fate ≡ gone
  pub dock_ready : s.dock.standing ≡ Ready

-- a laptop and a dock of a highest edition with nothing on its way between them
abbrev pub apart : Kept → Edition → Dock → System
apart k highest d = record { laptop = k.laptop; memory = k.memory; way = clear; fate = gone; dock = d; highest = highest; lost = 0 }

-- the dock's whole catalogue, in order
abbrev pub entries_of : (ℕ → List ℕ) → List ℕ → List Entry
entries_of modes_of [] = []
entries_of modes_of (svid ∷ list) = record { svid = svid; modes = modes_of svid } ∷ entries_of modes_of list

abbrev pub whole : (ℕ → List ℕ) → Dock → Catalogue
whole modes_of d = record { identity = take d.extent d.identity; entries = entries_of modes_of (listed d) }

-- the catalogue that the laptop holds
abbrev pub held_in : Holding → HeldCatalogue
held_in h = held_catalogue h.held h.identity h.svids h.modes h.run

abbrev pub held_words : System → Holding
held_words s = holding s.laptop s.memory

abbrev pub Holds : Catalogue → System → Type 0
Holds catalogue s = held_in (held_words s) ≡ holds catalogue

-- the old catalogue, unharmed to the word, or the dock's whole one
abbrev pub OldOrWhole : (ℕ → List ℕ) → System → System → Type 0
OldOrWhole modes_of start s = (held_words s ≡ held_words start) ⊎ Holds (whole modes_of start.dock) s

-- Of the number of answers that the gathering still needs, where `got` has come in it:
module _ (modes_of : ℕ → List ℕ) (d : Dock) where
  abbrev pub now : List Message → ℕ
  now got = needed modes_of d got

  abbrev pub thereafter : Event → System → List Message → ℕ
  thereafter e s got = needed modes_of d (received_by e s got)

  -- a new answer lowers it by exactly 1, and nothing else lowers it
  abbrev pub Lowers : Event → System → List Message → Type 0
  Lowers e s got =
      (brings_new e s got ≡ true → thereafter e s got + 1 ≡ now got) ×
      (brings_new e s got ≡ false → now got ≤ thereafter e s got)

  -- the dock's whole catalogue replaces what is held when it comes to 0, and at no other event does what is held change
  abbrev pub Replaces : Event → System → List Message → Type 0
  Replaces e s got =
      (0 < now got → thereafter e s got ≡ 0 → Holds (whole modes_of d) (step modes_of e s)) ×
      ((now got ≡ 0) ⊎ (0 < thereafter e s got) → held_words (step modes_of e s) ≡ held_words s)

  -- when all pages have come and not yet all modes, the list is the dock's, the laptop has counted the pages that came, and they are n / 12, rounded
  -- down, plus 1, plus the confirmations lost on pages before the last
  abbrev pub Counts : System → List Message → Type 0
  Counts s got =
      is_listing (listed d) got ≡ false → 0 < now got →
      (gathered_list s.laptop s.memory.svids ≡ listed d) × (s.laptop.pages ≡ pages_in got) ×
      (pages_in got ≡ length (listed d) / per_page + 1 + s.lost)

  -- and so it is when the last answer needed has come
  abbrev pub Completes : Event → System → List Message → Type 0
  Completes e s got =
      0 < now got → thereafter e s got ≡ 0 → 0 < length (listed d) →
      ((step modes_of e s).laptop.pages ≡ pages_in (received_by e s got)) ×
      (pages_in (received_by e s got) ≡ length (listed d) / per_page + 1 + (step modes_of e s).lost)

-- how the laptop answers what arrives
abbrev pub refusal_of : System → Option (List ℕ) → ℕ
refusal_of s None = 0
refusal_of s (Some bytes) = (laptop_does (message bytes) s.laptop s.memory []).step.refusal

-- the ends of a gathering that is not finished: drop, start over, a late page with nothing awaited, or two hundred pages
pub data Ending (s : System) : Event → Type 0 where
  by_drop : (out : List ℕ) → Ending s (calls drop out)
  by_start_over : (out : List ℕ) → Ending s (calls start_over out)
  by_late_page : (bytes : List ℕ) (e : Edition) (m : Message) → on_way s.fate ≡ Some bytes → read_outcome bytes ≡ accepted e m → is_late_page s.laptop m.head ≡ true →
      Ending s arrive
  by_fourteen : refusal_of s (on_way s.fate) ≡ 14 → Ending s arrive

-- what raises the number again: the Identity of a new gathering once the last is finished, and these ends
abbrev pub Raises : (ℕ → List ℕ) → Dock → Event → System → List Message → Type 0
Raises modes_of d e s got =
    now modes_of d got < thereafter modes_of d e s got →
    ((now modes_of d got ≡ 0) × (awaits_identity (step modes_of e s).laptop.wait ≡ true)) ⊎ Ending s e

-- a candidate is given up only where the number has come to 0, or by these ends
abbrev pub EndsBy : (ℕ → List ℕ) → Dock → Event → System → List Message → Type 0
EndsBy modes_of d e s got =
    is_absent s.laptop.candidate ≡ false → is_absent (step modes_of e s).laptop.candidate ≡ true →
    (thereafter modes_of d e s got ≡ 0) ⊎ Ending s e

-- what arrives at the laptop is taken, or refused 6 or 14; in particular never 1 to 5, and never 8
abbrev pub NeverBad : Event → System → Type 0
NeverBad e s =
    (refusal_of s (arriving e s.fate) ≡ 0) ⊎ ((refusal_of s (arriving e s.fate) ≡ 6) ⊎ (refusal_of s (arriving e s.fate) ≡ 14))

-- a request that reaches the dock is never refused
abbrev pub RequestTaken : System → Type 0
RequestTaken s =
    (bytes : List ℕ) (room : ℕ) → s.way ≡ request bytes → (step_of s.dock (dock_hears s.highest s.dock bytes) room).refusal ≡ 0
