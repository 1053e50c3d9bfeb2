-- What holds of laptop, link and dock in every run.
use mathlib.Core.Logic.{◌⊎◌}
use mathlib.Core.Path.{◌≡◌}
use mathlib.Core.Bool.{true}
use mathlib.Core.List.{List, []}
use Prim.Native.Nat.{ℕ, ◌+◌, ◌/◌, ◌<◌, ◌≤◌}
use lib.ListN.{length, get_or, take}
use Rattle.messages.specs.Layout.{ack, nak, busy, Message, message_bytes}
use Rattle.messages.specs.Requests.{svids_command, modes_command, enter_command, exit_command}
use Rattle.messages.specs.Table.{pd_sid}
use Rattle.messages.specs.Writing.{well_shaped}
use Rattle.messages.specs.declared.edition.Edition.{Edition}
use Rattle.messages.specs.declared.request.Request.{Request}
use Rattle.pages.specs.Pages.{page}
use Rattle.dock.specs.Data.{listed, with_page, with_standing, with_edition}
use Rattle.dock.specs.Dock.{reply}
use Rattle.dock.specs.declared.Dock.{Dock}
use Rattle.dock.specs.declared.Standing.{Standing}
use Rattle.dock.specs.declared.Standing.TheVariants.{Ready, Asking, Sending}
use Rattle.catalogue.specs.Bytes.{holding as holds}
use Rattle.laptop.specs.Catalogue.{modes_at}
use Rattle.owner.specs.Owner.{discover, request_message}
use Rattle.laptop.specs.State.{Memory, identity_request}
use Rattle.laptop.specs.declared.Candidate.{Candidate}
use Rattle.laptop.specs.declared.Candidate.TheVariants.{Absent, Open, Done}
use Rattle.laptop.specs.declared.Laptop.{Laptop}
use Rattle.laptop.specs.declared.Size.{Size}
use Rattle.std.specs.Prelude.{Option, Some}
use Rattle.laptop_laws.specs.Holding.{Holding, holding}
use Rattle.laptop_laws.specs.WellFormed.{WellFormed}
use Rattle.link.specs.Demand.{whole, held_in}
use Rattle.link.specs.Joined.{Way, clear, request, Fate, gone, coming, confirmed, came, System}
use Rattle.unharmed.proofs.Course.{FairAnswer, identity_ack, page_ack, modes_ack, mode_ack, list_nak, busy_to, is_page, Carried, nothing, under_way, sure, arrived, Settled, Course}

-- a request that goes out is awaited, and is one of Identity to Exit
pub record Out (w : Option Request) (bytes : List ℕ) : Type 0 where
  pub asked : Request
  pub awaited : w ≡ Some asked
  pub asked_at : Edition
  pub bytes_are : bytes ≡ message_bytes asked_at (request_message asked)
  pub shaped : well_shaped (request_message asked) ≡ true
  pub few : asked.command ≤ exit_command

abbrev pub WayFits : Option Request → Way → Type 0
WayFits w clear = Unit
WayFits w (request bytes) = Out w bytes

-- what the dock may be asking policy about at page q
pub data Known (r : Request) (q : ℕ) : Type 0 where
  known_identity : r ≡ identity_request → q ≡ 0 → Known r q
  known_svids : r ≡ discover pd_sid svids_command → Known r q
  known_modes : (svid : ℕ) → r ≡ discover svid modes_command → Known r q
  known_mode : enter_command ≤ r.command → r.command ≤ exit_command → Known r q

abbrev pub AsksFit : Standing → ℕ → Type 0
AsksFit Ready q = Unit
AsksFit (Asking r) q = Known r q
AsksFit (Sending t) q = Unit

module _ (modes_of : ℕ → List ℕ) (d : Dock) where
  -- the dock with its fixed data, answering at an edition
  abbrev pub dock_at : (e : Edition) → ℕ → Standing → Dock
  dock_at e q t = with_standing t (with_page q (with_edition e d))

  abbrev pub message_of : FairAnswer → Message
  message_of identity_ack = reply identity_request ack (take d.extent d.identity)
  message_of (page_ack p) = reply (discover pd_sid svids_command) ack (page (listed d) p)
  message_of (modes_ack svid) = reply (discover svid modes_command) ack (modes_of svid)
  message_of (mode_ack r) = reply r ack []
  message_of list_nak = reply (discover pd_sid svids_command) nak []
  message_of (busy_to r) = reply r busy []

  abbrev pub fate_of : (e : Edition) → Carried → Fate
  fate_of e nothing = gone
  fate_of e (under_way a) = coming (message_bytes e (message_of a))
  fate_of e (sure a) = confirmed (message_bytes e (message_of a))
  fate_of e (arrived b) = came b

  -- an answer that the dock may give at page q
  abbrev pub Gives : FairAnswer → ℕ → Type 0
  Gives identity_ack q = q ≡ 0
  Gives (page_ack p) q = (p ≡ q) × (0 < length (listed d))
  Gives (modes_ack svid) q = Unit
  Gives (mode_ack r) q = enter_command ≤ r.command
  Gives list_nak q = listed d ≡ []
  Gives (busy_to r) q = Unit

  -- or may have given before "sent" moved its page
  abbrev pub Gave : FairAnswer → ℕ → Type 0
  Gave identity_ack q = q ≡ 0
  Gave (page_ack p) q = 0 < length (listed d)
  Gave (modes_ack svid) q = Unit
  Gave (mode_ack r) q = enter_command ≤ r.command
  Gave list_nak q = listed d ≡ []
  Gave (busy_to r) q = Unit

  abbrev pub Shaped : FairAnswer → Type 0
  Shaped a = well_shaped (message_of a) ≡ true

  abbrev pub FateFits : Standing → ℕ → Carried → Type 0
  FateFits t q nothing = Unit
  FateFits t q (under_way a) = Gives a q × Shaped a × ((t ≡ Sending (is_page a)) ⊎ (t ≡ Ready))
  FateFits t q (sure a) = Gave a q × Shaped a × (t ≡ Ready)
  FateFits t q (arrived b) = Unit

  -- the list is done: it is the dock's, the modes gathered so far are, and the pages add up
  pub record Complete (size : Size) (stored pages : ℕ) (m : Memory) (v : Carried) (z : ℕ) : Type 0 where
    pub same_identity : take size.extent m.identity ≡ take d.extent d.identity
    pub same_list : take size.count m.svids ≡ listed d
    pub same_modes : (i : ℕ) → i < stored → modes_at m.modes m.run i ≡ modes_of (get_or (listed d) i 0)
    pub sum : pages ≡ length (listed d) / 12 + 1 + z
    pub settled : Settled v

  abbrev pub CandidateIs : Candidate → Size → ℕ → ℕ → Memory → Standing → ℕ → Carried → ℕ → Type 0
  CandidateIs Absent size stored pages m t q v z = Unit
  CandidateIs Open size stored pages m t q v z =
      (take size.extent m.identity ≡ take d.extent d.identity) × Course (listed d) (take size.count m.svids) pages t q v z
  CandidateIs Done size stored pages m t q v z = Complete size stored pages m v z

  module _ (old : Holding) where
    abbrev pub HeldIs : Laptop → Memory → Type 0
    HeldIs l m = (holding l m ≡ old) ⊎ (held_in (holding l m) ≡ holds (whole modes_of d))

    pub record Invariant (l : Laptop) (m : Memory) (way : Way) (q : ℕ) (t : Standing) (v : Carried) (z : ℕ) : Type 0 where
      pub formed : WellFormed l m
      pub candidate_is : CandidateIs l.candidate l.gathered l.stored l.pages m t q v z
      pub held_is : HeldIs l m
      pub way_fits : WayFits l.wait way
      pub fate_fits : FateFits t q v
      pub asks_fit : AsksFit t q

    abbrev pub system_of : (h e : Edition) → Laptop → Memory → Way → ℕ → Standing → Carried → ℕ → System
    system_of h e l m way q t v z =
        record { laptop = l; memory = m; way = way; fate = fate_of e v; dock = dock_at e q t; highest = h; lost = z }

    -- a state that a run reaches
    pub record Reached (s : System) : Type 0 where
      pub edition_at : Edition
      pub page_at : ℕ
      pub standing_at : Standing
      pub carried : Carried
      pub is : s ≡ system_of s.highest edition_at s.laptop s.memory s.way page_at standing_at carried s.lost
      pub invariant : Invariant s.laptop s.memory s.way page_at standing_at carried s.lost
