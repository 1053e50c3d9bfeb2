-- A link on which bit 5 of what is on its way may be set or clear (02, R-2): another maker's dock sets it.
use Rattle.std.specs.Prelude.{◌≡◌, List, [], ◌∷◌, ℕ}
use Rattle.messages.specs.Layout.{with_reserved_clear}
use Rattle.link.specs.Joined.{Way, clear, request, Fate, gone, coming, confirmed, came, System, Event}
use Rattle.link.specs.Link.{step}

-- the request and the answer on their way, with their bytes changed
abbrev pub way_with : (List ℕ → List ℕ) → Way → Way
way_with change clear = clear
way_with change (request bytes) = request (change bytes)

abbrev pub fate_with : (List ℕ → List ℕ) → Fate → Fate
fate_with change gone = gone
fate_with change (coming bytes) = coming (change bytes)
fate_with change (confirmed bytes) = confirmed (change bytes)
fate_with change (came b) = came b

abbrev pub system_with : (List ℕ → List ℕ) → System → System
system_with change s =
    record { laptop = s.laptop; memory = s.memory; way = way_with change s.way; fate = fate_with change s.fate; dock = s.dock; highest = s.highest; lost = s.lost }

-- the same but for bit 5 of what is on its way
abbrev pub Alike : System → System → Type 0
Alike s t = system_with with_reserved_clear s ≡ system_with with_reserved_clear t

-- where events lead if before each of them, and after the last, bit 5 of what is on its way may have been set or cleared
pub data LeadsTo (modes_of : ℕ → List ℕ) : List Event → System → System → Type 0 where
  there : {s t : System} → Alike s t → LeadsTo modes_of [] s t
  behind : {s u : System} {e : Event} {events : List Event} (t : System) → Alike s t → LeadsTo modes_of events (step modes_of e t) u → LeadsTo modes_of (e ∷ events) s u
