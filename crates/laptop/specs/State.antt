-- The laptop's state, and how the parts of a rule change it (01, "The laptop end"; 02, R-5).
use Rattle.std.specs.Prelude.{ℕ, ◌+◌, Bool, true, false, cond, List, ltb, take, Some, None}
use denote.Triple.Both.{Both}
use Rattle.laws.specs.Lent.{Lent, lent, left}
use Rattle.messages.specs.Editions.{ours}
use Rattle.messages.specs.Table.{pd_sid}
use Rattle.messages.specs.Requests.{identity_command}
use Rattle.messages.specs.declared.edition.Edition.{Edition}
use Rattle.messages.specs.declared.request.Request.{Request}
use Rattle.laptop.specs.declared.Candidate.{Candidate}
use Rattle.laptop.specs.declared.Candidate.TheVariants.{Absent, Open, Done}
use Rattle.laptop.specs.declared.Laptop.{Laptop}

-- what is lent beside the state: the candidate's SVIDs, the number of modes of each, its identity and its run of mode words, the same of the
-- held catalogue, and the entered modes of each held SVID
pub record Memory : Type 0 where
  pub svids : List ℕ
  pub modes : List ℕ
  pub identity : List ℕ
  pub run : List ℕ
  pub held_svids : List ℕ
  pub held_modes : List ℕ
  pub held_identity : List ℕ
  pub held_run : List ℕ
  pub entered : List ℕ

abbrev pub memory : List ℕ → List ℕ → List ℕ → List ℕ → List ℕ → List ℕ → List ℕ → List ℕ → List ℕ → Memory
memory svids modes identity run held_svids held_modes held_identity held_run entered =
    record {
      svids = svids;
      modes = modes;
      identity = identity;
      run = run;
      held_svids = held_svids;
      held_modes = held_modes;
      held_identity = held_identity;
      held_run = held_run;
      entered = entered;
    }

-- all of it as it was lent and as it is left
abbrev pub LentMemory : Type 0
LentMemory = Both Memory Memory

abbrev pub memory_lent : Lent (List ℕ) → Lent (List ℕ) → Lent (List ℕ) → Lent (List ℕ) → Lent (List ℕ) → Lent (List ℕ) → Lent (List ℕ) →
    Lent (List ℕ) → Lent (List ℕ) → LentMemory
memory_lent svids modes identity run held_svids held_modes held_identity held_run entered =
    record {
      entry = memory (lent svids) (lent modes) (lent identity) (lent run) (lent held_svids) (lent held_modes) (lent held_identity) (lent held_run) (lent entered);
      exit = memory (left svids) (left modes) (left identity) (left run) (left held_svids) (left held_modes) (left held_identity) (left held_run) (left entered);
    }

-- nothing is awaited, gathered or held; its first message is Identity, so its edition is never seen
abbrev pub fresh_laptop : Laptop
fresh_laptop =
    record {
      wait = None;
      candidate = Absent;
      gathered = record { extent = 0; count = 0 };
      stored = 0;
      pages = 0;
      held = None;
      edition = ours;
    }

-- the candidate's list is open
abbrev pub is_open : Candidate → Bool
is_open Absent = false
is_open Open = true
is_open Done = false

-- the list gathered so far
abbrev pub gathered_list : Laptop → List ℕ → List ℕ
gathered_list l svids = take l.gathered.count svids

-- the wait ends
abbrev pub ended : Laptop → Laptop
ended l =
    record {
      wait = None;
      candidate = l.candidate;
      gathered = l.gathered;
      stored = l.stored;
      pages = l.pages;
      held = l.held;
      edition = l.edition;
    }

-- no candidate, and nothing awaited
abbrev pub dropped : Laptop → Laptop
dropped l =
    record {
      wait = None;
      candidate = Absent;
      gathered = l.gathered;
      stored = l.stored;
      pages = l.pages;
      held = l.held;
      edition = l.edition;
    }

abbrev pub awaiting : Request → Laptop → Laptop
awaiting r l =
    record {
      wait = Some r;
      candidate = l.candidate;
      gathered = l.gathered;
      stored = l.stored;
      pages = l.pages;
      held = l.held;
      edition = l.edition;
    }

-- sending Identity sets the page count to 0, and there is no candidate; it goes out at our edition, which stays until it is acknowledged
abbrev pub identity_request : Request
identity_request = record { svid = pd_sid; command = identity_command; position = 0 }

abbrev pub identity_asked : Laptop → Laptop
identity_asked l =
    record {
      wait = Some identity_request;
      candidate = Absent;
      gathered = l.gathered;
      stored = l.stored;
      pages = 0;
      held = l.held;
      edition = ours;
    }

-- an empty list is opened, and an edition chosen
abbrev pub opened : ℕ → Edition → Laptop → Laptop
opened n e l =
    record {
      wait = None;
      candidate = Open;
      gathered = record { extent = n; count = 0 };
      stored = 0;
      pages = l.pages;
      held = l.held;
      edition = e;
    }

-- the page count goes up by 1, and stays at the greatest number there is
abbrev pub with_pages : ℕ → Laptop → Laptop
with_pages p l =
    record {
      wait = l.wait;
      candidate = l.candidate;
      gathered = l.gathered;
      stored = l.stored;
      pages = p;
      held = l.held;
      edition = l.edition;
    }

unfoldable pub counted : Laptop → Laptop
counted l = cond (ltb l.pages 255) (with_pages (l.pages + 1) l) l

-- n SVIDs are gathered
abbrev pub gathered_to : Candidate → ℕ → Laptop → Laptop
gathered_to candidate n l =
    record {
      wait = None;
      candidate = candidate;
      gathered = record { extent = l.gathered.extent; count = n };
      stored = l.stored;
      pages = l.pages;
      held = l.held;
      edition = l.edition;
    }

-- the first n SVIDs have their modes
abbrev pub stored_to : ℕ → Laptop → Laptop
stored_to n l =
    record {
      wait = None;
      candidate = l.candidate;
      gathered = l.gathered;
      stored = n;
      pages = l.pages;
      held = l.held;
      edition = l.edition;
    }

-- the candidate is held, and leaves no candidate
abbrev pub published : Laptop → Laptop
published l =
    record {
      wait = None;
      candidate = Absent;
      gathered = l.gathered;
      stored = l.stored;
      pages = l.pages;
      held = Some l.gathered;
      edition = l.edition;
    }
