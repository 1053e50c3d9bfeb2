-- What is held, and when a catalogue is published.
use Rattle.std.specs.Prelude.{◌⊎◌, ◌≡◌, List, ℕ, ◌+◌, ◌<◌, ◌≤◌, length, take, Option, Some}
use Rattle.messages.specs.Layout.{ack, nak, Message}
use Rattle.messages.specs.Reading.{message_in, read_refusal}
use Rattle.messages.specs.Requests.{svids_command, modes_command}
use Rattle.pages.specs.Lists.{most_svids}
use Rattle.pages.specs.Pages.{halves}
use Rattle.taking.specs.Taking.{verdict}
use Rattle.taking.specs.declared.Verdict.{Verdict}
use Rattle.taking.specs.declared.Verdict.TheVariants.{Repeat, Ends}
use Rattle.gathering.specs.Gathering.{most_pages}
use Rattle.hearing.specs.Answers.{copied}
use Rattle.laptop.specs.State.{Memory, gathered_list}
use Rattle.laptop.specs.declared.Candidate.TheVariants.{Absent, Open, Done}
use Rattle.laptop.specs.declared.Size.{Size}
use Rattle.laptop.specs.declared.Laptop.{Laptop}
use Rattle.laptop_laws.specs.Effects.{Call, message, next, start_over, drop, enter, exit, timer, protocol_error}
use Rattle.laptop_laws.specs.Given.{ShortRun, FitsAwaited, IsPage}

-- the held catalogue with its run, to the word
pub record Holding : Type 0 where
  pub held : Option Size
  pub svids : List ℕ
  pub modes : List ℕ
  pub identity : List ℕ
  pub run : List ℕ

abbrev pub holding : Laptop → Memory → Holding
holding l m = record { held = l.held; svids = m.held_svids; modes = m.held_modes; identity = m.held_identity; run = m.held_run }

-- the candidate as it is now, held: its lists whole, and its modes copied over what the run had before
abbrev pub candidate_held : Laptop → Memory → List ℕ → Holding
candidate_held l m run =
    record {
      held = Some l.gathered;
      svids = m.svids;
      modes = m.modes;
      identity = m.identity;
      run = copied (take l.gathered.count m.modes) m.run 0 run;
    }

-- a NAK with nothing gathered makes an empty list
abbrev pub EmptyList : Laptop → Message → Type 0
EmptyList l x = (x.head.command ≡ svids_command) × (x.head.kind ≡ nak) × (l.candidate ≡ Open) × (l.gathered.count ≡ 0)

-- modes come for the last SVID without them
abbrev pub LastModes : Laptop → Message → Type 0
LastModes l x =
    (x.head.command ≡ modes_command) × (x.head.kind ≡ ack) × (l.candidate ≡ Done) × (l.stored < most_svids) ×
    (l.gathered.count ≤ l.stored + 1)

-- no run reaches this: a page ends a list, or repeats in one that is done, of which all SVIDs had their modes before
abbrev pub StoredBefore : Verdict → Laptop → Memory → Type 0
StoredBefore judged l m =
    ((k : ℕ) × (judged ≡ Ends k) × (length (gathered_list l m.svids) + k ≤ l.stored)) ⊎
    ((judged ≡ Repeat) × (l.pages + 1 < most_pages) × (l.candidate ≡ Done) × (l.gathered.count ≤ l.stored))

-- an answer makes the candidate whole: its list is done, and each of its SVIDs has its modes
abbrev pub MakesWhole : Laptop → Memory → Message → Type 0
MakesWhole l m x =
    EmptyList l x ⊎ (LastModes l x ⊎ (IsPage x.head × StoredBefore (verdict (gathered_list l m.svids) (halves x.objects)) l m))

-- only a message publishes: one that is read, and is an awaited answer
abbrev pub Publishes : Call → Laptop → Memory → Type 0
Publishes (message bytes) l m = (ShortRun m → ⊥) × (read_refusal bytes ≡ 0) × FitsAwaited l.wait (message_in bytes).head × MakesWhole l m (message_in bytes)
Publishes next l m = ⊥
Publishes start_over l m = ⊥
Publishes drop l m = ⊥
Publishes (enter svid position) l m = ⊥
Publishes (exit svid position) l m = ⊥
Publishes (timer first last) l m = ⊥
Publishes protocol_error l m = ⊥

-- what is held is replaced by the candidate, with what came, exactly when something holds, and there is no candidate then; else it stays to the word
abbrev pub ReplacedWhen : Type 0 → Holding → Laptop → Memory → Type 0
ReplacedWhen holds before l m =
    (holds × (holding l m ≡ candidate_held l m before.run) × (l.candidate ≡ Absent)) ⊎ ((holds → ⊥) × (holding l m ≡ before))
