-- The port's calls, with what a side is lent.
use Rattle.std.specs.Prelude.{◌≡◌, List, Result, ℕ, drop, length, min, take}
use Rattle.std.specs.Borrow.{Fml, Lends, MutBor}
use Rattle.messages.specs.declared.Refusal.{Refusal}
use Rattle.laptop.specs.State.{LentMemory, Memory as LaptopsMemory, memory}
use Rattle.catalogue.specs.Bytes.{bytes_in, held_catalogue, CatalogueWritten}
use Rattle.timers.specs.Timers.{decide_timer, decide_error}
use Rattle.owner.specs.Owner.{decide_next, decide_start_over, decide_drop, decide_enter, decide_exit}
use Rattle.port.specs.Calls.{HearsOn, Owners, concerning}
use Rattle.port.specs.Sides.{own_of}
use Rattle.port.specs.Step.{Step}
use Rattle.port.specs.declared.Port.{Port}
use Rattle.port.specs.declared.Side.{Side}
use Rattle.port.specs.declared.Side.TheVariants.{Partner, Cable}
use Rattle.events.specs.declared.Call.{Call}
use Rattle.events.specs.declared.Call.TheVariants.{Next, StartOver, Drop, ResponseTimer, EntryTimer, ExitTimer, ProtocolError, Enter, Exit}
use Rattle.driving.specs.declared.lending.Lent.{Lent}
use Rattle.driving.specs.declared.memory.Memory.{Memory}
use Rattle.driving.specs.contracts.lending.Lent.{the_row as the_lent}
use Rattle.driving.specs.contracts.memory.Memory.{the_row as the_memory}

-- what a side is lent
abbrev pub memory_of : Side → Lent → Memory
memory_of Partner lent = lent.partner
memory_of Cable lent = lent.cable

abbrev pub other_side : Side → Side
other_side Partner = Cable
other_side Cable = Partner

-- what the other side is lent stays
abbrev pub OthersStays : Side → Lent → Lent → Type 0
OthersStays side before after = memory_of (other_side side) after ≡ memory_of (other_side side) before

-- the last value behind the reference is what the side is lent
abbrev pub with_memory : Lent → Side → Memory → Lent
with_memory lent Partner m = record lent { partner = m }
with_memory lent Cable m = record lent { cable = m }

abbrev pub LendsMemory : MutBor Lent → Side → MutBor Memory → Fml
LendsMemory lent side m = Lends the_lent the_memory lent m (with_memory lent.now side)

-- as many of the words as are lent
abbrev pub run_of : Memory → List ℕ
run_of m = take m.run_words m.run

abbrev pub held_run_of : Memory → List ℕ
held_run_of m = take m.held_words m.held_run

-- with the runs whole
abbrev pub arrays_of : Memory → LaptopsMemory
arrays_of m = memory m.svids m.modes m.identity m.run m.held_svids m.held_modes m.held_identity m.held_run m.entered

-- of the runs, so many words
abbrev pub with_words : ℕ → ℕ → LaptopsMemory → LaptopsMemory
with_words run held_run m =
    memory m.svids m.modes m.identity (take run m.run) m.held_svids m.held_modes m.held_identity (take held_run m.held_run) m.entered

abbrev pub lent_words : ℕ → ℕ → LentMemory → LentMemory
lent_words run held_run m = record { entry = with_words run held_run m.entry; exit = with_words run held_run m.exit }

-- as the laptop has it
abbrev pub lent_of : Memory → LaptopsMemory
lent_of m = with_words m.run_words m.held_words (arrays_of m)

-- as it was lent and as it is left
abbrev pub lent_between : Memory → Memory → LentMemory
lent_between before after = record { entry = lent_of before; exit = lent_of after }

-- what is not lent: the words behind those lent stay, and so does how many are lent
pub record UnlentStays (before after : Memory) : Type 0 where
  pub run_words : after.run_words ≡ before.run_words
  pub held_words : after.held_words ≡ before.held_words
  pub run : drop before.run_words after.run ≡ drop before.run_words before.run
  pub held_run : drop before.held_words after.held_run ≡ drop before.held_words before.held_run

-- a message writes to what its side is lent, and to nothing else
pub record Heard (side : Side) (p : Port) (bytes : List ℕ) (before after : Memory) (step : Step) : Type 0 where
  pub hears : HearsOn side p bytes (lent_between before after) step
  pub unlent : UnlentStays before after

-- later calls are lent so many words of the runs, or all
pub record LentAs (run_words held_words : ℕ) (before after : Memory) : Type 0 where
  pub run_words_are : after.run_words ≡ min run_words 440
  pub held_words_are : after.held_words ≡ min held_words 440
  pub arrays_stay : arrays_of after ≡ arrays_of before

-- the catalogue that the side holds, as bytes
abbrev pub HeldWritten : Side → Port → Memory → List ℕ → Result ℕ Refusal → List ℕ → Type 0
HeldWritten side p m out written after =
    CatalogueWritten (held_catalogue (own_of side p).held m.held_identity m.held_svids m.held_modes (held_run_of m)) (length (held_run_of m))
    out (bytes_in written) after

-- a timer or the protocol error, to which no output buffer is lent
abbrev pub Concerns : Step → List ℕ → Step → List ℕ → Type 0
Concerns expected out step after = (step ≡ expected) × (after ≡ out)

-- a call that is no message: the step and the output buffer after it
abbrev pub Made : Side → Port → Call → Memory → List ℕ → Step → List ℕ → Type 0
Made side p Next m out step after =
    Owners side p (λ l. decide_next l m.svids m.entered (length (run_of m)) (length (held_run_of m))) (run_of m) (held_run_of m) out step after
Made side p StartOver m out step after =
    Owners side p (λ l. decide_start_over l m.entered (length (run_of m)) (length (held_run_of m))) (run_of m) (held_run_of m) out step after
Made side p Drop m out step after =
    Owners side p (λ l. decide_drop l (length (run_of m)) (length (held_run_of m))) (run_of m) (held_run_of m) out step after
Made side p ResponseTimer m out step after = Concerns (concerning (λ l. decide_timer 1 3 l l.wait) p) out step after
Made side p EntryTimer m out step after = Concerns (concerning (λ l. decide_timer 4 4 l l.wait) p) out step after
Made side p ExitTimer m out step after = Concerns (concerning (λ l. decide_timer 5 5 l l.wait) p) out step after
Made side p ProtocolError m out step after = Concerns (concerning (λ l. decide_error l l.wait) p) out step after
Made side p (Enter mode) m out step after =
    Owners side p
    (λ l. decide_enter l m.held_svids m.held_modes m.entered (length (run_of m)) (length (held_run_of m)) mode.svid mode.position)
    (run_of m) (held_run_of m) out step after
Made side p (Exit mode) m out step after =
    Owners side p
    (λ l. decide_exit l m.held_svids m.held_modes m.entered (length (run_of m)) (length (held_run_of m)) mode.svid mode.position)
    (run_of m) (held_run_of m) out step after
