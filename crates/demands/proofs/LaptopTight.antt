-- Each public call of the laptop: two results that its promise allows are equal, with all that is lent afterwards.
use mathlib.Core.Path.{◌≡◌, sym, ◌∙◌}
use mathlib.Core.List.{List}
use Prim.Native.Nat.{ℕ}
use lib.ListN.{length, replicate}
use Rattle.laws.proofs.Tight.{one_value}
use Rattle.laptop.specs.Calls.{Stepped, step_of}
use Rattle.laptop.specs.Catalogue.{held_list}
use Rattle.laptop.specs.Marks.{reported}
use Rattle.laptop.specs.State.{Memory, fresh_laptop}
use Rattle.std.specs.Prelude.{Option}
use Rattle.laptop.specs.declared.Size.{Size}
use Rattle.laptop.specs.declared.Laptop.{Laptop}
use Rattle.laptop.specs.Step.{Step}
use Rattle.owner.specs.Owner.{decide_next, decide_start_over, decide_drop, Enters, Exits}
use Rattle.timers.specs.Timers.{decide_timer, decide_error}
use Rattle.hearing.specs.Hearing.{Hears}
use Rattle.laptop_laws.proofs.Laws.{step_only}
use Rattle.catalogue.specs.Bytes.{held_catalogue, CatalogueWritten}
use Rattle.catalogue.proofs.Laws.{write_only}

-- a promise of a result, and of a result with what is lent afterwards, allows one
abbrev pub One : {A : Type 0} → (A → Type 0) → Type 0
One {A} promise = (result other : A) → promise result → promise other → result ≡ other

abbrev pub OneWith : {A B : Type 0} → (A → B → Type 0) → Type 0
OneWith {A} {B} promise =
    (result other : A) (after after' : B) → promise result after → promise other after' → (result ≡ other) × (after ≡ after')

-- the owner's calls
module _ (l : Laptop) (run held_run out : List ℕ) where
  pub next_only : (svids entered : List ℕ) → OneWith (Stepped l (decide_next l svids entered (length run) (length held_run)) out)
  next_only svids entered = step_only l (decide_next l svids entered (length run) (length held_run)) out

  pub start_over_only : (entered : List ℕ) → OneWith (Stepped l (decide_start_over l entered (length run) (length held_run)) out)
  start_over_only entered = step_only l (decide_start_over l entered (length run) (length held_run)) out

  pub drop_only : OneWith (Stepped l (decide_drop l (length run) (length held_run)) out)
  drop_only = step_only l (decide_drop l (length run) (length held_run)) out

  module _ (svid position : ℕ) (held_svids held_modes entered : List ℕ) where
    pub enter_only : OneWith (Enters l svid position held_svids held_modes entered run held_run out)
    enter_only = step_only l _ out

    pub exit_only : OneWith (Exits l svid position held_svids held_modes entered run held_run out)
    exit_only = step_only l _ out

-- timers and the protocol error
module _ (l : Laptop) where
  pub response_timer_only : One (λ (s : Step). s ≡ step_of l (decide_timer 1 3 l l.wait) 0)
  response_timer_only = λ result other. one_value

  pub entry_timer_only : One (λ (s : Step). s ≡ step_of l (decide_timer 4 4 l l.wait) 0)
  entry_timer_only = λ result other. one_value

  pub exit_timer_only : One (λ (s : Step). s ≡ step_of l (decide_timer 5 5 l l.wait) 0)
  exit_timer_only = λ result other. one_value

  pub protocol_error_only : One (λ (s : Step). s ≡ step_of l (decide_error l l.wait) 0)
  protocol_error_only = λ result other. one_value

-- a message: the step, and all nine lent arrays and runs
pub message_only : (l : Laptop) (m : Memory) (bytes : List ℕ) → OneWith (λ (s : Step) (after : Memory). Hears l bytes (record { entry = m; exit = after }) s)
message_only l m bytes s other after after' p q = (p.0 ∙ sym q.0, p.1 ∙ sym q.1)

-- a fresh laptop, with the entered modes that it is lent
pub fresh_only : OneWith (λ (l : Laptop) (entered : List ℕ). (l ≡ fresh_laptop) × (entered ≡ replicate 72 0))
fresh_only l other entered entered' p q = (p.0 ∙ sym q.0, p.1 ∙ sym q.1)

-- the report, and the held list
pub report_only : (l : Laptop) (held_svids entered : List ℕ) (svid : ℕ) → One (λ (n : ℕ). n ≡ reported l.held held_svids entered svid)
report_only l held_svids entered svid = λ result other. one_value

pub held_list_only : (held : Option Size) (held_svids : List ℕ) → One (λ (list : List ℕ). list ≡ held_list held held_svids)
held_list_only held held_svids = λ result other. one_value

-- writing the catalogue
pub catalogue_only : (l : Laptop) (held_identity held_svids held_modes held_run out : List ℕ) →
    OneWith (CatalogueWritten (held_catalogue l.held held_identity held_svids held_modes held_run) (length held_run) out)
catalogue_only l held_identity held_svids held_modes held_run out = write_only _ (length held_run) out
