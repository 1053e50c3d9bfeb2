-- What a call of the dock gives back, as numbers (01, "The dock end").
use Rattle.std.specs.Prelude.{ℕ, Result, Ok, Err}
use Rattle.messages.specs.Refusals.{number_of}
use Rattle.messages.specs.declared.refusal.Refusal.{Refusal}
use Rattle.dock.specs.declared.Accepted.{Accepted}
use Rattle.dock.specs.declared.Dock.{Dock}

-- the refusal number, how many bytes of the output buffer are to be sent, and the new state
pub record Step : Type 0 where
  pub refusal : ℕ
  pub length : ℕ
  pub dock : Dock

-- how the code shows it: a refusal is its name alone, sends nothing, and leaves the caller's state
abbrev pub stepped : Dock → Result Accepted Refusal → Step
stepped d (Ok accepted) = record { refusal = 0; length = accepted.length; dock = accepted.dock }
stepped d (Err refusal) = record { refusal = number_of refusal; length = 0; dock = d }
