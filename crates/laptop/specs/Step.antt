-- What a call gives back, by 01's numbers: the refusal, 0 for none; how many bytes of the output buffer are to be sent;
-- what policy is told; and the new state.
use Rattle.std.specs.Prelude.{Result, Ok, Err}
use Rattle.messages.specs.Refusals.{number_of}
use Rattle.laptop.specs.declared.Accepted.{Accepted}
use Rattle.laptop.specs.declared.Refused.{Refused}
use Rattle.laptop.specs.declared.Told.TheVariants.{Nothing}
use Rattle.laptop.specs.declared.Step.{Step as DeclaredStep}

-- the type of that name in the code
abbrev pub Step : Type 0
Step = DeclaredStep

-- how the code gives it back
abbrev pub stepped : Result Accepted Refused → Step
stepped (Ok a) = record { refusal = 0; length = a.length; told = a.told; laptop = a.laptop }
stepped (Err r) = record { refusal = number_of r.refusal; length = 0; told = Nothing; laptop = r.laptop }
