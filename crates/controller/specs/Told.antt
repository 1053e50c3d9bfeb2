-- What a laptop's call hands over besides the refusal number, as eight numbers.
use Rattle.std.specs.Prelude.{ℕ, List, [], ◌∷◌}
use Rattle.messages.specs.Requests.{attention_command}
use Rattle.messages.specs.declared.request.Request.{Request}
use Rattle.laptop.specs.declared.Notice.{Notice}
use Rattle.laptop.specs.declared.Told.{Told}
use Rattle.laptop.specs.declared.Told.TheVariants.{Nothing, Attention, Nak, Busy, Timer, ProtocolError}
use Rattle.port.specs.Step.{Step}
use Rattle.controller.specs.Port.{side_number}

abbrev pub request_numbers : ℕ → ℕ → Request → ℕ → List ℕ
request_numbers length tag r side = length ∷ tag ∷ r.svid ∷ r.command ∷ r.position ∷ 0 ∷ 0 ∷ side ∷ []

abbrev pub notice_numbers : ℕ → Notice → ℕ → List ℕ
notice_numbers length n side = length ∷ 1 ∷ n.svid ∷ attention_command ∷ n.position ∷ n.count ∷ n.object ∷ side ∷ []

-- 0 nothing, 1 an Attention, 2 NAK, 3 BUSY, 4 a timer, 5 a protocol error
abbrev pub told_numbers : ℕ → Told → ℕ → List ℕ
told_numbers length Nothing side = length ∷ 0 ∷ 0 ∷ 0 ∷ 0 ∷ 0 ∷ 0 ∷ side ∷ []
told_numbers length (Attention n) side = notice_numbers length n side
told_numbers length (Nak r) side = request_numbers length 2 r side
told_numbers length (Busy r) side = request_numbers length 3 r side
told_numbers length (Timer r) side = request_numbers length 4 r side
told_numbers length (ProtocolError r) side = request_numbers length 5 r side

-- the last is the side that the step names
abbrev pub handed_numbers : Step → List ℕ
handed_numbers step = told_numbers step.length step.told (side_number step.side)
