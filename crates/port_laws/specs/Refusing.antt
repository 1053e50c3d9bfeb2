-- What a refusal does to the port (01, "Refusal numbers", and 02, R-4).
use Rattle.std.specs.Prelude.{◌≡◌, Bool, cond, ◌&&◌, eqb}
use Rattle.messages.specs.Layout.{ack}
use Rattle.messages.specs.Requests.{svids_command}
use Rattle.messages.specs.declared.Head.{Head}
use Rattle.laptop.specs.Calls.{refused_by}
use Rattle.laptop.specs.State.{is_open, dropped}
use Rattle.laptop.specs.declared.Laptop.{Laptop}
use Rattle.laptop_laws.specs.Refusing.{left_by}
use Rattle.port.specs.Sides.{seen, stepped_on}
use Rattle.port.specs.declared.Port.{Port}
use Rattle.port.specs.declared.Side.{Side}
use Rattle.port.specs.Step.{Step}
use Rattle.port_laws.specs.Effects.{Call, one_sided, concerns}

-- a call's answer: where it is refused, nothing is sent, policy is told nothing, and 01's refusal is left on the side that it concerns; nothing of the
-- other side changes
abbrev pub refused_on : Side → Call → Port → Step → Step
refused_on side c p s = stepped_on side p (refused_by s.refusal (left_by s.refusal (one_sided c) (seen side p)))

abbrev pub RefusedAs : Call → Port → Step → Type 0
RefusedAs c p s = (s.refusal ≡ 0 → ⊥) → s ≡ refused_on (concerns c p.wait) c p s

-- an SVIDs ACK
abbrev pub is_page : Head → Bool
is_page h = eqb h.command svids_command && eqb h.kind ack

-- an answer from the side that is not awaited drops that side's open list if it is a page, and else leaves the state alone
abbrev pub left_by_unawaited : Head → Laptop → Laptop
left_by_unawaited h l = cond (is_open l.candidate && is_page h) (dropped l) l
