-- What each end does, by the definitions that the promises of its calls cite. All that is joined here, and every case, knows the ends by these names.
use Rattle.std.specs.Prelude.{ℕ, List}
use Rattle.messages.specs.Editions.{lower}
use Rattle.messages.specs.Reading.{Outcome, accepted, refused, read_outcome}
use Rattle.messages.specs.declared.edition.Edition.{Edition}
use Rattle.messages.specs.declared.request.Request.{Request}
use Rattle.dock.specs.Dock.{Decision, decide_message, decide_policy_answer, decide_sent, decide_failed}
use Rattle.dock.specs.declared.Dock.{Dock}
use Rattle.dock.specs.declared.Policy.{Policy}
use Rattle.laptop.specs.State.{Memory}
use Rattle.laptop.specs.declared.Laptop.{Laptop}
use Rattle.laptop_laws.specs.Effects.{Call, Effect, effect_of}

-- the laptop with a message, an owner's call, a timer or the protocol error
abbrev pub laptop_does : Call → Laptop → Memory → List ℕ → Effect
laptop_does c l m out = effect_of c l m out

-- a dock whose highest edition is another than ours answers at the lower of the request's and that, as ours does to a request at it (02, R-5)
abbrev pub heard_at : Edition → Outcome → Outcome
heard_at highest (accepted e m) = accepted (lower e highest) m
heard_at highest (refused number) = refused number

-- the dock with a message's bytes, with policy's answer, and with "sent" and "failed"
abbrev pub dock_hears : Edition → Dock → List ℕ → Decision
dock_hears highest d bytes = decide_message d (heard_at highest (read_outcome bytes))

abbrev pub dock_answers : Dock → Policy → Request → List ℕ → Decision
dock_answers d policy r objects = decide_policy_answer d d.standing policy r objects

abbrev pub dock_sent : Dock → Decision
dock_sent d = decide_sent d d.standing

abbrev pub dock_failed : Dock → Decision
dock_failed d = decide_failed d d.standing
