-- The edition of what the laptop sends: what each call says of it, and the edition after any history (02, R-5).
use Rattle.std.specs.Prelude.{◌≡◌, Bool, cond, ◌&&◌, List, [], ◌∷◌, ℕ, ◌^◌, ◌<◌, ltb, eqb, length, take, Option, Some}
use Rattle.messages.specs.Editions.{ours, lower}
use Rattle.messages.specs.Layout.{ack, message_bytes}
use Rattle.messages.specs.Reading.{Outcome, accepted, refused, read_outcome}
use Rattle.messages.specs.Requests.{identity_command}
use Rattle.messages.specs.declared.Head.{Head}
use Rattle.messages.specs.declared.edition.Edition.{Edition}
use Rattle.messages.specs.declared.request.Request.{Request}
use Rattle.hearing.specs.Hearing.{fits}
use Rattle.laptop.specs.Calls.{short_runs}
use Rattle.laptop.specs.State.{Memory}
use Rattle.owner.specs.Owner.{request_message}
use Rattle.laptop.specs.declared.Laptop.{Laptop}
use Rattle.laptop.specs.Step.{Step}
use Rattle.laptop_laws.specs.Effects.{Call, message, next, start_over, drop, enter, exit, timer, protocol_error, Effect, effect_of, Kept, kept_after}
use Rattle.laptop_laws.specs.WellFormed.{awaits_identity}

-- what a call says of the edition: nothing; Identity goes out; an Identity ACK of some edition is taken
pub data Said : Type 0 where
  nothing : Said
  identity_out : Said
  acknowledged : Edition → Said

-- Identity goes out at our edition, which stays until it is acknowledged; from the ACK on it is the lower of the ACK's edition and ours
abbrev pub edition_by : Said → Edition → Edition
edition_by nothing before = before
edition_by identity_out before = ours
edition_by (acknowledged e) before = lower e ours

-- Identity goes out: a message is handed over, and Identity is what is awaited then
abbrev pub identity_goes_out : Step → Bool
identity_goes_out s = ltb 0 s.length && awaits_identity s.laptop.wait

-- the Identity ACK that is awaited
abbrev pub is_awaited_ack : Option Request → Head → Bool
is_awaited_ack w h = fits w h && (eqb h.command identity_command && eqb h.kind ack)

abbrev pub acknowledgement : Laptop → Outcome → Said
acknowledgement l (refused number) = nothing
acknowledgement l (accepted e x) = cond (is_awaited_ack l.wait x.head) (acknowledged e) nothing

-- only a message acknowledges, while the lent runs are long enough
abbrev pub taken_by : Call → Laptop → Memory → Said
taken_by (message bytes) l m = cond (short_runs (length m.run) (length m.held_run)) nothing (acknowledgement l (read_outcome bytes))
taken_by next l m = nothing
taken_by start_over l m = nothing
taken_by drop l m = nothing
taken_by (enter svid position) l m = nothing
taken_by (exit svid position) l m = nothing
taken_by (timer first last) l m = nothing
taken_by protocol_error l m = nothing

abbrev pub said_by : Call → Laptop → Memory → List ℕ → Said
said_by c l m out = cond (identity_goes_out (effect_of c l m out).step) identity_out (taken_by c l m)

-- the edition after a call
abbrev pub edition_after : Call → Laptop → Memory → List ℕ → Edition
edition_after c l m out = edition_by (said_by c l m out) l.edition

-- the edition at which a request is sent: Identity at ours, every other at that of the laptop before the call
abbrev pub request_edition : Request → Edition → Edition
request_edition r before = cond (eqb r.command identity_command) ours before

-- what a call hands over is a request at an edition, and is read so again; its answer is awaited, and the laptop stands at that edition
pub record SentAt (e : Edition) (r : Request) (effect : Effect) : Type 0 where
  pub awaited : effect.step.laptop.wait ≡ Some r
  pub edition_is : effect.step.laptop.edition ≡ e
  pub bytes_are : take effect.step.length effect.buffer ≡ message_bytes e (request_message r)
  pub read_again : r.svid < 2 ^ 16 → read_outcome (take effect.step.length effect.buffer) ≡ accepted e (request_message r)

-- what the calls of a history say, each in the state that those before it left
abbrev pub said_over : List (Call × List ℕ) → Kept → List Said
said_over [] k = []
said_over (c ∷ rest) k = said_by c.0 k.laptop k.memory c.1 ∷ said_over rest (kept_after (c ∷ []) k)

abbrev pub edition_over : Edition → List Said → Edition
edition_over before [] = before
edition_over before (s ∷ rest) = edition_over (edition_by s before) rest

-- no Identity goes out; none is acknowledged
abbrev pub NoIdentityOut : List Said → Type 0
NoIdentityOut [] = Unit
NoIdentityOut (s ∷ rest) = (s ≡ identity_out → ⊥) × NoIdentityOut rest

abbrev pub NoneAcknowledged : List Said → Type 0
NoneAcknowledged [] = Unit
NoneAcknowledged (s ∷ rest) = ((e : Edition) → s ≡ acknowledged e → ⊥) × NoneAcknowledged rest
