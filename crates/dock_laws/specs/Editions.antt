-- The edition of the dock's answers: the lower of the newest good request's edition and ours (02, R-5).
use Rattle.std.specs.Prelude.{◌≡◌, ℕ, Bool, cond, not, ◌&&◌, List, [], ◌∷◌, eqb, take}
use Rattle.messages.specs.Editions.{ours, lower}
use Rattle.messages.specs.Layout.{req, Message, Representable, message_bytes}
use Rattle.messages.specs.Reading.{Outcome, accepted, refused, read_outcome}
use Rattle.messages.specs.Requests.{attention_command, request_of}
use Rattle.messages.specs.declared.edition.Edition.{Edition}
use Rattle.messages.specs.declared.request.Request.{Request}
use Rattle.dock.specs.Dock.{sends, buffer_of}
use Rattle.dock.specs.declared.Dock.{Dock}
use Rattle.dock.specs.declared.Standing.TheVariants.{Asking}
use Rattle.dock_laws.specs.Effects.{Call, load, message, policy_answer, sent, failed, decision, effect_of}

-- a good request with its edition, or none
pub data Newest : Type 0 where
  none : Newest
  request : Edition → Message → Newest

-- a REQ that is not Attention
abbrev pub is_request : Message → Bool
is_request m = eqb m.head.kind req && not (eqb m.head.command attention_command)

abbrev pub request_read : Outcome → Newest
request_read (accepted e m) = cond (is_request m) (request e m) none
request_read (refused number) = none

-- the good request that a call brings: a message that is read as a request, and is not refused
abbrev pub request_in : Call → Dock → List ℕ → Newest
request_in (load identity svids) d out = none
request_in (message bytes) d out = cond (eqb (effect_of (message bytes) d out).refusal 0) (request_read (read_outcome bytes)) none
request_in (policy_answer policy r objects) d out = none
request_in sent d out = none
request_in failed d out = none

-- the lower of its edition and ours; with none, the edition as it was
abbrev pub edition_by : Newest → Edition → Edition
edition_by none before = before
edition_by (request e m) before = lower e ours

abbrev pub edition_after : Call → Dock → List ℕ → Edition
edition_after c d out = edition_by (request_in c d out) d.edition

-- the newest good request of calls, each with an output buffer of its own: the last that one of them brings
abbrev pub later : Newest → Newest → Newest
later old none = old
later old (request e m) = request e m

abbrev pub newest_in : List (Call × List ℕ) → Dock → Newest
newest_in [] d = none
newest_in (c ∷ rest) d = later (request_in c.0 d c.1) (newest_in rest (effect_of c.0 d c.1).dock)

-- the request is the newest good one; with none, it was waiting before
abbrev pub AskedBy : Newest → Dock → Request → Type 0
AskedBy none d r = d.standing ≡ Asking r
AskedBy (request e m) d r = request_of m.head ≡ r

-- what a call hands over: as many bytes from the front of the buffer as it says
abbrev pub handed_over : Call → Dock → List ℕ → List ℕ
handed_over c d out = take (effect_of c d out).length (buffer_of (decision c d) out)

-- what is handed over is the message that is decided, at an edition, and is read as that where its numbers fit
pub record SentAt (c : Call) (d : Dock) (out : List ℕ) (at : Edition) (m : Message) : Type 0 where
  pub decided : (next : Dock) × (decision c d ≡ sends m next)
  pub bytes_are : handed_over c d out ≡ message_bytes at m
  pub read_as : Representable m → read_outcome (handed_over c d out) ≡ accepted at m
