-- The dock's calls, rule by rule (01, "The dock end"; 02, R-5).
use Rattle.std.specs.Prelude.{◌≡◌, ℕ, ◌+◌, Bool, true, false, cond, not, ◌&&◌, List, [], ◌∷◌, leb, eqb, length, take}
use Rattle.messages.specs.Editions.{ours, lower}
use Rattle.messages.specs.Layout.{req, ack, nak, busy, Message, message_length}
use Rattle.messages.specs.Requests.{identity_command, svids_command, modes_command, attention_command, request_of, head_for, same_request}
use Rattle.messages.specs.Table.{one_to_five}
use Rattle.messages.specs.Reading.{Outcome, accepted, refused}
use Rattle.messages.specs.Writing.{write_refusal, written}
use Rattle.messages.specs.declared.edition.Edition.{Edition}
use Rattle.messages.specs.declared.request.Request.{Request}
use Rattle.pages.specs.Pages.{page, is_last}
use Rattle.dock.specs.Data.{listed, good_identity, good_data, loaded, with_page, with_standing, with_edition}
use Rattle.dock.specs.declared.Dock.{Dock}
use Rattle.dock.specs.declared.Policy.{Policy}
use Rattle.dock.specs.declared.Policy.TheVariants.{Give, Nak, Busy}
use Rattle.dock.specs.declared.Standing.{Standing}
use Rattle.dock.specs.declared.Standing.TheVariants.{Ready, Asking, Sending}
use Rattle.dock.specs.Step.{Step}

-- what a call decides before the output buffer is looked at: a refusal; a new state with nothing to send; a message, and the state once it
-- is handed over, whose edition is the message's
pub data Decision : Type 0 where
  refuses : ℕ → Decision
  accepts : Dock → Decision
  sends : Message → Dock → Decision

-- a refusal sends nothing and leaves the state alone
abbrev pub refused_by : ℕ → Dock → Step
refused_by number d = record { refusal = number; length = 0; dock = d }

abbrev pub accepted_by : ℕ → Dock → Step
accepted_by bytes d = record { refusal = 0; length = bytes; dock = d }

unfoldable pub step_of : Dock → Decision → ℕ → Step
step_of d (refuses number) room = refused_by number d
step_of d (accepts next) room = accepted_by 0 next
step_of d (sends m next) room =
    cond (eqb (write_refusal m room) 0) (accepted_by (message_length m) next)
    (refused_by (write_refusal m room) d)

unfoldable pub buffer_of : Decision → List ℕ → List ℕ
buffer_of (refuses number) out = out
buffer_of (accepts next) out = out
buffer_of (sends m next) out = written next.edition m out

-- what a call promises: the refusal, the bytes to send and the state in one, and the whole buffer
pub record Stepped (d : Dock) (decision : Decision) (out : List ℕ) (step : Step) (after : List ℕ) : Type 0 where
  pub step_is : step ≡ step_of d decision (length out)
  pub buffer_is : after ≡ buffer_of decision out

-- loading: 9 unless ready, then 10
unfoldable pub decide_load : Dock → Standing → List ℕ → List ℕ → Decision
decide_load d Ready identity svids = cond (good_data identity svids) (accepts (loaded d.edition identity svids)) (refuses 10)
decide_load d (Asking request) identity svids = refuses 9
decide_load d (Sending is_page) identity svids = refuses 9

-- an answer repeats the request's SVID, command and position
abbrev pub reply : Request → ℕ → List ℕ → Message
reply r kind objects = record { head = head_for r kind; objects = objects }

-- Identity sets the page to 0 on receipt; each request of 1 to 5 asks policy, and replaces an old one as if it had failed
unfoldable pub asking : Request → Dock → Dock
asking r d = with_standing (Asking r) (cond (eqb r.command identity_command) (with_page 0 d) d)

unfoldable pub sending : Bool → Dock → Dock
sending is_page d = with_standing (Sending is_page) d

-- a request of 0 or 7..31 goes straight to a NAK
unfoldable pub decide_request : Dock → Request → Decision
decide_request d r = cond (one_to_five r.command) (accepts (asking r d)) (sends (reply r nak []) (sending false d))

-- a good request sets the edition of its answer: the lower of its own and ours
abbrev pub spoken_to : Edition → Dock → Dock
spoken_to e d = with_edition (lower e ours) d

-- a message: 6 for what is not a REQ, and for Attention
unfoldable pub decide_message : Dock → Outcome → Decision
decide_message d (refused number) = refuses number
decide_message d (accepted e m) =
    cond (eqb m.head.kind req && not (eqb m.head.command attention_command)) (decide_request (spoken_to e d) (request_of m.head)) (refuses 6)

abbrev pub is_empty : List ℕ → Bool
is_empty [] = true
is_empty (x ∷ l) = false

-- give for SVIDs shows the present page; with an empty list it sends NAK
unfoldable pub give_page : Dock → Request → Decision
give_page d r =
    cond (is_empty (listed d)) (sends (reply r nak []) (sending false d))
    (sends (reply r ack (page (listed d) d.page)) (sending true d))

unfoldable pub give_identity : Dock → Request → Decision
give_identity d r =
    cond (good_identity d.extent) (sends (reply r ack (take d.extent d.identity)) (sending false d)) (refuses 10)

-- give brings 1 to 6 objects for Modes and none otherwise, else 10
unfoldable pub give_modes : Dock → Request → List ℕ → Decision
give_modes d r objects =
    cond (leb 1 (length objects) && leb (length objects) 6) (sends (reply r ack objects) (sending false d)) (refuses 10)

unfoldable pub give_other : Dock → Request → Decision
give_other d r =
    cond (eqb r.command identity_command) (give_identity d r)
    (cond (eqb r.command svids_command) (give_page d r) (sends (reply r ack []) (sending false d)))

-- an answer without objects; objects that no rule brings are 10
unfoldable pub bare : List ℕ → Decision → Decision
bare objects decision = cond (is_empty objects) decision (refuses 10)

abbrev pub declined : Dock → Request → ℕ → List ℕ → Decision
declined d r kind objects = bare objects (sends (reply r kind []) (sending false d))

unfoldable pub decide_policy : Dock → Policy → Request → List ℕ → Decision
decide_policy d Give r objects = cond (eqb r.command modes_command) (give_modes d r objects) (bare objects (give_other d r))
decide_policy d Nak r objects = declined d r nak objects
decide_policy d Busy r objects = declined d r busy objects

-- policy's answer: 9 if it names another request, or none is waiting
unfoldable pub decide_policy_answer : Dock → Standing → Policy → Request → List ℕ → Decision
decide_policy_answer d Ready policy r objects = refuses 9
decide_policy_answer d (Sending is_page) policy r objects = refuses 9
decide_policy_answer d (Asking asked) policy r objects = cond (same_request asked r) (decide_policy d policy r objects) (refuses 9)

-- both "sent" and "failed" lead to ready, and are 9 without an answer. "Sent" on a page that does not end the list moves to the next page;
-- "failed" moves nothing, as if no page had been sent
unfoldable pub moved : Bool → Dock → Dock
moved is_page d = with_standing Ready (cond (is_page && not (is_last (listed d) d.page)) (with_page (d.page + 1) d) d)

unfoldable pub decide_sent : Dock → Standing → Decision
decide_sent d Ready = refuses 9
decide_sent d (Asking request) = refuses 9
decide_sent d (Sending is_page) = accepts (moved is_page d)

unfoldable pub decide_failed : Dock → Standing → Decision
decide_failed d Ready = refuses 9
decide_failed d (Asking request) = refuses 9
decide_failed d (Sending is_page) = accepts (moved false d)
