-- A message that arrives at the laptop (01, "Refusal numbers" and "The laptop end").
use Rattle.std.specs.Prelude.{◌≡◌, ℕ, Bool, true, false, cond, ◌&&◌, List, eqb, length, get_or, take, Option, Some, None}
use Rattle.laws.specs.Padded.{padded}
use Rattle.messages.specs.Layout.{req, ack, busy, Message}
use Rattle.messages.specs.Reading.{Outcome, accepted, refused, read_outcome}
use Rattle.messages.specs.Requests.{identity_command, svids_command, modes_command, attention_command, request_of, same_request}
use Rattle.messages.specs.declared.Head.{Head}
use Rattle.messages.specs.declared.edition.Edition.{Edition}
use Rattle.pages.specs.Pages.{halves}
use Rattle.gathering.specs.Gathering.{hear_identity, hear_svids, Opening, Gathering}
use Rattle.hearing.specs.Answers.{hear_modes, hear_mode, Storing, Marking}
use Rattle.publishing.specs.Publishing.{is_whole, copied, with_laptop}
use Rattle.laptop.specs.Calls.{refused_by, accepted_with, short_runs}
use Rattle.laptop.specs.State.{Memory, memory, LentMemory, is_open, dropped, published}
use Rattle.laptop.specs.declared.Laptop.{Laptop}
use Rattle.laptop.specs.declared.Notice.{Notice}
use Rattle.laptop.specs.Step.{Step}
use Rattle.laptop.specs.declared.Told.TheVariants.{Attention}
use Rattle.messages.specs.declared.request.Request.{Request}

-- what a message leads to: the call's answer, and all that is lent
pub record Result : Type 0 where
  pub step : Step
  pub after : Memory

abbrev pub only : Memory → Step → Result
only m step = record { step = step; after = m }

-- Attention goes to policy at any time and changes nothing; any other REQ is 6
abbrev pub notice_of : Head → ℕ → ℕ → Notice
notice_of h count object = record { svid = h.svid; position = h.position; count = count; object = object }

unfoldable pub hear_request : Laptop → Head → ℕ → ℕ → Step
hear_request l h count object =
    cond (eqb h.command attention_command) (accepted_with (Attention (notice_of h count object)) l) (refused_by 6 l)

-- answers must fit the awaited SVID, command and position
abbrev pub fits : Option Request → Head → Bool
fits None h = false
fits (Some r) h = same_request r (request_of h)

-- 6 drops the candidate when a well-formed SVIDs ACK comes while the list is open and nothing is awaited: it may have been confirmed
abbrev pub is_idle : Option Request → Bool
is_idle None = true
is_idle (Some r) = false

unfoldable pub is_late_page : Laptop → Head → Bool
is_late_page l h = is_idle l.wait && (is_open l.candidate && (eqb h.command svids_command && eqb h.kind ack))

unfoldable pub hear_unawaited : Laptop → Head → Step
hear_unawaited l h = cond (is_late_page l h) (refused_by 6 (dropped l)) (refused_by 6 l)

-- what is lent, with some of it changed
abbrev pub with_opening : Memory → Opening → Result
with_opening m o =
    record {
      step = o.step;
      after = memory o.svids m.modes o.identity m.run m.held_svids m.held_modes m.held_identity m.held_run m.entered;
    }

abbrev pub with_gathering : Memory → Gathering → Result
with_gathering m g =
    record {
      step = g.step;
      after = memory g.svids m.modes m.identity m.run m.held_svids m.held_modes m.held_identity m.held_run m.entered;
    }

abbrev pub with_storing : Memory → Storing → Result
with_storing m f =
    record {
      step = f.step;
      after = memory m.svids f.modes m.identity f.run m.held_svids m.held_modes m.held_identity m.held_run m.entered;
    }

abbrev pub with_marking : Memory → Marking → Result
with_marking m k =
    record {
      step = k.step;
      after = memory m.svids m.modes m.identity m.run m.held_svids m.held_modes m.held_identity m.held_run k.entered;
    }

-- a candidate that is whole is published
unfoldable pub step_if_whole : Step → Step
step_if_whole s = cond (is_whole s.laptop) (with_laptop (published s.laptop) s) s

unfoldable pub list_if_whole : Laptop → List ℕ → List ℕ → List ℕ
list_if_whole l candidate held = cond (is_whole l) candidate held

unfoldable pub run_if_whole : Laptop → List ℕ → List ℕ → List ℕ → List ℕ
run_if_whole l modes run held_run = cond (is_whole l) (copied (take l.gathered.count modes) run 0 held_run) held_run

abbrev pub published_if_whole : Result → Result
published_if_whole r =
    record {
      step = step_if_whole r.step;
      after =
          memory r.after.svids r.after.modes r.after.identity r.after.run
          (list_if_whole r.step.laptop r.after.svids r.after.held_svids)
          (list_if_whole r.step.laptop r.after.modes r.after.held_modes)
          (list_if_whole r.step.laptop r.after.identity r.after.held_identity)
          (run_if_whole r.step.laptop r.after.modes r.after.run r.after.held_run) r.after.entered;
    }

-- BUSY changes nothing more; another answer publishes the candidate that it makes whole
unfoldable pub publishing : ℕ → Result → Result
publishing kind r = cond (eqb kind busy) r (published_if_whole r)

-- an answer that fits what is awaited; its edition counts for Identity alone
unfoldable pub hear_answer : Laptop → Memory → Edition → Message → Result
hear_answer l m e message =
    cond (eqb message.head.command identity_command)
    (with_opening m (hear_identity l e message.head.kind (length message.objects) (padded message.objects) m.svids m.identity))
    (cond (eqb message.head.command svids_command)
    (publishing message.head.kind (with_gathering m (hear_svids l message.head.kind (halves message.objects) m.svids)))
    (cond (eqb message.head.command modes_command)
    (publishing message.head.kind (with_storing m (hear_modes l message.head.kind message.objects m.modes m.run)))
    (with_marking m (hear_mode l message.head.kind (request_of message.head) m.held_svids m.entered))))

unfoldable pub hear : Laptop → Memory → Outcome → Result
hear l m (refused number) = only m (refused_by number l)
hear l m (accepted e message) =
    cond (eqb message.head.kind req)
    (only m (hear_request l message.head (length message.objects) (get_or message.objects 0 0)))
    (cond (fits l.wait message.head) (hear_answer l m e message) (only m (hear_unawaited l message.head)))

-- a short run is refused before everything else
unfoldable pub heard : Laptop → Memory → Outcome → Result
heard l m outcome =
    cond (short_runs (length m.run) (length m.held_run)) (only m (refused_by 11 l)) (hear l m outcome)

-- what hearing a message promises: the step, and all that is lent
abbrev pub Hears : Laptop → List ℕ → LentMemory → Step → Type 0
Hears l bytes m step = (step ≡ (heard l m.entry (read_outcome bytes)).step) × (m.exit ≡ (heard l m.entry (read_outcome bytes)).after)
