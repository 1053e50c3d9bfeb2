-- What the link permits, of every system whatever: the freedoms of 01's section on the link, for every list, SVID, message and moment.
use Rattle.std.specs.Prelude.{◌⊎◌, ◌≡◌, ℕ, ◌+◌, ◌<◌, Bool, true, false, cond, List, [], eqb, length, take}
use Rattle.messages.specs.Requests.{svids_command, modes_command}
use Rattle.messages.specs.declared.request.Request.{Request}
use Rattle.dock.specs.Data.{listed}
use Rattle.dock.specs.Dock.{Decision, step_of, buffer_of}
use Rattle.dock.specs.declared.Policy.TheVariants.{Give, Nak, Busy}
use Rattle.dock.specs.declared.Standing.TheVariants.{Asking, Sending}
use Rattle.laptop_laws.specs.Effects.{Call, message}
use Rattle.link.specs.Ends.{laptop_does, dock_hears, dock_answers, dock_sent, dock_failed}
use Rattle.link.specs.Joined.{clear, request, Fate, gone, coming, confirmed, came, System, calls, lose_request, reach, answer, lose_answer, arrive, sent, failed}
use Rattle.link.specs.Link.{is_message, step}

abbrev pub is_confirmed : Fate → Bool
is_confirmed gone = false
is_confirmed (coming bytes) = false
is_confirmed (confirmed bytes) = true
is_confirmed (came b) = false

module _ (modes_of : ℕ → List ℕ) (s : System) where
  -- the dock does what it decides with so large a buffer, and what it hands over is on its way
  abbrev pub Follows : Decision → List ℕ → System → Type 0
  Follows decision out after =
      (after.dock ≡ (step_of s.dock decision (length out)).dock) ×
      (0 < (step_of s.dock decision (length out)).length →
      after.fate ≡ coming (take (step_of s.dock decision (length out)).length (buffer_of decision out)))

  -- the laptop does what it does with a call
  abbrev pub Does : Call → List ℕ → System → Type 0
  Does c out after =
      (after.laptop ≡ (laptop_does c s.laptop s.memory out).step.laptop) × (after.memory ≡ (laptop_does c s.laptop s.memory out).after)

  pub record Permits : Type 0 where
    -- "Each message may be lost"
    pub request_lost : (step modes_of lose_request s).way ≡ clear
    pub answer_lost : (bytes : List ℕ) → s.fate ≡ coming bytes → (step modes_of lose_answer s).fate ≡ gone
    -- the owner's calls, the timers and a protocol error, at any time
    pub call_made : (c : Call) (out : List ℕ) → is_message c ≡ false → Does c out (step modes_of (calls c out) s)
    -- a request reaches the dock, whatever it asks or sends, unless an answer is confirmed and has still to arrive
    pub request_reaches : (bytes out : List ℕ) → s.way ≡ request bytes → is_confirmed s.fate ≡ false →
        Follows (dock_hears s.highest s.dock bytes) out (step modes_of (reach out) s)
    -- "policy gives", for every list and every SVID, "or says BUSY, and says NAK only to SVIDs with an empty list"
    pub policy_gives : (r : Request) (out : List ℕ) → s.dock.standing ≡ Asking r →
        Follows (dock_answers s.dock Give r (cond (eqb r.command modes_command) (modes_of r.svid) [])) out (step modes_of (answer Give out) s)
    pub policy_says_busy : (r : Request) (out : List ℕ) → s.dock.standing ≡ Asking r →
        Follows (dock_answers s.dock Busy r []) out (step modes_of (answer Busy out) s)
    pub policy_says_nak : (r : Request) (out : List ℕ) → s.dock.standing ≡ Asking r → r.command ≡ svids_command → listed s.dock ≡ [] →
        Follows (dock_answers s.dock Nak r []) out (step modes_of (answer Nak out) s)
    -- an answer arrives, late or not, whatever is awaited, also one that is confirmed or that the dock has heard "failed" of
    pub answer_arrives : (bytes : List ℕ) → (s.fate ≡ coming bytes) ⊎ (s.fate ≡ confirmed bytes) → Does (message bytes) [] (step modes_of arrive s)
    -- "may go unconfirmed (the dock hears "failed" or nothing)": "failed" before it arrives and after; nothing, until a later request reaches the dock
    pub failed_early : (is_page : Bool) (bytes : List ℕ) → s.dock.standing ≡ Sending is_page → s.fate ≡ coming bytes →
        ((step modes_of failed s).dock ≡ (step_of s.dock (dock_failed s.dock) 0).dock) × ((step modes_of failed s).fate ≡ coming bytes)
    pub failed_late : (is_page counted : Bool) → s.dock.standing ≡ Sending is_page → s.fate ≡ came counted →
        ((step modes_of failed s).dock ≡ (step_of s.dock (dock_failed s.dock) 0).dock) × ((step modes_of failed s).lost ≡ s.lost + cond counted 1 0)
    pub failed_of_a_lost_one : (is_page : Bool) → s.dock.standing ≡ Sending is_page → s.fate ≡ gone →
        (step modes_of failed s).dock ≡ (step_of s.dock (dock_failed s.dock) 0).dock
    pub nothing_heard : (counted : Bool) (bytes out : List ℕ) → s.way ≡ request bytes → s.fate ≡ came counted →
        (step modes_of (reach out) s).lost ≡ s.lost + cond counted 1 0
    -- "sent", before it arrives and after
    pub sent_early : (is_page : Bool) (bytes : List ℕ) → s.dock.standing ≡ Sending is_page → s.fate ≡ coming bytes →
        ((step modes_of sent s).dock ≡ (step_of s.dock (dock_sent s.dock) 0).dock) × ((step modes_of sent s).fate ≡ confirmed bytes)
    pub sent_late : (is_page counted : Bool) → s.dock.standing ≡ Sending is_page → s.fate ≡ came counted →
        ((step modes_of sent s).dock ≡ (step_of s.dock (dock_sent s.dock) 0).dock) × ((step modes_of sent s).fate ≡ gone)
