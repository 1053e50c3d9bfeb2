-- When each refusal number is given, by 01's lines: "Refusal numbers" and "The dock end".
use Rattle.std.specs.Prelude.{◌⊎◌, ◌≡◌, ℕ, ◌+◌, ◌*◌, ◌<◌, Bool, true, false, List, [], length, take}
use Rattle.laws.specs.Lines.{first_at}
use Rattle.messages.specs.Layout.{req, ack, nak, busy, Message}
use Rattle.messages.specs.Reading.{read_lines, accepted, read_outcome}
use Rattle.messages.specs.Requests.{identity_command, svids_command, modes_command, attention_command}
use Rattle.messages.specs.Writing.{well_shaped}
use Rattle.messages.specs.declared.edition.Edition.{Edition}
use Rattle.messages.specs.declared.request.Request.{Request}
use Rattle.pages.specs.Lists.{most_svids}
use Rattle.pages.specs.Pages.{page}
use Rattle.pages.specs.Words.{Stands, Twice}
use Rattle.dock.specs.Data.{listed}
use Rattle.dock.specs.Dock.{reply}
use Rattle.dock.specs.declared.Dock.{Dock}
use Rattle.dock.specs.declared.Policy.{Policy}
use Rattle.dock.specs.declared.Policy.TheVariants.{Give, Nak, Busy}
use Rattle.dock.specs.declared.Standing.TheVariants.{Ready, Asking, Sending}
use Rattle.dock_laws.specs.Effects.{Call, load, message, policy_answer, sent, failed}

-- not 3 to 6 identity objects
abbrev pub NotThreeToSix : ℕ → Type 0
NotThreeToSix extent = (extent < 3) ⊎ (6 < extent)

-- data that breaks its limits: 3 to 6 identity objects; 0 to 72 SVIDs, none 0, all different
pub data BreaksLimits (identity svids : List ℕ) : Type 0 where
  not_3_to_6 : NotThreeToSix (length identity) → BreaksLimits identity svids
  more_than_72 : most_svids < length svids → BreaksLimits identity svids
  one_is_0 : Stands 0 svids → BreaksLimits identity svids
  two_are_equal : Twice svids → BreaksLimits identity svids

-- give brings 1 to 6 objects for Modes and nothing else brings any; give for Identity needs an identity
pub data BringsWrong (d : Dock) (policy : Policy) (r : Request) (objects : List ℕ) : Type 0 where
  not_1_to_6 : policy ≡ Give → r.command ≡ modes_command → (length objects ≡ 0) ⊎ (6 < length objects) → BringsWrong d policy r objects
  brings_some : (policy ≡ Give → r.command ≡ modes_command → ⊥) → 0 < length objects → BringsWrong d policy r objects
  no_identity : policy ≡ Give → r.command ≡ identity_command → NotThreeToSix d.extent → BringsWrong d policy r objects

-- the answer repeats the SVID, command and position: give is an ACK with the dock's identity, its present page, the modes brought, or no object, and a
-- NAK for SVIDs with an empty list; NAK and BUSY are theirs
pub data AnswerIs (d : Dock) (policy : Policy) (r : Request) (objects : List ℕ) (m : Message) : Type 0 where
  gives_identity : policy ≡ Give → r.command ≡ identity_command → m ≡ reply r ack (take d.extent d.identity) → AnswerIs d policy r objects m
  gives_page : policy ≡ Give → r.command ≡ svids_command → (listed d ≡ [] → ⊥) → m ≡ reply r ack (page (listed d) d.page) → AnswerIs d policy r objects m
  gives_empty_list : policy ≡ Give → r.command ≡ svids_command → listed d ≡ [] → m ≡ reply r nak [] → AnswerIs d policy r objects m
  gives_modes : policy ≡ Give → r.command ≡ modes_command → m ≡ reply r ack objects → AnswerIs d policy r objects m
  gives_other : policy ≡ Give → (r.command ≡ identity_command → ⊥) → (r.command ≡ svids_command → ⊥) → (r.command ≡ modes_command → ⊥) →
      m ≡ reply r ack [] → AnswerIs d policy r objects m
  says_nak : policy ≡ Nak → m ≡ reply r nak [] → AnswerIs d policy r objects m
  says_busy : policy ≡ Busy → m ≡ reply r busy [] → AnswerIs d policy r objects m

-- policy's answer is to be sent as this message
pub record HasToSend (d : Dock) (policy : Policy) (r : Request) (objects : List ℕ) (m : Message) : Type 0 where
  pub waits : d.standing ≡ Asking r
  pub brings_right : BringsWrong d policy r objects → ⊥
  pub is_answer_lem : AnswerIs d policy r objects m

-- the buffer has too few bytes for its objects, the header counted
abbrev pub TooShort : List ℕ → Message → Type 0
TooShort out m = length out < 4 * (length m.objects + 1)

-- loading: 9 unless the dock is ready, then 10
pub data GivenToLoad (d : Dock) (identity svids : List ℕ) (number : ℕ) : Type 0 where
  not_ready : number ≡ 9 → (d.standing ≡ Ready → ⊥) → GivenToLoad d identity svids number
  breaks_limits : number ≡ 10 → d.standing ≡ Ready → BreaksLimits identity svids → GivenToLoad d identity svids number

-- a message: 1 to 5 as in reading, the first of the lines that holds; 6 for what is not a REQ, and for Attention; 11 for the NAK of
-- commands 0 and 7..31, which has one object
pub data GivenToMessage (bytes out : List ℕ) (number : ℕ) : Type 0 where
  not_read : (k : ℕ) → number ≡ 1 + k → first_at (read_lines bytes) k ≡ true → GivenToMessage bytes out number
  not_a_request : number ≡ 6 → (at : Edition) (m : Message) → read_outcome bytes ≡ accepted at m →
      (m.head.kind ≡ req → ⊥) ⊎ (m.head.command ≡ attention_command) → GivenToMessage bytes out number
  no_room_for_nak : number ≡ 11 → (at : Edition) (m : Message) → read_outcome bytes ≡ accepted at m → m.head.kind ≡ req →
      (m.head.command ≡ 0) ⊎ (attention_command < m.head.command) → length out < 4 → GivenToMessage bytes out number

-- policy's answer: 9 if none is waiting or it names another request; then 10; then 5 for an answer of wrong shape by the table; then 11
pub data GivenToPolicyAnswer (d : Dock) (policy : Policy) (r : Request) (objects out : List ℕ) (number : ℕ) : Type 0 where
  not_waiting : number ≡ 9 → (d.standing ≡ Asking r → ⊥) → GivenToPolicyAnswer d policy r objects out number
  brings_wrong : number ≡ 10 → d.standing ≡ Asking r → BringsWrong d policy r objects → GivenToPolicyAnswer d policy r objects out number
  wrong_shape : number ≡ 5 → (m : Message) → HasToSend d policy r objects m → well_shaped m ≡ false → GivenToPolicyAnswer d policy r objects out number
  no_room_for_answer : number ≡ 11 → (m : Message) → HasToSend d policy r objects m → well_shaped m ≡ true → TooShort out m →
      GivenToPolicyAnswer d policy r objects out number

-- "sent" and "failed": 9 where no answer is being sent
pub data GivenToConfirmation (d : Dock) (number : ℕ) : Type 0 where
  not_sending : number ≡ 9 → ((is_page : Bool) → d.standing ≡ Sending is_page → ⊥) → GivenToConfirmation d number

-- the number is given to the call
abbrev pub Given : Call → Dock → List ℕ → ℕ → Type 0
Given (load identity svids) d out number = GivenToLoad d identity svids number
Given (message bytes) d out number = GivenToMessage bytes out number
Given (policy_answer policy r objects) d out number = GivenToPolicyAnswer d policy r objects out number
Given sent d out number = GivenToConfirmation d number
Given failed d out number = GivenToConfirmation d number
