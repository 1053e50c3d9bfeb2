-- The laptop end's state as 22 numbers, and back. Any numbers are taken: of one that is to be a byte the low eight bits count, and one that says what
-- is awaited, gathered or held, or an edition, and is none of those below counts as nothing awaited, no candidate, nothing held, 2.1.
use Rattle.std.specs.Prelude.{ℕ, ◌+◌, ◌%◌, cond, List, [], ◌∷◌, ◌++◌, eqb, get_or, Option, Some, None}
use Rattle.messages.specs.Editions.{edition_number}
use Rattle.messages.specs.declared.edition.Edition.{Edition}
use Rattle.messages.specs.declared.edition.Edition.TheVariants.{OneZero, TwoZero, TwoOne}
use Rattle.messages.specs.declared.request.Request.{Request}
use Rattle.taking.specs.Taking.{same_list}
use Rattle.laptop.specs.declared.Candidate.{Candidate}
use Rattle.laptop.specs.declared.Candidate.TheVariants.{Absent, Open, Done}
use Rattle.laptop.specs.declared.Size.{Size}
use Rattle.port.specs.declared.Own.{Own}
use Rattle.port.specs.declared.Port.{Port}
use Rattle.port.specs.declared.Side.{Side}
use Rattle.port.specs.declared.Side.TheVariants.{Partner, Cable}
use Rattle.port.specs.Sides.{Wait}

-- the low eight bits
abbrev pub low_byte : ℕ → ℕ
low_byte number = number % 256

abbrev pub request_from : ℕ → ℕ → ℕ → Request
request_from svid command position = record { svid = svid; command = low_byte command; position = low_byte position }

abbrev pub size_from : ℕ → ℕ → Size
size_from extent count = record { extent = low_byte extent; count = low_byte count }

-- 1 the cable, any other the partner
abbrev pub side_from : ℕ → Side
side_from number = cond (eqb number 1) Cable Partner

-- 10 is 1.0, 20 is 2.0, any other 2.1
abbrev pub edition_from : ℕ → Edition
edition_from number = cond (eqb number 10) OneZero (cond (eqb number 20) TwoZero TwoOne)

-- 1 an answer of the partner, 2 an answer of the cable, any other nothing
abbrev pub wait_from : ℕ → Request → Wait
wait_from tag request = cond (eqb tag 1) (Some (Partner, request)) (cond (eqb tag 2) (Some (Cable, request)) None)

-- 1 its list is open, 2 its list is done, any other none
abbrev pub candidate_from : ℕ → Candidate
candidate_from tag = cond (eqb tag 1) Open (cond (eqb tag 2) Done Absent)

-- 1 a catalogue, any other nothing
abbrev pub held_from : ℕ → Size → Option Size
held_from tag size = cond (eqb tag 1) (Some size) None

-- what is awaited, in the first four
unfoldable pub wait_in : List ℕ → Wait
wait_in s = wait_from (get_or s 0 0) (request_from (get_or s 1 0) (get_or s 2 0) (get_or s 3 0))

-- what a side has of its own, in the nine that begin at the place
unfoldable pub own_from : List ℕ → ℕ → Own
own_from s at =
    record {
      candidate = candidate_from (get_or s at 0);
      gathered = size_from (get_or s (at + 1) 0) (get_or s (at + 2) 0);
      stored = low_byte (get_or s (at + 3) 0);
      pages = low_byte (get_or s (at + 4) 0);
      held = held_from (get_or s (at + 5) 0) (size_from (get_or s (at + 6) 0) (get_or s (at + 7) 0));
      edition = edition_from (get_or s (at + 8) 0);
    }

unfoldable pub port_from : List ℕ → Port
port_from s = record { wait = wait_in s; partner = own_from s 4; cable = own_from s 13 }

-- 0 the partner, 1 the cable
abbrev pub side_number : Side → ℕ
side_number Partner = 0
side_number Cable = 1

abbrev pub wait_numbers : Wait → List ℕ
wait_numbers None = 0 ∷ 0 ∷ 0 ∷ 0 ∷ []
wait_numbers (Some (side, r)) = (side_number side + 1) ∷ r.svid ∷ r.command ∷ r.position ∷ []

abbrev pub candidate_number : Candidate → ℕ
candidate_number Absent = 0
candidate_number Open = 1
candidate_number Done = 2

abbrev pub held_numbers : Option Size → List ℕ
held_numbers None = 0 ∷ 0 ∷ 0 ∷ []
held_numbers (Some size) = 1 ∷ size.extent ∷ size.count ∷ []

unfoldable pub own_numbers : Own → List ℕ
own_numbers own =
    candidate_number own.candidate ∷ own.gathered.extent ∷ own.gathered.count ∷ own.stored ∷ own.pages ∷
    held_numbers own.held ++ (edition_number own.edition ∷ [])

unfoldable pub port_numbers : Port → List ℕ
port_numbers p = wait_numbers p.wait ++ own_numbers p.partner ++ own_numbers p.cable

-- the numbers after a call: those of its port where that is another than they stood for; else they stay as they were lent, ill-formed ones too
unfoldable pub numbers_after : List ℕ → Port → List ℕ
numbers_after before p = cond (same_list (port_numbers (port_from before)) (port_numbers p)) before (port_numbers p)
