-- Reading a message: refusals 1, 2, 3 and 5 in their order, or the message with its edition (01, "Message layout" and "Refusal numbers"; 02, R-2, R-5).
use Rattle.std.specs.Prelude.{ℕ, Result, Ok, Err, ◌/◌, ◌%◌, Bool, false, cond, not, ◌&&◌, List, [], ◌∷◌, leb, eqb, length, get_or, drop, replicate}
use Rattle.laws.specs.Lines.{first_line}
use Rattle.laws.specs.Padded.{padded}
use Rattle.messages.specs.Layout.{objects_of, structured, major, edition_said, head_of, Message}
use Rattle.messages.specs.Table.{shape}
use Rattle.messages.specs.Refusals.{number_of}
use Rattle.messages.specs.declared.Head.{Head}
use Rattle.messages.specs.declared.Received.{Received}
use Rattle.messages.specs.declared.edition.Edition.{Edition}
use Rattle.messages.specs.declared.refusal.Refusal.{Refusal}

-- bytes are not 4, 8, .. 28
abbrev pub wrong_length : ℕ → Bool
wrong_length n = not (leb 4 n && (leb n 28 && eqb (n % 4) 0))

-- bit 15 is 0
abbrev pub unstructured : ℕ → Bool
unstructured header = eqb (structured header) 0

-- major is 2 or 3
abbrev pub wrong_major : ℕ → Bool
wrong_major header = leb 2 (major header)

-- line 4 of 01, a header whose bit 5 is 1: 02 withdraws it, and it holds of none
abbrev pub withdrawn : Bool
withdrawn = false

-- wrong shape by the table
abbrev pub wrong_shape : ℕ → ℕ → Bool
wrong_shape header count = not (shape (head_of header) count)

-- lines 2 to 5, by the header and the number of objects
abbrev pub header_lines : ℕ → ℕ → List Bool
header_lines header count =
    unstructured header ∷ wrong_major header ∷ withdrawn ∷ wrong_shape header count ∷ []

-- object 1
abbrev pub header_in : List ℕ → ℕ
header_in b = get_or (objects_of b) 0 0

-- lines 1 to 5
abbrev pub read_lines : List ℕ → List Bool
read_lines b = wrong_length (length b) ∷ header_lines (header_in b) (length b / 4)

unfoldable pub read_refusal : List ℕ → ℕ
read_refusal b = first_line 1 (read_lines b)

unfoldable pub message_in : List ℕ → Message
message_in b = record { head = head_of (header_in b); objects = drop 1 (objects_of b) }

unfoldable pub edition_in : List ℕ → Edition
edition_in b = edition_said (header_in b)

pub data Outcome : Type 0 where
  accepted : Edition → Message → Outcome
  refused : ℕ → Outcome

unfoldable pub outcome : ℕ → Edition → Message → Outcome
outcome number e m = cond (eqb number 0) (accepted e m) (refused number)

unfoldable pub read_outcome : List ℕ → Outcome
read_outcome b = outcome (read_refusal b) (edition_in b) (message_in b)

-- objects 2 to 7 of a run of bytes, with 0 for one that is not there
abbrev pub objects_in : List ℕ → List ℕ
objects_in b = padded (drop 1 (objects_of b))

-- an outcome shown: 01's number, or its values
pub data ReadAs : Type 0 where
  ReadAsMessage : Edition → Head → ℕ → ReadAs
  Refused : ℕ → ReadAs

pub record Reading : Type 0 where
  pub outcome : ReadAs
  pub objects : List ℕ

unfoldable pub shown : Outcome → Reading
shown (accepted e m) = record { outcome = ReadAsMessage e m.head (length m.objects); objects = padded m.objects }
shown (refused number) = record { outcome = Refused number; objects = replicate 6 0 }

-- the refusal number of what was read, 0 for a message
abbrev pub read_number : ReadAs → ℕ
read_number (ReadAsMessage e h count) = 0
read_number (Refused number) = number

-- how the code shows it: a message, or a refusal by its name
abbrev pub as_shown : Result Received Refusal → Reading
as_shown (Ok r) = record { outcome = ReadAsMessage r.edition r.head r.count; objects = r.objects }
as_shown (Err refusal) = record { outcome = Refused (number_of refusal); objects = replicate 6 0 }
