-- The table of commands and the shape rule (01, "Message layout").
use Rattle.std.specs.Prelude.{ℕ, ◌+◌, ◌*◌, ◌/◌, ◌%◌, ◌^◌, Bool, true, false, cond, not, ◌&&◌, List, [], ◌∷◌, leb, ltb, eqb, get_or}
use Rattle.laws.specs.Lines.{all_hold}
use Rattle.messages.specs.Layout.{bits}
use Rattle.messages.specs.declared.Head.{Head}
use Rattle.messages.specs.declared.table.Row.{Row}

abbrev pub pd_sid : ℕ
pd_sid = 0xFF00

abbrev pub highest_svid : ℕ
highest_svid = 0xFFFF

infix 50 ◌‥◌
-- object counts from least to most, the header counted, as two hexadecimal digits
abbrev pub ◌‥◌ : ℕ → ℕ → ℕ
least ‥ most = least * 16 + most

abbrev pub none : ℕ
none = 1 ‥ 0

-- a row: the object counts of REQ, ACK, NAK and BUSY, the SVIDs from lowest to highest, the positions from first to last
abbrev pub row : ℕ → ℕ → ℕ → ℕ → ℕ → ℕ → ℕ → ℕ → Row
row r a n b lowest highest first last =
    record {
      counts = r + a * 2 ^ 8 + n * 2 ^ 16 + b * 2 ^ 24;
      lowest = lowest;
      highest = highest;
      first = first;
      last = last;
    }

-- by command; the row of command 0 is also that of 7..31
abbrev pub rows : List Row
rows =
    row (1 ‥ 7) none (1 ‥ 1) none 0 highest_svid 0 7 ∷
    row (1 ‥ 1) (4 ‥ 7) (1 ‥ 1) (1 ‥ 1) pd_sid pd_sid 0 0 ∷
    row (1 ‥ 1) (2 ‥ 7) (1 ‥ 1) (1 ‥ 1) pd_sid pd_sid 0 0 ∷
    row (1 ‥ 1) (2 ‥ 7) (1 ‥ 1) (1 ‥ 1) 1 highest_svid 0 0 ∷
    row (1 ‥ 2) (1 ‥ 1) (1 ‥ 1) (1 ‥ 1) 1 highest_svid 1 6 ∷
    row (1 ‥ 1) (1 ‥ 1) (1 ‥ 1) (1 ‥ 1) 1 highest_svid 1 7 ∷
    row (1 ‥ 2) none none none 1 highest_svid 1 6 ∷ []

abbrev pub no_row : Row
no_row = row none none none none 0 0 0 0

unfoldable pub row_of : ℕ → Row
row_of command = get_or rows (cond (ltb command 7) command 0) no_row

-- the object counts that a row has for a type
unfoldable pub counts_of : Row → ℕ → ℕ
counts_of r kind = bits (8 * kind + 7) (8 * kind) r.counts

abbrev pub fit_lines : Row → Head → ℕ → List Bool
fit_lines r h count =
    leb (counts_of r h.kind / 16) count ∷
    leb count (counts_of r h.kind % 16) ∷
    leb r.first h.position ∷
    leb h.position r.last ∷
    leb r.lowest h.svid ∷
    leb h.svid r.highest ∷ []

unfoldable pub fits : Row → Head → ℕ → Bool
fits r h count = all_hold (fit_lines r h count)

-- the shape rule: there are 32 commands and four types, and head and number of objects, the header counted, fit the command's row
unfoldable pub shape : Head → ℕ → Bool
shape h count = ltb h.command 32 && (ltb h.kind 4 && fits (row_of h.command) h count)

abbrev pub one_to_five : ℕ → Bool
one_to_five command = leb 1 command && leb command 5

-- the pairs of command and type that there are: REQ of each, ACK and BUSY of 1 to 5, NAK of all but 6
abbrev pub allowed : ℕ → ℕ → Bool
allowed command kind =
    ltb command 32 && get_or (true ∷ one_to_five command ∷ not (eqb command 6) ∷ one_to_five command ∷ []) kind false

-- a head that the row of a command lets through, where the pair is allowed
abbrev pub first_head : ℕ → ℕ → Head
first_head command kind = record { svid = pd_sid; command = command; kind = kind; position = (row_of command).first }
