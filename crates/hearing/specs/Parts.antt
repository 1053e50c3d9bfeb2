-- What the code tells apart on the way to `Hearing.hear_answer`. No public promise cites it.
use Rattle.std.specs.Prelude.{◌≡◌, ℕ, ◌*◌, Bool, false, cond, ◌&&◌, List, leb, eqb, take}
use Rattle.laws.specs.Lent.{Lent, lent, left}
use Rattle.messages.specs.Layout.{busy}
use Rattle.messages.specs.Requests.{identity_command, svids_command, modes_command}
use Rattle.messages.specs.declared.Head.{Head}
use Rattle.messages.specs.declared.edition.Edition.{Edition}
use Rattle.gathering.specs.Gathering.{hear_identity, six_halves, hear_svids}
use Rattle.hearing.specs.Answers.{hear_modes, is_whole}
use Rattle.hearing.specs.Hearing.{Result, only, with_opening, with_gathering, with_storing, hear_answer}
use Rattle.laptop.specs.State.{Memory, memory, LentMemory}
use Rattle.laptop.specs.declared.Laptop.{Laptop}
use Rattle.laptop.specs.Step.{Step}

-- Identity, SVIDs and Modes bring a part of the candidate
abbrev pub brings_part : ℕ → Bool
brings_part command = leb identity_command command && leb command modes_command

-- such an answer, before anything is published, by its edition, its command, its type, the number of its objects, and six words
abbrev pub hear_part : Laptop → Memory → Edition → ℕ → ℕ → ℕ → List ℕ → Result
hear_part l m e command kind count words =
    cond (eqb command identity_command) (with_opening m (hear_identity l e kind count words m.svids m.identity))
    (cond (eqb command svids_command) (with_gathering m (hear_svids l kind (take (count * 2) (six_halves words)) m.svids))
    (with_storing m (hear_modes l kind (take count words) m.modes m.run)))

-- it makes the candidate whole, which BUSY never does
abbrev pub completes : ℕ → Laptop → Bool
completes kind l = cond (eqb kind busy) false (is_whole l)

-- what gathering a part promises, whatever is held
abbrev pub GathersPart : Laptop → Edition → ℕ → ℕ → ℕ → List ℕ → Lent (List ℕ) → Lent (List ℕ) → Lent (List ℕ) → Lent (List ℕ) → Step → Type 0
GathersPart l e command kind count words svids modes identity run step =
    (held_svids held_modes held_identity held_run entered : List ℕ) →
    only (memory (left svids) (left modes) (left identity) (left run) held_svids held_modes held_identity held_run entered) step ≡
    hear_part l (memory (lent svids) (lent modes) (lent identity) (lent run) held_svids held_modes held_identity held_run entered) e command kind count words

-- what hearing an awaited answer promises: the step and all that is lent, in one
abbrev pub HearsAnswer : Laptop → Edition → Head → List ℕ → LentMemory → Step → Type 0
HearsAnswer l e head objects m step = only m.exit step ≡ hear_answer l m.entry e (record { head = head; objects = objects })
