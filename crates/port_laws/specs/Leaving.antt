-- A side's share of a history: what is left of it without the other side (02, R-4).
use Rattle.std.specs.Prelude.{ℕ, ◌≡◌, Bool, false, cond, not, ◌&&◌, ◌||◌, List, [], ◌∷◌, length}
use Rattle.laptop.specs.Calls.{short_runs}
use Rattle.laptop_laws.specs.Effects.{Call as LaptopCall}
use Rattle.laptop_laws.specs.Effects.{effect_of as laptop_effect_of}
use Rattle.laptop_laws.specs.Effects.{Kept as LaptopKept}
use Rattle.port.specs.Sides.{Wait, same_side, is_others}
use Rattle.port.specs.declared.Side.{Side}
use Rattle.port_laws.specs.Effects.{Call, message, next, start_over, drop, enter, exit, timer, protocol_error, one_sided, is_owners, Kept, memory_of, effect_in, kept_by_of, Answer, answer_of, answer_on_side}

-- an event of the other side: its messages and calls, and each timer or protocol error that comes while it waits
abbrev pub is_others_call : Side → Call → Wait → Bool
is_others_call side (message s bytes) w = not (same_side s side)
is_others_call side (next s) w = not (same_side s side)
is_others_call side (start_over s) w = not (same_side s side)
is_others_call side (drop s) w = not (same_side s side)
is_others_call side (enter s svid position) w = not (same_side s side)
is_others_call side (exit s svid position) w = not (same_side s side)
is_others_call side (timer first last) w = is_others side w
is_others_call side protocol_error w = is_others side w

-- an owner's call for the side that is refused 7 because the other waits
abbrev pub is_blocked : Side → Call → Kept → Bool
is_blocked side c k =
    is_owners c &&
    (is_others side k.port.wait && not (short_runs (length (memory_of side k).run) (length (memory_of side k).held_run)))

abbrev pub is_left_out : Side → Call → Kept → Bool
is_left_out side c k = is_others_call side c k.port.wait || is_blocked side c k

-- a history of the port without those, and the answers that the others get in it
unfoldable pub leaving : Side → List (Call × List ℕ) → Kept → List (Call × List ℕ)
leaving side [] k = []
leaving side (c ∷ rest) k =
    cond (is_left_out side c.0 k) (leaving side rest (kept_by_of c.0 c.1 k)) (c ∷ leaving side rest (kept_by_of c.0 c.1 k))

unfoldable pub answers_for : Side → List (Call × List ℕ) → Kept → List Answer
answers_for side [] k = []
answers_for side (c ∷ rest) k =
    cond (is_left_out side c.0 k) (answers_for side rest (kept_by_of c.0 c.1 k))
    (answer_of (effect_in c.0 c.1 k) ∷ answers_for side rest (kept_by_of c.0 c.1 k))

-- without the other side's events alone
unfoldable pub without_others : Side → List (Call × List ℕ) → Kept → List (Call × List ℕ)
without_others side [] k = []
without_others side (c ∷ rest) k =
    cond (is_others_call side c.0 k.port.wait) (without_others side rest (kept_by_of c.0 c.1 k))
    (c ∷ without_others side rest (kept_by_of c.0 c.1 k))

-- no call for the side is refused 7 on the way
abbrev pub NoneRefusedSeven : Side → List (Call × List ℕ) → Kept → Type 0
NoneRefusedSeven side [] k = Unit
NoneRefusedSeven side (c ∷ rest) k =
    (is_others_call side c.0 k.port.wait ≡ false → (effect_in c.0 c.1 k).step.refusal ≡ 7 → ⊥) ×
    NoneRefusedSeven side rest (kept_by_of c.0 c.1 k)

-- calls of 01, and the answers that a laptop of 01 gives to them
abbrev pub one_sided_all : List (Call × List ℕ) → List (LaptopCall × List ℕ)
one_sided_all [] = []
one_sided_all (c ∷ rest) = (one_sided c.0, c.1) ∷ one_sided_all rest

abbrev pub laptop_by : LaptopCall → List ℕ → LaptopKept → LaptopKept
laptop_by c out k =
    record { laptop = (laptop_effect_of c k.laptop k.memory out).step.laptop; memory = (laptop_effect_of c k.laptop k.memory out).after }

abbrev pub laptop_answers : List (LaptopCall × List ℕ) → LaptopKept → List Answer
laptop_answers [] k = []
laptop_answers (c ∷ rest) k =
    answer_on_side (laptop_effect_of c.0 k.laptop k.memory c.1) ∷ laptop_answers rest (laptop_by c.0 c.1 k)
