-- Entered modes: a set bit per position (01, "The laptop end").
use Rattle.std.specs.Prelude.{ℕ, suc, ◌-◌, ◌%◌, ◌^◌, Bool, cond, not, ◌&&◌, List, [], ◌∷◌, leb, ltb, eqb, length, get_or, set, Option}
use Rattle.std.specs.Int.Bits.{bit_and, bit_or}
use Rattle.std.specs.Int.Count.{ones}
use Rattle.messages.specs.Requests.{enter_command}
use Rattle.laptop.specs.Catalogue.{held_list}
use Rattle.laptop.specs.declared.Size.{Size}

-- the place of an SVID in a list, or the list's length where it is not in it
unfoldable pub place_of : ℕ → List ℕ → ℕ
place_of svid [] = 0
place_of svid (s ∷ list) = cond (eqb s svid) 0 (suc (place_of svid list))

-- what a position names: bit p - 1 for 1 to 6, and all six for 7
abbrev pub all_positions : ℕ
all_positions = 63

unfoldable pub named : ℕ → ℕ
named position = cond (leb 1 position && leb position 6) (2 ^ (position - 1)) (cond (eqb position 7) all_positions 0)

-- of a set the low six bits count
abbrev pub six_bits : ℕ → ℕ
six_bits sets = sets % 64

unfoldable pub is_entered : List ℕ → ℕ → ℕ → Bool
is_entered entered place position = not (eqb (bit_and (get_or entered place 0) (named position)) 0)

-- Enter marks the mode, Exit unmarks it, or all of that SVID
unfoldable pub marked_by : ℕ → ℕ → ℕ → ℕ
marked_by command position sets =
    cond (eqb command enter_command) (bit_or sets (named position)) (bit_and sets (all_positions - named position))

unfoldable pub marks_after : List ℕ → List ℕ → ℕ → ℕ → ℕ → List ℕ
marks_after list entered svid command position =
    cond (ltb (place_of svid list) (length list))
    (set entered (place_of svid list) (marked_by command position (get_or entered (place_of svid list) 0))) entered

-- the report: how many there are, 0 if not held
unfoldable pub reported : Option Size → List ℕ → List ℕ → ℕ → ℕ
reported held held_svids entered svid =
    cond (ltb (place_of svid (held_list held held_svids)) (length (held_list held held_svids)))
    (ones (six_bits (get_or entered (place_of svid (held_list held held_svids)) 0))) 0
