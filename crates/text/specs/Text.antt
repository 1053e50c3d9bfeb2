-- What a line of output says, as the list of its bytes.
use Rattle.std.specs.Prelude.{ℕ, List, [], ◌∷◌, ◌++◌, ◌-◌, ◌/◌, ◌%◌, length, take, true}
use Rattle.std.specs.List.{flat_map}
use Rattle.std.specs.Fmt.{decimal, digit_glyph}
use Rattle.std.specs.Int.{to_be_bytes, w32}

-- a line with room for n bytes, once a text is added to what it said: what finds no room is left out
abbrev pub with_text : ℕ → List ℕ → List ℕ → List ℕ
with_text n said text = said ++ take (n - length said) text

-- a text with a space before it
abbrev pub spaced : List ℕ → List ℕ
spaced text = 32 ∷ text

-- an edition by its number: 21 is 2.1
abbrev pub edition_text : ℕ → List ℕ
edition_text number = decimal (number / 10) ++ 46 ∷ decimal (number % 10)

-- the two digits of a byte
abbrev pub hex : ℕ → List ℕ
hex byte = digit_glyph true (byte / 16) ∷ digit_glyph true (byte % 16) ∷ []

abbrev pub hex_bytes : List ℕ → List ℕ
hex_bytes bytes = flat_map hex bytes

abbrev pub hex_word : ℕ → List ℕ
hex_word word = hex_bytes (to_be_bytes w32 word)

-- a space before each word
abbrev pub hex_words : List ℕ → List ℕ
hex_words words = flat_map (λ word. spaced (hex_word word)) words
