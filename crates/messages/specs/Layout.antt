-- A message's bytes, objects and header (01, "Message layout").
use Rattle.std.specs.Prelude.{ℕ, ◌+◌, ◌*◌, ◌-◌, ◌/◌, ◌%◌, ◌^◌, ◌<◌, List, [], ◌∷◌, ◌++◌, length, get_or, set}
use Rattle.laws.specs.Bounded.{Below}
use Rattle.messages.specs.Editions.{major_of, minor_of, edition_of}
use Rattle.messages.specs.declared.Head.{Head}
use Rattle.messages.specs.declared.edition.Edition.{Edition}

-- bits high..low of an object
abbrev pub bits : ℕ → ℕ → ℕ → ℕ
bits high low w = w / 2 ^ low % 2 ^ (high - low + 1)

-- an object, least significant byte first
abbrev pub object_of : ℕ → ℕ → ℕ → ℕ → ℕ
object_of a b c d = a + b * 2 ^ 8 + c * 2 ^ 16 + d * 2 ^ 24

unfoldable pub bytes_of_object : ℕ → List ℕ
bytes_of_object w = bits 7 0 w ∷ bits 15 8 w ∷ bits 23 16 w ∷ bits 31 24 w ∷ []

-- the whole objects of a run of bytes
unfoldable pub objects_of : List ℕ → List ℕ
objects_of [] = []
objects_of (a ∷ []) = []
objects_of (a ∷ b ∷ []) = []
objects_of (a ∷ b ∷ c ∷ []) = []
objects_of (a ∷ b ∷ c ∷ d ∷ rest) = object_of a b c d ∷ objects_of rest

unfoldable pub bytes_of : List ℕ → List ℕ
bytes_of [] = []
bytes_of (w ∷ ws) = bytes_of_object w ++ bytes_of ws

-- the types
abbrev pub req : ℕ
req = 0

abbrev pub ack : ℕ
ack = 1

abbrev pub nak : ℕ
nak = 2

abbrev pub busy : ℕ
busy = 3

-- what the VDM header says
abbrev pub structured : ℕ → ℕ
structured w = bits 15 15 w

abbrev pub major : ℕ → ℕ
major w = bits 14 13 w

abbrev pub minor : ℕ → ℕ
minor w = bits 12 11 w

unfoldable pub edition_said : ℕ → Edition
edition_said w = edition_of (major w) (minor w)

-- bit 5, which is sent as 0 and means nothing when it is read (02, R-2)
abbrev pub reserved : ℕ → ℕ
reserved w = bits 5 5 w

unfoldable pub head_of : ℕ → Head
head_of w = record { svid = bits 31 16 w; command = bits 4 0 w; kind = bits 7 6 w; position = bits 10 8 w }

-- the header that is sent at an edition: structured, its major and minor, the reserved bit 0
unfoldable pub header_of : Edition → Head → ℕ
header_of e h = h.svid * 2 ^ 16 + 1 * 2 ^ 15 + major_of e * 2 ^ 13 + minor_of e * 2 ^ 11 + h.position * 2 ^ 8 + h.kind * 2 ^ 6 + h.command

-- a message: its head, and the objects after the header
pub record Message : Type 0 where
  pub head : Head
  pub objects : List ℕ

-- its numbers are as wide as the layout has them; that the others fit their fields is part of the shape
pub record Representable (m : Message) : Type 0 where
  pub svid_fits : m.head.svid < 2 ^ 16
  pub objects_fit : Below (2 ^ 32) m.objects

-- a message's bytes as it is sent at an edition, and how many there are
unfoldable pub message_bytes : Edition → Message → List ℕ
message_bytes e m = bytes_of (header_of e m.head ∷ m.objects)

abbrev pub message_length : Message → ℕ
message_length m = length m.objects * 4 + 4

-- the same bytes with the version bits in an edition's form: byte 1 has bit 15, major, minor and position
unfoldable pub with_version : Edition → List ℕ → List ℕ
with_version e b = set b 1 (bits 7 7 (get_or b 1 0) * 2 ^ 7 + major_of e * 2 ^ 5 + minor_of e * 2 ^ 3 + bits 2 0 (get_or b 1 0))

-- the same bytes with bit 5 of the header cleared, and set: it stands in byte 0
abbrev pub without_reserved : ℕ → ℕ
without_reserved byte = byte - reserved byte * 2 ^ 5

unfoldable pub with_reserved_clear : List ℕ → List ℕ
with_reserved_clear b = set b 0 (without_reserved (get_or b 0 0))

unfoldable pub with_reserved_set : List ℕ → List ℕ
with_reserved_set b = set b 0 (without_reserved (get_or b 0 0) + 2 ^ 5)
