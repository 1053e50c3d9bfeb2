-- `text::line::Line::bytes` meets its contract. The line has the bytes so far.
use Rattle.std.proofs.Common.{◌≡◌, take}
use Rattle.text.specs.Said.{said}
use Rattle.text.specs.Text.{with_text, hex_bytes}
use Rattle.text.proofs.buffer.Line.bytes.Given as goal

abbrev pub invariant-loop-byte : goal.invariant-loop-byte
invariant-loop-byte g l = said l.self ≡ with_text g.row.N (said l.initial.self) (hex_bytes (take l.byte-index l.bytes))
