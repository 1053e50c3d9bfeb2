-- `text::line::Line::words` meets its contract. The line has the words so far.
use Rattle.std.proofs.Common.{◌≡◌, take}
use Rattle.text.specs.Said.{said}
use Rattle.text.specs.Text.{with_text, hex_words}
use Rattle.text.proofs.buffer.Line.words.Given as goal

abbrev pub invariant-loop-word : goal.invariant-loop-word
invariant-loop-word g l = said l.self ≡ with_text g.row.N (said l.initial.self) (hex_words (take l.word-index l.words))
