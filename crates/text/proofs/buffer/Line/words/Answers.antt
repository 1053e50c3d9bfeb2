use Rattle.std.proofs.Common.{ap, get_or, ◌∙◌}
use Rattle.text.specs.Said.{said}
use Rattle.text.specs.Text.{with_text, spaced, hex_word}
use Rattle.text.proofs.Text.{with_next}
use Rattle.text.proofs.buffer.Line.words.Goals as goal

pub loop-word-preserved : goal.loop-word-preserved
loop-word-preserved g c =
    let word = spaced (hex_word (get_or c.args.words.now c.loop-word.word-index 0)) in
    c.spaced_word.ensures
    ∙ ap (λ before. with_text g.row.N before word) c.loop-word.invariant
    ∙ with_next g.row.N (said c.args.self.now) (λ word. spaced (hex_word word)) c.args.words.now c.loop-word.word-index c.loop-word-test.true
