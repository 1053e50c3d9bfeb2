use Rattle.std.proofs.Common.{ap, ap₂, ◌∙◌, ◌∷◌, []}
use Rattle.text.specs.Said.{said}
use Rattle.text.specs.Text.{with_text, hex}
use Rattle.text.proofs.Text.{with_both, with_next}
use Rattle.text.proofs.buffer.Line.bytes.Goals as goal

pub loop-byte-preserved : goal.loop-byte-preserved
loop-byte-preserved g c =
    let high = c.digit.result in
    let low = c.digit-in-loop-byte.result in
    c.byte-in-loop-byte.ensures
    ∙ ap (λ before. with_text g.row.N before (low ∷ [])) c.byte.ensures
    ∙ with_both g.row.N (said c.loop-byte.self) (high ∷ []) (low ∷ [])
    ∙ ap₂ (λ before text. with_text g.row.N before text) c.loop-byte.invariant
    (ap₂ (λ high low. high ∷ low ∷ []) c.digit.ensures c.digit-in-loop-byte.ensures)
    ∙ with_next g.row.N (said c.args.self.now) hex c.args.bytes.now c.loop-byte.byte-index c.loop-byte-test.true
