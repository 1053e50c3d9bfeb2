use Rattle.std.proofs.Common.{ap, sym, ◌∙◌}
use Rattle.std.proofs.lemmas.Fmt.{decimal_digit}
use Rattle.text.specs.Said.{said}
use Rattle.text.specs.Text.{with_text}
use Rattle.text.proofs.buffer.Line.decimal.Goals as goal

-- src/line.rt
pub returns-then-number-lt10 : goal.returns-then-number-lt10
returns-then-number-lt10 g c =
    c.byte.ensures ∙ ap (with_text g.row.N (said c.args.self.now)) (sym (decimal_digit c.args.number c.if-number-lt10.true))
