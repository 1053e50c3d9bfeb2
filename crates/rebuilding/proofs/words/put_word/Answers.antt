-- `put_word` meets its promise.
use mathlib.Core.Path.{sym}
use lib.Seq.{set_out}
use Rattle.rebuilding.proofs.words.put_word.Goals as goal

pub returns-else-place-run : goal.returns-else-place-run
returns-else-place-run c = sym (set_out c.args.run.now c.args.place c.args.word c.if-place-run.false)
