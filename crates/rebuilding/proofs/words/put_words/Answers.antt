-- `put_words` meets its promise: what is left, put from where the loop stands, gives what all of it gives at the start.
use Rattle.rebuilding.proofs.Putting.{words_start, words_next, words_end}
use Rattle.rebuilding.proofs.words.put_words.Goals as goal

pub loop-i-init : goal.loop-i-init
loop-i-init c = words_start _ _ _ _ _

pub loop-i-preserved : goal.loop-i-preserved
loop-i-preserved c = words_next _ _ _ _ _ _ _ c.loop-i.invariant c.loop-i-test.true _ c.word_at.ensures _ c.put_word.ensures

pub returns : goal.returns
returns c = words_end _ _ _ _ _ _ _ c.loop-i.invariant c.loop-i-test.false
