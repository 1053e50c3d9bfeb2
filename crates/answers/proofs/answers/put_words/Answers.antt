-- `put_words` meets its promise.
use mathlib.Core.Path.{ap, ◌∙◌}
use mathlib.Core.List.{List}
use Prim.Native.Nat.{ℕ, ◌+◌}
use lib.ListN.{length, take, set, get_or}
use lib.Seq.{sets, take_all, length-sets}
use Rattle.laws.proofs.Stores.{sets_next}
use Rattle.answers.proofs.answers.put_words.Goals as goal

pub loop-i-preserved : goal.loop-i-preserved
loop-i-preserved c =
    let a = c.args in
    let i = c.loop-i.i in
    c.put_word.ensures ∙ ap (λ (l : List ℕ). set l (a.at + i) (get_or a.words.now i 0)) c.loop-i.invariant ∙
    sets_next a.run.now a.at i a.words.now 0 c.loop-i-test.true

pub shape_of-run : goal.shape_of-run
shape_of-run c =
    let a = c.args in
    ap length c.loop-i.invariant ∙ length-sets a.run.now a.at (take c.loop-i.i a.words.now)

pub returns : goal.returns
returns c =
    let a = c.args in
    c.loop-i.invariant ∙ ap (sets a.run.now a.at) (take_all c.loop-i.i a.words.now c.loop-i-test.false)
