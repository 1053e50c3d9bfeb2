-- `put_words` meets its promise.
use Prim.Native.Nat.{◌+◌}
use native.Mathlib.Omega.{arith}
use lib.ListN.{drop}
use Rattle.catalogue.specs.Records.{low_first, words_bytes}
use Rattle.catalogue.proofs.Lengths.{words_next, words_end, word_fits}
use Rattle.catalogue.proofs.Storing.{storing_next, storing_end}
use Rattle.catalogue.proofs.numbers.put_words.Goals as goal

pub put_number-place-requires-clause-room : goal.put_number-place-requires-clause-room
put_number-place-requires-clause-room c =
    let args = c.args in
    let loop = c.loop-word in
    omega (arith, loop.invariant, c.requires.room, word_fits args.size args.words.now loop.word-index c.loop-word-test.true)

pub loop-word-preserved : goal.loop-word-preserved
loop-word-preserved c =
    let args = c.args in
    let words = args.words.now in
    let i = c.loop-word.word-index in
    let number = c.word_number in
    let left = words_next args.size words i c.loop-word-test.true number.result number.ensures in
    storing_next c.loop-word.invariant (low_first args.size number.result) (words_bytes args.size (drop (i + 1) words)) left c.put_number-place.ensures

pub returns : goal.returns
returns c = storing_end c.loop-word.invariant (words_end c.args.size c.args.words.now c.loop-word.word-index c.loop-word-test.false)
