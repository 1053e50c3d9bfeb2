-- The loop of `put_words`: the words from the next on are left to store.
use lib.ListN.{drop}
use Rattle.catalogue.specs.Records.{words_bytes}
use Rattle.catalogue.proofs.Storing.{Storing}
use Rattle.catalogue.proofs.numbers.put_words.Given as goal

abbrev pub invariant-loop-word : goal.invariant-loop-word
invariant-loop-word l = Storing l.initial.out l.at (words_bytes l.size l.words) l.out l.place (words_bytes l.size (drop l.word-index l.words))
