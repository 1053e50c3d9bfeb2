-- `word_number` meets its promise.
use Rattle.std.proofs.Common.{◌≡◌, rules}
use Rattle.catalogue.proofs.Records.{number_mode, number_object}
use Rattle.catalogue.proofs.numbers.word_number.Goals as goal

pub returns-then-size-eq-MODE_SIZE : goal.returns-then-size-eq-MODE_SIZE
returns-then-size-eq-MODE_SIZE c =
    let word : c.from.result ≡ c.args.word = search rules in
    rw word (number_mode c.args.size c.args.word c.if-size-eq-MODE_SIZE.true)

pub returns-else-size-eq-MODE_SIZE : goal.returns-else-size-eq-MODE_SIZE
returns-else-size-eq-MODE_SIZE c =
    let word : c.from-else-size-eq-MODE_SIZE.result ≡ c.args.word = search rules in
    rw word (number_object c.args.size c.args.word c.if-size-eq-MODE_SIZE.false)
