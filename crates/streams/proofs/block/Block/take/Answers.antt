use Rattle.std.proofs.Common.{◌≡◌, ℕ, ◌+◌, ◌-◌, ◌≤◌, List, take, drop, ap, sym, ◌∙◌, arith}
use Rattle.std.proofs.lemmas.List.{drop-drop, drop-take}
use Rattle.streams.proofs.block.Block.take.Goals as goal

-- the unread bytes without the first of them
taken : (start end count : ℕ) (bytes : List ℕ) → count ≤ end - start → take (end - (start + count)) (drop (start + count) bytes) ≡ drop count (take (end - start) (drop start bytes))
taken start end count bytes within =
    let rest = end - (start + count) in
    let split : count + rest ≡ end - start = omega arith in
    ap (take rest) (sym (drop-drop count start bytes))
    ∙ sym (drop-take count rest (drop start bytes))
    ∙ ap (λ n. drop count (take n (drop start bytes))) split

pub returns-then-count-self-clause-taken : goal.returns-then-count-self-clause-taken
returns-then-count-self-clause-taken g c within =
    let block = c.self.inside in
    taken block.start block.end c.args.count block.bytes c.if-count-self.true ∙ ap (drop c.args.count) c.self.view_is
