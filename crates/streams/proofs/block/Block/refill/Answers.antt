use Rattle.std.proofs.Common.{◌≡◌, ℕ, ◌+◌, ◌-◌, ◌≤◌, List, ◌++◌, take, drop, length, ap, ◌∙◌, arith, length-drop}
use Rattle.std.proofs.lemmas.List.{length-take-le}
use Rattle.std.proofs.lemmas.List.Edits.{take-paste}
use Rattle.std.proofs.Math.Seq.{paste, take-append-add}
use Rattle.streams.proofs.block.Block.refill.Goals as goal

-- the bytes that are kept, and those that are read behind them
read_behind : (kept more : ℕ) (front rest unread : List ℕ) → length front ≡ kept → front ≡ unread → take (kept + more - 0) (front ++ rest) ≡ unread ++ take more rest
read_behind kept more front rest unread all same =
    let count : kept + more - 0 ≡ length front + more = omega arith in
    ap (λ n. take n (front ++ rest)) count ∙ take-append-add front rest more ∙ ap (λ l. l ++ take more rest) same

-- the bytes that are moved to the front
moved_to_front : (kept : ℕ) (bytes part : List ℕ) → kept ≤ length part → take kept (paste bytes 0 part kept) ≡ take kept part
moved_to_front kept bytes part within =
    let all : kept ≡ 0 + kept = omega arith in
    ap (λ n. take n (paste bytes 0 part kept)) all ∙ take-paste bytes 0 part kept (omega arith) within

pub returns : goal.returns
returns g c =
    let block = c.self.inside in
    let kept = block.end - block.start in
    let copied = c.copy_within.new.self in
    let within : kept ≤ length (drop block.start block.bytes) = simp length-drop (omega (arith, c.self.told, c.self.invariant.0, c.self.invariant.1)) in
    let moved = ap (take kept) c.copy_within.ensures.after ∙ moved_to_front kept block.bytes (drop block.start block.bytes) within in
    let all = length-take-le kept copied (omega (arith, c.self.told, c.self.invariant.0, c.self.invariant.1, c.copy_within.ensures.len)) in
    (_, read_behind kept c.read_full.result (take kept copied) _ c.args.self.now all (moved ∙ c.self.view_is))
