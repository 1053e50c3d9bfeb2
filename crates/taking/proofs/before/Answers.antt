-- `before` meets its promise: the first place of a zero, or else the end.
use mathlib.Core.Path.{◌≡◌, ◌∙◌}
use Prim.Native.Nat.{ℕ}
use borrow.Author.Tests.{tests}
use Rattle.std.specs.Prelude.{◌==◌}
use Rattle.std.specs.List.{position}
use Rattle.std.proofs.Common.{rules}
use Rattle.std.proofs.lemmas.Iterator.{YieldsList-from_slice}
use Rattle.std.proofs.lemmas.Iterator.Search.{position_from_yields_List}
use Rattle.taking.proofs.Judging.{first_zero}
use Rattle.taking.proofs.before.Goals as goal

pub returns : goal.returns
returns c =
    let found : c.position.result ≡ position (λ (x : ℕ). x == 0) c.args.values.now =
    position_from_yields_List (λ (x : ℕ). x == 0) _ _ c.position.result c.position.ensures.ran
    (YieldsList-from_slice c.args.values.now cc) (λ x b q k. search (rules, tests)) in
    c.unwrap_or.ensures ∙ first_zero c.args.values.now c.position.result found
