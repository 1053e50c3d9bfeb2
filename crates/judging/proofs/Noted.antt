-- What passing a record gives, told from the variant that it is.
use mathlib.Core.Path.{◌≡◌, ap, sym, ◌∙◌}
use mathlib.Core.List.{List}
use Prim.Native.Nat.{ℕ}
use Rattle.records.specs.declared.Record.{Record}
use Rattle.judging.specs.Noting.{walk_behind, svids_noted, numbers_noted}
use Rattle.judging.specs.declared.walk.Walk.{Walk}

pub noted_as : (w : Walk) (n : ℕ) (svids numbers : List ℕ) (r variant : Record) → r ≡ variant → (result : Walk) (list counts : List ℕ) →
    result ≡ walk_behind w variant n → list ≡ svids_noted w variant svids → counts ≡ numbers_noted w variant numbers →
    (result ≡ walk_behind w r n) × (list ≡ svids_noted w r svids) × (counts ≡ numbers_noted w r numbers)
noted_as w n svids numbers r variant e result list counts er es en =
    (er ∙ sym (ap (λ (x : Record). walk_behind w x n) e), es ∙ sym (ap (λ (x : Record). svids_noted w x svids) e), en ∙ sym (ap (λ (x : Record). numbers_noted w x numbers) e))
