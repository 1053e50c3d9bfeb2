-- `place_of` meets its promise.
use mathlib.Core.Path.{ap, ◌∙◌}
use Prim.Native.Nat.{ℕ}
use lib.ListN.{length}
use Rattle.std.proofs.Common.{unwrap_or}
use Rattle.std.specs.Prelude.{Option}
use Rattle.laptop.proofs.Marking.{place_is}
use Rattle.laptop.proofs.places.place_of.Goals as goal

pub returns : goal.returns
returns c = let a = c.args in
    c.unwrap_or.ensures ∙ ap (λ (o : Option ℕ). unwrap_or o (length a.list.now)) c.found_at.ensures ∙ place_is a.svid a.list.now
