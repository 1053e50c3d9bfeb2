-- The loop of `go`: the walk from where it stands comes to what the walk from the front comes to.
use Prim.Native.Nat.{suc, ◌-◌}
use lib.ListN.{length}
use Rattle.judging.proofs.Underway.{Underway}
use Rattle.judging.proofs.walk.Walk.go.Given as goal

abbrev pub invariant-loop-self : goal.invariant-loop-self
invariant-loop-self l = Underway l.bytes l.svids l.numbers l.self

abbrev pub decreases-loop-self : goal.decreases-loop-self
decreases-loop-self l = suc (length l.bytes) - l.self.at
