-- Stores at a place of what is lent.
use lib.Seq.{set_out}
use Rattle.std.proofs.lemmas.Bool.Decides.{nat_tests}

-- what a store needs that may be past the end
pub ruleset put_steps = (set_out, nat_tests)
