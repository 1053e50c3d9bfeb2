-- `objects_from` meets its promise.
use native.Mathlib.Omega.{arith}
use Rattle.std.proofs.lemmas.Grind.{common_steps}
use Rattle.laws.proofs.Padded.{padded_at}
use Rattle.loading.proofs.list.objects_from.Goals as goal

pub returns : goal.returns
returns c = grind (arith, common_steps, padded_at c.args.objects.now)
