-- `svids_from` meets its promise.
use mathlib.Core.Path.{◌≡◌}
use mathlib.Core.List.{List, ◌++◌}
use Prim.Native.Nat.{ℕ}
use lib.ListN.{length, drop, replicate}
use Rattle.std.proofs.lemmas.List.{drop-replicate}
use Rattle.dock.specs.Data.{in_array}
use Rattle.loading.proofs.list.svids_from.Goals as goal

filled : (list part : List ℕ) → part ≡ list → part ++ drop (length list) (replicate 72 0) ≡ in_array list
filled list part is = simp (is, drop-replicate)

pub returns : goal.returns
returns c = filled c.args.list.now _ c.copy_from_slice.ensures.after
