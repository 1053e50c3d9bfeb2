-- `dock_of` meets its promise.
use mathlib.Core.Path.{ap₂}
use mathlib.Core.List.{List}
use Prim.Native.Nat.{ℕ}
use lib.ListN.{length}
use Rattle.dock.specs.declared.Dock.{Dock}
use Rattle.dock.specs.Data.{loaded}
use Rattle.dock.specs.declared.Standing.TheVariants.{Ready}
use Rattle.loading.proofs.dock_of.Goals as goal

pub returns : goal.returns
unfolding loaded
returns c = let n = length c.args.identity.now in
    let k = length c.args.svids.now in
    let at = c.args.edition in
    let made : List ℕ → List ℕ → Dock =
    λ o s. record { identity = o; extent = n; svids = s; count = k; page = 0; edition = at; standing = Ready } in
    ap₂ made c.objects_from.ensures c.svids_from.ensures
