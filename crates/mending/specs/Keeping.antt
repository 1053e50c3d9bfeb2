-- What is kept, by a walk that stands at the fault.
use Rattle.std.specs.Prelude.{ℕ, ◌+◌, ◌*◌, ◌-◌, cond}
use Rattle.judging.specs.Walking.{is_bare}
use Rattle.judging.specs.declared.walk.Walk.{Walk}
use Rattle.mending.specs.declared.keeping.Kept.{Kept}

-- all SVIDs that it has passed, less the last where it has no modes
unfoldable pub svids_kept : Walk → ℕ
svids_kept walk = cond (is_bare walk) (walk.count - 1) walk.count

-- 4 bytes an identity object, 3 an SVID, 5 a mode, and the kinds of the identity and of the end
unfoldable pub kept_by_of : Walk → Kept
kept_by_of walk = record {
  svids = svids_kept walk;
  modes = walk.modes;
  length = 2 + walk.extent * 4 + svids_kept walk * 3 + walk.modes * 5;
}
