-- How a walk is kept: behind one record more, and what is noted of it.
use Rattle.std.specs.Prelude.{ℕ, ◌+◌, ◌-◌, List, set}
use Rattle.records.specs.declared.Record.{Record}
use Rattle.records.specs.declared.Record.TheVariants.{Identity, Svid, Mode, End}
use Rattle.judging.specs.declared.walk.Walk.{Walk}

-- before any record
abbrev pub front : Walk
front = record { at = 0; extent = 0; count = 0; last = 0; modes = 0 }

-- a record of so many bytes
unfoldable pub walk_behind : Walk → Record → ℕ → Walk
walk_behind w (Identity objects) n = record { at = w.at + n; extent = objects; count = w.count; last = w.last; modes = w.modes }
walk_behind w (Svid svid) n = record { at = w.at + n; extent = w.extent; count = w.count + 1; last = 0; modes = w.modes }
walk_behind w (Mode mode) n = record { at = w.at + n; extent = w.extent; count = w.count; last = w.last + 1; modes = w.modes + 1 }
walk_behind w End n = record { at = w.at + n; extent = w.extent; count = w.count; last = w.last; modes = w.modes }

unfoldable pub svids_noted : Walk → Record → List ℕ → List ℕ
svids_noted w (Identity objects) svids = svids
svids_noted w (Svid svid) svids = set svids w.count svid
svids_noted w (Mode mode) svids = svids
svids_noted w End svids = svids

unfoldable pub numbers_noted : Walk → Record → List ℕ → List ℕ
numbers_noted w (Identity objects) numbers = numbers
numbers_noted w (Svid svid) numbers = set numbers w.count 0
numbers_noted w (Mode mode) numbers = set numbers (w.count - 1) (w.last + 1)
numbers_noted w End numbers = numbers
