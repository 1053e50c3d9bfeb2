-- `mode_in` meets its promise.
use mathlib.Core.List.{List}
use mathlib.Core.Path.{ap, sym, ◌∙◌}
use Prim.Native.Nat.{ℕ}
use lib.ListN.{get_or}
use Rattle.messages.specs.Layout.{objects_of}
use Rattle.pages.proofs.Scanning.{rest_part}
use Rattle.records.specs.Records.{mode_in}
use Rattle.records.specs.Records.{Whole}
use Rattle.records.specs.declared.Record.TheVariants.{Mode}
use Rattle.records.proofs.Finding.{mode_cut, mode_whole}
use Rattle.records.proofs.mode_in.Goals as goal

pub returns-then-bytes-lt-MODE_RECORD : goal.returns-then-bytes-lt-MODE_RECORD
returns-then-bytes-lt-MODE_RECORD c =
    sym (mode_cut c.args.bytes.now c.requires.0 c.requires.1 c.if-bytes-lt-MODE_RECORD.true)

pub returns : goal.returns
unfolding mode_in
returns c =
    ap (λ (n : ℕ). Whole (Mode n) 5) (c.object_at.ensures ∙ ap (λ (l : List ℕ). get_or (objects_of l) 0 0) (rest_part c.args.bytes.now 1)) ∙
    sym (mode_whole c.args.bytes.now c.requires.0 c.requires.1 c.if-bytes-lt-MODE_RECORD.false)
