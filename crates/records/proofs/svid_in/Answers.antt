-- `svid_in` meets its promise.
use mathlib.Core.Path.{◌≡◌, ap, sym, ◌∙◌}
use lib.ListN.{drop}
use Prim.Native.Nat.{ℕ}
use lib.Seq.{get_or-drop}
use Rattle.records.specs.Records.{svid_in}
use Rattle.records.specs.Records.{Whole}
use Rattle.records.specs.declared.Record.TheVariants.{Svid}
use Rattle.records.proofs.Finding.{svid_cut, svid_whole}
use Rattle.records.proofs.svid_in.Goals as goal

pub returns-then-bytes-lt-SVID_RECORD : goal.returns-then-bytes-lt-SVID_RECORD
returns-then-bytes-lt-SVID_RECORD c =
    sym (svid_cut c.args.bytes.now c.requires.0 c.requires.1 c.if-bytes-lt-SVID_RECORD.true)

pub returns : goal.returns
unfolding svid_in
returns c =
    let svid : c.from_le_bytes.result ≡ svid_in (drop 1 c.args.bytes.now) = c.from_le_bytes.ensures ∙ simp get_or-drop in
    ap (λ (n : ℕ). Whole (Svid n) 3) svid ∙ sym (svid_whole c.args.bytes.now c.requires.0 c.requires.1 c.if-bytes-lt-SVID_RECORD.false)
