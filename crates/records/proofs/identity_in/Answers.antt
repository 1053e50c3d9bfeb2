-- `identity_in` meets its promise.
use mathlib.Core.Path.{sym}
use native.Mathlib.Omega.{arith}
use Rattle.records.proofs.Finding.{identity_cut, identity_whole}
use Rattle.records.proofs.identity_in.Goals as goal

pub returns-then-bytes-length : goal.returns-then-bytes-length
returns-then-bytes-length c =
    sym (identity_cut c.args.bytes.now c.requires.0 c.args.kind c.requires.1 c.requires.2 (omega (arith, c.if-bytes-length.true, c.from.ensures)))

pub returns : goal.returns
returns c =
    rw c.from.ensures
    (sym (identity_whole c.args.bytes.now c.requires.0 c.args.kind c.requires.1 c.requires.2 (omega (arith, c.if-bytes-length.false, c.from.ensures))))
