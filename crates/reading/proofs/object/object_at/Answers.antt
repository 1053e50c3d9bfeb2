-- `object_at` meets its promise: past the end there is no object, and else the bytes it joins are those of object i.
use mathlib.Core.Path.{◌∙◌, sym}
use native.Mathlib.Omega.{arith}
use Rattle.messages.proofs.Objects.{object_at, object_past, object_le}
use Rattle.reading.proofs.object.object_at.Goals as goal

pub returns-then-bytes-i : goal.returns-then-bytes-i
returns-then-bytes-i c = sym (object_past c.args.bytes.now c.args.i (omega (arith, c.if-bytes-i.true)))

pub returns : goal.returns
returns c = c.from_le_bytes.ensures ∙ object_le _ _ _ _ ∙ sym (object_at c.args.bytes.now c.args.i (omega (arith, c.if-bytes-i.false)))
