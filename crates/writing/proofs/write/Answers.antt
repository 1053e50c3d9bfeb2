-- `write` meets its promise: its ways out are the definition's, and nothing is stored before the last test.
use mathlib.Core.Path.{◌∙◌, ap, sym}
use Prim.Native.Nat.{ℕ, ◌≤◌}
use native.Mathlib.Omega.{arith}
use lib.ListN.{length}
use lib.Seq.{sets}
use Rattle.messages.specs.Layout.{Message, bytes_of_object, message_length}
use Rattle.messages.specs.Writing.{well_shaped}
use Rattle.messages.proofs.Rule.{shape_command, shape_kind, shape_position}
use Rattle.messages.proofs.Stores.{store_message, write_shape, write_short, write_whole, shape_many}
use Rattle.writing.proofs.write.Goals as goal

pub returns-then-n-gt6 : goal.returns-then-n-gt6
returns-then-n-gt6 c = write_shape c.args.edition _ c.args.out.now (shape_many _ c.if-n-gt6.true)

pub returns-then-not-shape : goal.returns-then-not-shape
unfolding well_shaped
returns-then-not-shape c = let m : Message = record { head = c.args.head; objects = c.args.objects.now } in
    write_shape c.args.edition m c.args.out.now (sym c.shape.ensures ∙ c.if-not-shape.true)

pub returns-then-out-n : goal.returns-then-out-n
unfolding well_shaped
returns-then-out-n c = let m : Message = record { head = c.args.head; objects = c.args.objects.now } in
    write_short c.args.edition m c.args.out.now (sym c.shape.ensures ∙ c.if-not-shape.false) (omega (arith, c.if-out-n.true))

pub header_of-requires : goal.header_of-requires
header_of-requires c = let h = c.args.head in
    let good = sym c.shape.ensures ∙ c.if-not-shape.false in
    (shape_command h _ good, shape_kind h _ good, shape_position h _ good)

pub returns : goal.returns
unfolding well_shaped
returns c = let m : Message = record { head = c.args.head; objects = c.args.objects.now } in
    let out = c.args.out.now in
    let room : message_length m ≤ length out = omega (arith, c.if-out-n.false) in
    write_whole c.args.edition m out (sym c.shape.ensures ∙ c.if-not-shape.false) room _
    (store_message c.args.edition m out _ _ room (c.put_object.ensures ∙ ap (λ (w : ℕ). sets out 0 (bytes_of_object w)) c.header_of.ensures) c.put_objects.ensures)
