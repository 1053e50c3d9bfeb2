-- `put_number` meets its promise.
use mathlib.Core.Path.{◌≡◌, ap, sym, ◌∙◌}
use Prim.Native.Nat.{ℕ, ◌+◌}
use native.Mathlib.Omega.{arith}
use lib.ListN.{take}
use Rattle.laws.proofs.Stores.{put_part}
use Rattle.catalogue.specs.Records.{low_first}
use Rattle.catalogue.proofs.Records.{length_low, low_taken}
use Rattle.catalogue.proofs.numbers.put_number.Goals as goal

pub returns : goal.returns
returns c =
    let args = c.args in
    let size = length_low args.size args.number in
    let bytes : c.copy_from_slice.new.self ≡ low_first args.size args.number =
    c.copy_from_slice.ensures.after ∙ ap (take args.size) c.to_le_bytes.ensures ∙ low_taken args.size args.number c.requires.few in
    record {
      ends = ap (λ (n : ℕ). args.at + n) (sym size);
      stored = put_part args.at _ args.out.now _ _ bytes (omega (arith, size)) (omega (arith, size, c.requires.room));
    }
