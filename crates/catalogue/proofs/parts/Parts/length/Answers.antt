-- `length` meets its promise.
use native.Mathlib.Omega.{arith}
use Rattle.catalogue.specs.Parts.{catalogue_in_parts}
use Rattle.catalogue.proofs.Lengths.{length_catalogue, from_most}
use Rattle.catalogue.proofs.parts.Parts.length.Goals as goal

pub overflow_add-result : goal.overflow_add-result
overflow_add-result c =
    let p = c.args.self in
    omega (arith, from_most p.modes.now p.run.now 0 p.svids.now, c.entries_length.ensures, p.few_objects, p.few_svids)

pub overflow_add-result-2 : goal.overflow_add-result-2
overflow_add-result-2 c =
    let p = c.args.self in
    omega (arith, from_most p.modes.now p.run.now 0 p.svids.now, c.entries_length.ensures, p.few_objects, p.few_svids)

pub returns : goal.returns
returns c =
    let p = c.args.self in
    let size = length_catalogue (catalogue_in_parts p) in
    omega (arith, size, from_most p.modes.now p.run.now 0 p.svids.now, c.entries_length.ensures, p.few_objects, p.few_svids)
