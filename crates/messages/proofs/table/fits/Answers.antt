-- `fits` meets its promise, one way out of the rule after the other.
use native.Mathlib.Omega.{arith}
use Rattle.messages.proofs.Rows.{fits_few, fits_many, fits_before, fits_past, fits_below, fits_svid}
use Rattle.messages.proofs.table.fits.Goals as goal

pub returns-then-count-counts : goal.returns-then-count-counts
returns-then-count-counts c = let a = c.args in fits_few a.row a.head a.count (omega (arith, c.counts_of-counts.ensures))

pub returns-then-counts-count : goal.returns-then-counts-count
returns-then-counts-count c = let a = c.args in
    let e = c.counts_of-counts.ensures in
    fits_many a.row a.head a.count (omega (arith, e)) (omega (arith, e))

pub returns-then-head-row : goal.returns-then-head-row
returns-then-head-row c = let a = c.args in
    let e = c.counts_of-counts.ensures in
    fits_before a.row a.head a.count (omega (arith, e)) (omega (arith, e)) c.if-head-row.true

pub returns-then-row-head : goal.returns-then-row-head
returns-then-row-head c = let a = c.args in
    let e = c.counts_of-counts.ensures in
    fits_past a.row a.head a.count (omega (arith, e)) (omega (arith, e)) c.if-head-row.false c.if-row-head.true

pub returns-then-head-row-2 : goal.returns-then-head-row-2
returns-then-head-row-2 c = let a = c.args in
    let e = c.counts_of-counts.ensures in
    fits_below a.row a.head a.count (omega (arith, e)) (omega (arith, e)) c.if-head-row.false c.if-row-head.false c.if-head-row-2.true

pub returns : goal.returns
returns c = let a = c.args in
    let e = c.counts_of-counts.ensures in
    fits_svid a.row a.head a.count (omega (arith, e)) (omega (arith, e)) c.if-head-row.false c.if-row-head.false c.if-head-row-2.false
