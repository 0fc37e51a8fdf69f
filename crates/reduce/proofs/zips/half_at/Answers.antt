-- By the mask, and by the half.
use native.Mathlib.Omega.{arith}
use Rattle.layout.specs.Rows.{row_table}
use Rattle.layout.proofs.Tables.{row-table-length}
use Rattle.reduce.proofs.Parted.{half-whole, head-ends, half-tail, half-head}
use Rattle.reduce.proofs.zips.half_at.Goals as goal

pub returns-then-h-ne1 : goal.returns-then-h-ne1
returns-then-h-ne1 c =
    let T = row_table c.args.rows.now in
    let R = c.requires.0 in
    half-whole T R.exact c.args.at c.args.h c.requires.2 c.args.tails _ c.if-h-ne1.true c.requires.1

pub overflow_add-at : goal.overflow_add-at
overflow_add-at c =
    let R = c.requires.0 in
    omega (arith, c.requires.2, R.few, row-table-length c.args.rows.now)

pub end_of-t-requires : goal.end_of-t-requires
end_of-t-requires c =
    let T = row_table c.args.rows.now in
    let R = c.requires.0 in
    (omega (arith, R.few), omega (arith, head-ends T R.exact c.args.at c.args.h c.requires.2 c.if-h-ne1.false c.requires.3, row-table-length c.args.rows.now))

pub returns-then-tails : goal.returns-then-tails
returns-then-tails c =
    let T = row_table c.args.rows.now in
    let R = c.requires.0 in
    rw c.if-tails.true (half-tail T R.exact c.args.at c.args.h c.requires.2 c.if-h-ne1.false c.requires.3 _ _ c.end_of-t.ensures c.requires.1)

pub returns : goal.returns
returns c =
    let T = row_table c.args.rows.now in
    let R = c.requires.0 in
    rw c.if-tails.false (half-head T R.exact c.args.at c.args.h c.requires.2 c.if-h-ne1.false c.requires.3 _ c.end_of-t.ensures)
