-- Three rows, the function twice, and both halves.
use native.Mathlib.Omega.{arith}
use Rattle.layout.specs.Rows.{row_table}
use Rattle.layout.proofs.Tables.{row-table-length}
use Rattle.reduce.proofs.Zipping.{zips-halves, zips-length}
use Rattle.reduce.proofs.zips.count_full.Goals as goal

pub count_half-heads-requires : goal.count_half-heads-requires
count_half-heads-requires c = rw c.half_from.ensures (c.requires.0, zips-halves _ _ c.requires.1 _ c.requires.2, c.requires.2)

pub count_half-tails-requires : goal.count_half-tails-requires
count_half-tails-requires c = rw c.half_from-2.ensures (c.requires.0, zips-halves _ _ c.requires.1 _ c.requires.2, c.requires.2)

pub overflow_add-result : goal.overflow_add-result
overflow_add-result c = omega (arith, c.requires.1.whole, c.requires.0.few, row-table-length c.args.rows.now)

pub overflow_add-result-2 : goal.overflow_add-result-2
overflow_add-result-2 c = omega (arith, c.requires.1.whole, c.requires.0.few, row-table-length c.args.rows.now, c.count_half-heads.ensures.1)

pub overflow_add-result-3 : goal.overflow_add-result-3
overflow_add-result-3 c = omega (arith, c.requires.1.whole, c.requires.0.few, row-table-length c.args.rows.now, c.count_half-heads.ensures.1)

pub overflow_add-result-4 : goal.overflow_add-result-4
overflow_add-result-4 c = omega (arith, c.requires.1.whole, c.requires.0.few, row-table-length c.args.rows.now, c.count_half-heads.ensures.1, c.count_half-tails.ensures.1)

pub returns : goal.returns
returns c =
    let heads = rw c.half_from.ensures at c.count_half-heads.ensures in
    let tails = rw c.half_from-2.ensures at c.count_half-tails.ensures in
    λ form. omega (arith, zips-length (row_table c.args.rows.now) c.args.first c.requires.1 form, heads.0, tails.0)
