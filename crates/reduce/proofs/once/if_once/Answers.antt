-- The second tree copied.
use Rattle.layout.specs.Rows.{row_table}
use native.Mathlib.Omega.{arith}
use Rattle.layout.proofs.Tables.{row-table-length}
use Rattle.reduce.proofs.AtOnce.{then-in, else-in, then-once}
use Rattle.reduce.proofs.once.if_once.Goals as goal

pub end_of-end-requires : goal.end_of-end-requires
end_of-end-requires c =
    let T = row_table c.args.rows.now in
    let R = c.requires.0 in
    (omega (arith, R.few, row-table-length c.args.rows.now), omega (arith, then-in T R.exact R.inside c.requires.1 c.requires.2, row-table-length c.args.rows.now))

pub end_of-old-requires : goal.end_of-old-requires
end_of-old-requires c =
    let T = row_table c.args.rows.now in
    let R = c.requires.0 in
    (omega (arith, R.few, row-table-length c.args.rows.now), omega (arith, R.inside, else-in T R.exact R.inside c.requires.1 c.requires.2 _ c.end_of-end.ensures, row-table-length c.args.rows.now))

pub copy_rows-requires : goal.copy_rows-requires
copy_rows-requires c =
    let T = row_table c.args.rows.now in
    let R = c.requires.0 in
    (omega (arith, c.if-term_rows-n.false, c.term_rows.ensures), omega (arith, c.end_of-end.ensures, then-in T R.exact R.inside c.requires.1 c.requires.2, row-table-length c.args.rows.now))

pub returns : goal.returns
returns c =
    let T = row_table c.args.rows.now in
    let R = c.requires.0 in
    λ form. then-once T R.exact R.inside c.requires.1 c.requires.2 _ c.end_of-end.ensures form (row_table c.args.to.now) _ _ c.end_of-old.ensures (omega (arith, c.if-term_rows-n.false, c.term_rows.ensures, row-table-length c.args.to.now)) c.copy_rows.ensures
