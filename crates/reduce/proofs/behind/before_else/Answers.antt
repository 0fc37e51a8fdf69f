-- By the kind of the condition.
use mathlib.Core.Path.{◌≡◌}
use native.Mathlib.Omega.{arith}
use Rattle.layout.specs.Rows.{row_table}
use Rattle.layout.proofs.Tables.{row-table-length}
use Rattle.meaning.specs.Terms.{kind_no}
use Rattle.reduce.specs.Plan.{row_no}
use Rattle.reduce.proofs.Standing.{if-second, then-inside, else-stands}
use Rattle.reduce.proofs.behind.before_else.Goals as goal

pub row_of-requires : goal.row_of-requires
row_of-requires c = if-second (row_table c.args.rows.now) c.requires.0.inside c.requires.1

pub end_of-requires : goal.end_of-requires
end_of-requires c =
    let k : kind_no (row_no (row_table c.args.rows.now) 1) ≡ 4 = grind arith in
    (c.requires.0.few, omega (arith, then-inside (row_table c.args.rows.now) c.requires.0.inside c.requires.1 k, row-table-length c.args.rows.now))

pub returns-then-is : goal.returns-then-is
returns-then-is c =
    let k : kind_no (row_no (row_table c.args.rows.now) 1) ≡ 4 = grind arith in
    (omega arith, else-stands (row_table c.args.rows.now) c.requires.0.inside c.requires.1 k _ c.end_of.ensures)
