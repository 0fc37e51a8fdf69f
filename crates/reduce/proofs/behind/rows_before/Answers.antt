-- By the kind of the first row.
use Rattle.layout.specs.Rows.{row_table}
use Rattle.reduce.proofs.Standing.{first-there}
use Rattle.reduce.proofs.behind.rows_before.Goals as goal

pub row_of-first-requires : goal.row_of-first-requires
row_of-first-requires c = first-there (row_table c.args.rows.now) c.requires.inside
