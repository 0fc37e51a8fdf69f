-- By the function and its names.
use Rattle.layout.specs.Rows.{row_table}
use Rattle.reduce.proofs.Given.{fix-more}
use Rattle.reduce.proofs.puts.ties.Goals as goal

pub row_of-function-requires : goal.row_of-function-requires
row_of-function-requires c = fix-more (row_table c.args.rows.now) c.requires.0.exact c.requires.0.inside c.requires.1
