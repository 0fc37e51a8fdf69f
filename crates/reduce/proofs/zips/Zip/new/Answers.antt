-- By the first two rows.
use Rattle.layout.specs.Rows.{row_table}
use Rattle.reduce.proofs.Roots.{whole_in, some-row}
use Rattle.reduce.proofs.Given.{call-more}
use Rattle.reduce.proofs.zips.Zip.new.Goals as goal

pub row_of-requires : goal.row_of-requires
row_of-requires c = some-row (row_table c.args.rows.now) (whole_in c.requires.0.one)

pub row_of-requires-2 : goal.row_of-requires-2
row_of-requires-2 c = call-more (row_table c.args.rows.now) c.requires.0.exact (whole_in c.requires.0.one) c.requires.1.0
