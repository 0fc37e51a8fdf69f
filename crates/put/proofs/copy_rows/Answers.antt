-- The rows copied are a table's.
use Rattle.put.proofs.Rows.{copied-rows}
use Rattle.put.proofs.copy_rows.Goals as goal

pub returns : goal.returns
returns c = copied-rows c.args.to.now c.args.rows.now _ c.args.at c.args.from c.args.n c.requires.0 c.requires.1 c.copy_to.ensures
