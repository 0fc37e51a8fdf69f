-- One row, or several.
use Rattle.search.specs.Kept.{copied}
use Rattle.search.proofs.copy_rows.Goals as goal

pub returns-then-n-eq1 : goal.returns-then-n-eq1
unfolding copied
returns-then-n-eq1 c = rw c.if-n-eq1.true c.copy_row.ensures

pub returns : goal.returns
unfolding copied
returns c = c.copy_to.ensures
