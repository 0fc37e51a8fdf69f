-- The rows passed are none of the names and hide none.
use Prim.Native.Nat.{◌-◌}
use lib.ListN.{length}
use Rattle.layout.specs.Rows.{row_table}
use Rattle.put.specs.Put.{Clear, Skips}
use Rattle.put.proofs.skip_until.Given as goal

abbrev pub invariant-loop-owed : goal.invariant-loop-owed
invariant-loop-owed g l = Skips (Clear l.x) (row_table l.rows) l.initial.i l.initial.owed l.i l.owed

abbrev pub decreases-loop-owed : goal.decreases-loop-owed
decreases-loop-owed g l = length (row_table l.rows) - l.i
