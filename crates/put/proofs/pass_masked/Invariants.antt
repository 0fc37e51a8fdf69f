-- The loop's invariant: the rows taken and those left are all.
use Prim.Native.Nat.{◌-◌}
use lib.ListN.{length}
use Rattle.layout.specs.Rows.{row_table}
use Rattle.meaning.specs.Types.{form_of}
use Rattle.put.proofs.Taking.{Taking}
use Rattle.put.proofs.pass_masked.Given as goal

abbrev pub invariant-loop-owed : goal.invariant-loop-owed
invariant-loop-owed g l = Taking g.S.Sink.holds g.S.Sink.room g.S.Sink.loan (form_of l.types) (row_table l.rows) l.body l.names l.bounds l.masks l.owed l.i l.initial.sink l.sink

abbrev pub decreases-loop-owed : goal.decreases-loop-owed
decreases-loop-owed g l = length (row_table l.rows) - l.i
