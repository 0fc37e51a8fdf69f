-- The loop's invariant: the rows taken, those that stand before the next row, and those left are all.
use Prim.Native.Nat.{◌-◌}
use lib.ListN.{length}
use Rattle.layout.specs.Rows.{row_table}
use Rattle.meaning.specs.Types.{form_of}
use Rattle.put.proofs.Once.{Onward}
use Rattle.put.proofs.pass_bare.Given as goal

abbrev pub invariant-loop-at : goal.invariant-loop-at
invariant-loop-at g l = Onward g.S.Sink.holds g.S.Sink.room g.S.Sink.loan (form_of l.types) (row_table l.rows) l.body (g.P.Puts.names l.puts) (g.P.Puts.bounds l.puts) l.at.owed l.at.i l.from l.initial.sink l.sink

abbrev pub decreases-loop-at : goal.decreases-loop-at
decreases-loop-at g l = length (row_table l.rows) - l.at.i
