-- The row is a table of its own.
use Prim.Native.Nat.{ℕ}
use mathlib.Core.Path.{subst}
use mathlib.Core.List.{List}
use native.Mathlib.Omega.{arith}
use lib.ListN.{replicate, length-replicate}
use Rattle.layout.specs.Rows.{row_table}
use Rattle.layout.proofs.Tables.{row-table-length}
use Rattle.reduce.specs.Taking.{Takes}
use Rattle.reduce.proofs.Taking.{one-standing, span-takes}
use Rattle.reduce.proofs.zips.add.Goals as goal

pub take-requires-clause-span : goal.take-requires-clause-span
take-requires-clause-span g c = (omega arith, omega (arith, row-table-length c.write_row.new.to, c.write_row.auto.to, length-replicate {A = ℕ} 8 0))

pub returns : goal.returns
returns g c =
    let n = length-replicate {A = ℕ} 8 0 in
    let t = c.take.ensures in
    subst (λ (x : List (List ℕ)). Takes g.S.Sink.holds g.S.Sink.room g.S.Sink.loan c.args.sink.now c.take.new.self c.take.result x)
    (one-standing _ _ _ (omega (arith, row-table-length (replicate 8 0), n)) c.write_row.ensures)
    (span-takes _ _ _ _ _ _ (row_table c.write_row.new.to) 0 1 (omega arith) (omega (arith, row-table-length c.write_row.new.to, c.write_row.auto.to, n)) t.taken t.room t.same_loan)
