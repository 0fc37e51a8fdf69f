-- `settle::count_after` meets its contract: the count of the rows passed.
use mathlib.Core.Path.{sym, ◌∙◌}
use mathlib.Core.List.{[]}
use native.Mathlib.Omega.{arith}
use Rattle.layout.specs.Rows.{row_table}
use Rattle.layout.proofs.Tables.{row-table-length, row-table-at}
use Rattle.settle.proofs.Rows.{count-due, count-other}
use Rattle.settle.proofs.count_after.Goals as goal
use Rattle.settle.proofs.count_after.Goals.{then-is_due, else-is_due}

pub loop-i-preserved : goal.loop-i-preserved
loop-i-preserved c =
    let a = c.args in
    let l = c.loop-i in
    let z = row-table-length a.rows.now in
    let y = row-table-length a.value.now in
    let here = row-table-at a.rows.now l.i [] (omega arith) ∙ sym c.row_at.ensures in
    elim c.if-is_due.branch [
      | then-is_due w ↦ (omega (arith, w.total-is), w.total-is ∙ count-due a.number (row_table a.value.now) (row_table a.rows.now) l.i [] _ (omega arith) here _ _ (sym c.is_due.ensures ∙ w.if-is_due.true) (omega arith) l.invariant.1)
      | else-is_due w ↦ (omega (arith, w.total-is), w.total-is ∙ count-other a.number (row_table a.value.now) (row_table a.rows.now) l.i [] _ (omega arith) here _ (sym c.is_due.ensures ∙ w.if-is_due.false) l.invariant.1)
    ]
