-- `settle::settle_rows` meets its contract: what is written is the rows passed, settled.
use Prim.Native.Nat.{◌+◌}
use mathlib.Core.Path.{refl, sym, ap, ◌∙◌}
use mathlib.Core.List.{[]}
use native.Mathlib.Omega.{arith}
use lib.ListN.{length}
use Rattle.meaning.specs.Bytes.{writes}
use Rattle.layout.specs.Rows.{row_table}
use Rattle.layout.proofs.Tables.{row-table-length, row-table-at}
use Rattle.settle.specs.Settled.{settled}
use Rattle.settle.proofs.Rows.{count-due, count-other, prefix}
use Rattle.settle.proofs.Copies.{table-bytes, push-due, push-other}
use Rattle.settle.proofs.settle_rows.Goals as goal
use Rattle.settle.proofs.settle_rows.Goals.{then-is_due, else-is_due}

pub loop-i-init : goal.loop-i-init
unfolding writes settled
loop-i-init c = (refl, refl, refl)

pub copy_to-requires : goal.copy_to-requires
copy_to-requires c =
    let a = c.args in
    let l = c.loop-i in
    let z = row-table-length a.rows.now in
    let y = row-table-length a.value.now in
    let d = count-due a.number (row_table a.value.now) (row_table a.rows.now) l.i [] _ (omega arith) (row-table-at a.rows.now l.i [] (omega arith) ∙ sym c.row_at.ensures) _ _ (sym c.is_due.ensures ∙ c.if-is_due.true) refl refl in
    let p = prefix a.number (row_table a.value.now) (row_table a.rows.now) (l.i + 1) in (omega arith, omega arith)

pub copy_row-requires : goal.copy_row-requires
copy_row-requires c =
    let a = c.args in
    let l = c.loop-i in
    let z = row-table-length a.rows.now in
    let y = row-table-length a.value.now in
    let d = count-other a.number (row_table a.value.now) (row_table a.rows.now) l.i [] _ (omega arith) (row-table-at a.rows.now l.i [] (omega arith) ∙ sym c.row_at.ensures) _ (sym c.is_due.ensures ∙ c.if-is_due.false) refl in
    let p = prefix a.number (row_table a.value.now) (row_table a.rows.now) (l.i + 1) in (omega arith, omega arith)

pub loop-i-preserved : goal.loop-i-preserved
loop-i-preserved c =
    let a = c.args in
    let l = c.loop-i in
    let z = row-table-length a.rows.now in
    let y = row-table-length a.value.now in
    let here = row-table-at a.rows.now l.i [] (omega arith) ∙ sym c.row_at.ensures in
    elim c.if-is_due.branch [
      | then-is_due w ↦
          let due = sym c.is_due.ensures ∙ w.if-is_due.true in
          let d = count-due a.number (row_table a.value.now) (row_table a.rows.now) l.i [] _ (omega arith) here _ _ due refl refl in (
            omega (arith, w.out-is),
            ap length w.work-is ∙ w.copy_to.auto.dst ∙ l.invariant.1,
            rw w.out-is (push-due a.number (row_table a.value.now) (row_table a.rows.now) l.i [] _ (omega arith) here a.work.now _ _ _ l.invariant.0 l.invariant.2 a.value.now _ due (table-bytes a.value.now (λ j. omega (arith, c.shared_slice_known-2-1.given j)) c.requires.1) refl (w.work-is ∙ w.copy_to.ensures)),
          )
      | else-is_due w ↦
          let other = sym c.is_due.ensures ∙ w.if-is_due.false in
          let d = count-other a.number (row_table a.value.now) (row_table a.rows.now) l.i [] _ (omega arith) here _ other refl in (
            omega (arith, w.out-is),
            ap length w.work-is ∙ w.copy_row.auto.dst ∙ l.invariant.1,
            rw w.out-is (push-other a.number (row_table a.value.now) (row_table a.rows.now) l.i [] _ (omega arith) here a.work.now _ _ _ l.invariant.0 l.invariant.2 a.rows.now (λ j. omega (arith, c.shared_slice_known-1.given j)) (omega arith) c.row_at.ensures other (w.work-is ∙ w.copy_row.ensures)),
          )
    ]
