-- `settle::replace_term` meets its contract: the rows in their place, and where their number changes the count and what stands behind. Assumes nothing.
use Prim.Native.Nat.{◌+◌, ◌*◌, ◌-◌}
use mathlib.Core.Path.{refl, sym, ◌∙◌}
use native.Mathlib.Omega.{arith}
use lib.ListN.{length}
use Rattle.settle.proofs.Copies.{all-cleared}
use Rattle.settle.proofs.Verdicts.{number_at}
use Rattle.settle.proofs.Records.{holding, replaced}
use Rattle.settle.proofs.replace_term.Goals as goal

pub returns-then-value-eq-TERM_ROW : goal.returns-then-value-eq-TERM_ROW
returns-then-value-eq-TERM_ROW c =
    let a = c.args in
    let asked = c.requires in
    let rows-at = c.rows_at-at in
    let row_count = c.row_count in
    let u32-at = c.u32_at-number in
    let if1 = c.if-value-eq-TERM_ROW in
    let settle-each = c.settle_each in
    let clear = c.clear in
    (replaced a.m a.kept.now a.answer.now asked.0 (λ j. omega (arith, c.slice_known-1.given j)) _ _ _ rows-at.ensures row_count.ensures (u32-at.ensures ∙ sym (number_at a.answer.now)) if1.true _ settle-each.new.rows (rows-at.result + 8 * row_count.result - rows-at.result) (omega arith) settle-each.ensures refl, all-cleared a.work.now _ (length a.work.now) refl clear.ensures)

pub returns : goal.returns
returns c =
    let a = c.args in
    let asked = c.requires in
    let rows-at = c.rows_at-at in
    let row_count = c.row_count in
    let u32-at = c.u32_at-number in
    let settle-term = c.settle_term-rows in
    let renew-rows = c.renew_rows in
    (renew-rows.ensures _ _ (holding a.m a.kept.now a.answer.now asked.0 (λ j. omega (arith, c.slice_known-1.given j)) _ _ _ rows-at.ensures row_count.ensures (u32-at.ensures ∙ sym (number_at a.answer.now)) _ settle-term.new.space _ settle-term.ensures.bytes refl settle-term.ensures.rows), settle-term.ensures.cleared)
