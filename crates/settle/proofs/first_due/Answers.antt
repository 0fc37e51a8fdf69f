-- `settle::first_due` meets its contract: the row is the first that the test fails.
use Rattle.std.proofs.Common.{rules, sym, subst, ◌∙◌, ℕ}
use Rattle.std.specs.Prelude.{Option, unwrap_or, length}
use Rattle.layout.specs.Rows.{row_table}
use Rattle.layout.proofs.Tables.{row-table-length}
use Rattle.settle.specs.Settled.{Stands}
use Rattle.settle.proofs.Rows.{undue, first-stands}
use Rattle.settle.proofs.first_due.Goals as goal

pub returns-in-Some : goal.returns-in-Some
unfolding undue
returns-in-Some c =
    let found = c.first_failing.ensures (undue c.args.number) (λ r b fits says. search rules) in
    subst (λ (o : Option ℕ). Stands c.args.number (row_table c.args.rows.now) (unwrap_or o (length (row_table c.args.rows.now)))) (sym found ∙ c.in-Some.is) (first-stands c.args.number (row_table c.args.rows.now))

pub returns-in-None : goal.returns-in-None
unfolding undue
returns-in-None c =
    let found = c.first_failing.ensures (undue c.args.number) (λ r b fits says. search rules) in
    subst (Stands c.args.number (row_table c.args.rows.now)) (row-table-length c.args.rows.now ∙ sym c.term_rows.ensures)
    (subst (λ (o : Option ℕ). Stands c.args.number (row_table c.args.rows.now) (unwrap_or o (length (row_table c.args.rows.now)))) (sym found ∙ c.in-None.is) (first-stands c.args.number (row_table c.args.rows.now)))
