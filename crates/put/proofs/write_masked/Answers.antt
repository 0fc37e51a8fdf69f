-- The table has just as many rows.
use mathlib.Core.Path.{ap, sym, ◌∙◌}
use native.Mathlib.Omega.{arith}
use Rattle.layout.specs.Rows.{row_table}
use Rattle.layout.proofs.Tables.{row-table-length}
use Rattle.put.proofs.Taking.{if-some, full-table}
use Rattle.put.proofs.write_masked.Goals as goal

pub returns : goal.returns
returns c =
    let p = c.pass_masked.ensures in
    let m = if-some _ (p.room (omega (arith, c.requires.1, row-table-length c.args.to.now))) p.made in
    ap row_table (c.to-1.given.1.1 (sym m.1.same_loan)) ∙ full-table _ _ _ _ m.1.rows m.1.left (omega (arith, c.requires.1, row-table-length c.args.to.now))
