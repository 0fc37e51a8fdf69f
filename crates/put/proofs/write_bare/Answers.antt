-- The table has just as many rows.
use mathlib.Core.Path.{ap, sym, ◌∙◌}
use native.Mathlib.Omega.{arith}
use Rattle.layout.specs.Rows.{row_table}
use Rattle.layout.proofs.Tables.{row-table-length}
use Rattle.put.proofs.Taking.{if-ok, full-table}
use Rattle.put.proofs.write_bare.Goals as goal

pub returns : goal.returns
returns c = λ q.
    let m = if-ok _ (sym c.is_ok.ensures.value ∙ q) c.pass_bare.ensures in
    ap row_table (c.to-1.given.1.1 (sym m.1.same_loan)) ∙ full-table _ _ _ _ m.1.rows m.1.left (omega (arith, c.requires.1, row-table-length c.args.to.now))
