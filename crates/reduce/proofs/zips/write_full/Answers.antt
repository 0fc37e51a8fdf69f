-- The table has just as many rows.
use mathlib.Core.Path.{◌≡◌, refl, ap, sym, ◌∙◌}
use mathlib.Core.List.{[]}
use native.Mathlib.Omega.{arith}
use lib.ListN.{length}
use Rattle.layout.specs.Rows.{row_table}
use Rattle.layout.proofs.Tables.{row-table-length}
use Rattle.meaning.specs.Types.{form_of}
use Rattle.put.proofs.Taking.{full-table}
use Rattle.reduce.specs.Plan.{zip_rows}
use Rattle.reduce.proofs.zips.write_full.Goals as goal

pub returns : goal.returns
returns c =
    let X = zip_rows (form_of c.args.types.now) (row_table c.args.rows.now) c.args.first in
    let many : length (row_table c.args.to.now) ≡ length X = omega (arith, c.requires.3, row-table-length c.args.to.now) in
    let t = c.take_full.ensures in
    let h = t.taken (t.fits (omega (arith, many))) [] (refl, omega arith, refl) in
    ap row_table (c.to-1.given.1.1 (sym t.same_loan)) ∙ full-table _ _ _ _ h.0 h.1 (omega (arith, many))
