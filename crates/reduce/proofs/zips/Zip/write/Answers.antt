-- Lists they are, as something is made; the table has just as many rows.
use mathlib.Core.Path.{◌≡◌, refl, ap, sym, ◌∙◌}
use mathlib.Core.List.{List, []}
use Prim.Native.Nat.{ℕ}
use native.Mathlib.Omega.{arith}
use lib.ListN.{length}
use Rattle.layout.specs.Rows.{row_table}
use Rattle.layout.proofs.Tables.{row-table-length}
use Rattle.meaning.specs.Types.{form_of}
use Rattle.put.proofs.Taking.{full-table}
use Rattle.reduce.proofs.Told.{rows_told}
use Rattle.reduce.proofs.Zipping.{lists-if}
use Rattle.reduce.proofs.zips.Zip.write.Goals as goal

pub made-requires-clause-lists : goal.made-requires-clause-lists
made-requires-clause-lists c = lists-if _ _ _ _ _ c.args.self.now.reads (form_of c.args.types.now) _ c.requires.0 c.requires.1

pub returns : goal.returns
returns c =
    let (x, r, t) = c.made.ensures in
    let same = rows_told _ x r in
    let many : length (row_table c.args.to.now) ≡ length x = omega (arith, c.requires.1, ap (λ (y : List (List ℕ)). length y) same, row-table-length c.args.to.now) in
    let h = t.taken (t.fits (omega (arith, many))) [] (refl, omega arith, refl) in
    ap row_table (c.to-1.given.1.1 (sym t.same_loan)) ∙ full-table _ _ _ _ h.0 h.1 (omega (arith, many)) ∙ sym same
