-- A half has no more rows than the table.
use mathlib.Core.Path.{refl}
use mathlib.Core.List.{[]}
use native.Mathlib.Omega.{arith}
use Rattle.layout.specs.Rows.{row_table}
use Rattle.layout.proofs.Tables.{row-table-length}
use Rattle.reduce.proofs.Zipping.{half-short}
use Rattle.reduce.proofs.zips.count_half.Goals as goal

pub returns : goal.returns
returns c =
    let z = c.args.z in
    let short = half-short (row_table c.args.rows.now) z.first z.n z.mask z.tails c.requires.1.inside in
    let few = row-table-length c.args.rows.now in
    let t = c.take_half.ensures in
    let n = (t.taken (t.fits (omega (arith, short, few, c.requires.0.few))) [] refl).0 in
    (n, omega (arith, n, short, few, c.requires.0.few))
