-- By the first two rows.
use mathlib.Core.Path.{◌≡◌}
use native.Mathlib.Omega.{arith}
use Rattle.layout.specs.Rows.{row_table}
use Rattle.meaning.specs.Terms.{kind_no}
use Rattle.reduce.specs.Plan.{row_no}
use Rattle.reduce.proofs.Roots.{some-row}
use Rattle.reduce.proofs.Listed.{called_more, zips-told}
use Rattle.reduce.proofs.once.calls_zip.Goals as goal

pub row_of-requires : goal.row_of-requires
row_of-requires c = some-row (row_table c.args.rows.now) c.requires.inside

pub row_of-requires-then-is : goal.row_of-requires-then-is
row_of-requires-then-is c =
    let k : kind_no (row_no (row_table c.args.rows.now) 0) ≡ 8 = grind arith in
    called_more (row_table c.args.rows.now) c.requires.inside k

pub returns-then-is : goal.returns-then-is
returns-then-is c = λ b.
    let k : kind_no (row_no (row_table c.args.rows.now) 0) ≡ 8 = grind arith in
    let q : kind_no (row_no (row_table c.args.rows.now) 1) ≡ 15 = grind (arith, b, rw b at c.is-then-is.ensures.meaning) in
    zips-told (row_table c.args.rows.now) c.requires.inside k q
