-- By the number of arguments and the kind of the function.
use mathlib.Core.Path.{◌≡◌}
use native.Mathlib.Omega.{arith}
use Rattle.layout.specs.Rows.{row_table}
use Rattle.meaning.specs.Terms.{kind_no, n_no}
use Rattle.reduce.specs.Plan.{row_no}
use Rattle.reduce.proofs.Standing.{call-second, body-stands}
use Rattle.reduce.proofs.behind.before_body.Goals as goal

pub row_of-requires-then-row_of-eq0 : goal.row_of-requires-then-row_of-eq0
row_of-requires-then-row_of-eq0 c = call-second (row_table c.args.rows.now) c.requires.0.inside c.requires.1

pub returns-then-is : goal.returns-then-is
returns-then-is c =
    let T = row_table c.args.rows.now in
    let n : n_no (row_no T 0) ≡ 0 = grind arith in
    let k : kind_no (row_no T 1) ≡ 6 = grind arith in
    (omega arith, body-stands T c.requires.0.inside c.requires.1 n k)
