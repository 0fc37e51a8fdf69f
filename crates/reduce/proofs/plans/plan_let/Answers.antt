-- The bound term ends where the body begins.
use native.Mathlib.Omega.{arith}
use Rattle.layout.specs.Rows.{row_table}
use Rattle.layout.proofs.Tables.{row-table-length}
use Rattle.reduce.specs.Plan.{Plans}
use Rattle.reduce.proofs.Roots.{whole_in}
use Rattle.reduce.proofs.Given.{bound-in}
use Rattle.reduce.proofs.plans.plan_let.Goals as goal

pub end_of-requires : goal.end_of-requires
end_of-requires c =
    let T = row_table c.args.rows.now in
    let R = c.requires.0 in
    (omega (arith, R.few), omega (arith, bound-in T R.exact (whole_in R.one) c.requires.1, row-table-length c.args.rows.now))

pub returns : goal.returns
returns c = λ form. unfold Plans in (c.requires.1, c.end_of.ensures)
