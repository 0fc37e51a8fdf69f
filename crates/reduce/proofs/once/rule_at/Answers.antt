-- By the kinds of the first two rows.
use mathlib.Core.Path.{◌≡◌}
use native.Mathlib.Omega.{arith}
use Rattle.layout.specs.Rows.{row_table}
use Rattle.meaning.specs.Terms.{kind_no}
use Rattle.reduce.specs.Plan.{row_no}
use Rattle.reduce.proofs.Roots.{some-row}
use Rattle.reduce.proofs.Given.{call-more}
use Rattle.reduce.proofs.AtOnce.{if-two}
use Rattle.reduce.proofs.once.rule_at.Goals as goal

pub kind_at-requires : goal.kind_at-requires
kind_at-requires c = some-row (row_table c.args.rows.now) c.requires.inside

pub kind_at-requires-in-Apply : goal.kind_at-requires-in-Apply
kind_at-requires-in-Apply c =
    let k : kind_no (row_no (row_table c.args.rows.now) 0) ≡ 8 = grind arith in
    call-more (row_table c.args.rows.now) c.requires.exact c.requires.inside k

pub row_of-requires : goal.row_of-requires
row_of-requires c =
    let k : kind_no (row_no (row_table c.args.rows.now) 0) ≡ 10 = grind arith in
    if-two (row_table c.args.rows.now) c.requires.exact c.requires.inside k
