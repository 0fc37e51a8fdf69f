-- From row i on as from the first.
use native.Mathlib.Omega.{arith}
use Rattle.std.proofs.Common.{rules}
use Rattle.layout.specs.Rows.{IsRow}
use Rattle.layout.proofs.FirstNot.{passing-row, failing-row}
use Rattle.layout.proofs.first_failing.Goals as goal

pub returns-then-not-test : goal.returns-then-not-test
returns-then-not-test g c =
    let w : IsRow c.row_at.result = search rules in
    λ p h. failing-row _ p c.args.rows.now c.loop-i.i c.row_at.result _ _ h c.test.ensures c.if-not-test.true c.row_at.ensures w (omega arith) (c.loop-i.invariant p h)

pub loop-i-preserved : goal.loop-i-preserved
loop-i-preserved g c =
    let w : IsRow c.row_at.result = search rules in
    λ p h. passing-row _ p c.args.rows.now c.loop-i.i c.row_at.result _ _ h c.test.ensures c.if-not-test.false c.row_at.ensures w (omega arith) (c.loop-i.invariant p h)
