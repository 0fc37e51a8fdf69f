-- `layout::copy_to` meets its contract: after i turns the first i bytes are copied. Assumes nothing.
use native.Mathlib.Omega.{arith}
use Rattle.layout.proofs.Laws.{copied_more}
use Rattle.layout.proofs.copy_to.Goals as goal

pub loop-i-preserved : goal.loop-i-preserved
loop-i-preserved c =
    let a = c.args in
    let l = c.loop-i in
    copied_more a.dst.now a.at a.src.now a.from l.i l.dst l.invariant (omega arith) (omega arith)
