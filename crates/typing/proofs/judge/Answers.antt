-- The first row that fails is the fault; where none does, there is none.
use Rattle.std.proofs.Common.{sym, ◌∙◌, arith}
use Rattle.typing.proofs.Walking.{stands_not, stands_all}
use Rattle.typing.proofs.judge.Goals as goal

pub returns-then-not-row_ok : goal.returns-then-not-row_ok
returns-then-not-row_ok c = sym (stands_not _ _ _ _ _ (omega arith) c.loop-i.invariant (sym c.row_ok.ensures ∙ c.if-not-row_ok.true))

pub returns : goal.returns
returns c = sym (stands_all _ _ _ _ _ _ c.loop-i.invariant (omega arith))
