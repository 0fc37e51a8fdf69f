-- The type has the form that the kind asks. Assumes nothing.
use borrow.Author.Tests.{eqb-true}
use mathlib.Core.Path.{sym, ◌∙◌}
use Rattle.quick.proofs.ByKind.{never}
use Rattle.quick.proofs.Places.{leaves-leaf}
use Rattle.quick.proofs.rows.leaf.Goals as goal

pub returns-then-not-within : goal.returns-then-not-within
returns-then-not-within c = λ z. absurd (never c.refused.ensures z)

pub returns-then-is : goal.returns-then-is
returns-then-is c =
    let args = c.args in
    let next = c.next in
    let row_at = c.row_at-r in
    let pre = c.requires in
    let if1 = c.if-not-within in
    let within = c.within in
    λ z es room. leaves-leaf args.types.now args.rows.now es args.p next.result row_at.result.kind row_at.result.n row_at.result.ty row_at.result.word row_at.ensures room _ _ _ _ pre.1 pre.2 (sym (if1.false) ∙ within.ensures) (eqb-true _ _ (sym c.is.ensures ∙ c.if-is.true)) next.ensures

pub returns : goal.returns
returns c = λ z. absurd (never c.refused-2.ensures z)
