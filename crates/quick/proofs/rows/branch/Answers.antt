-- The truth is due, and two trees of the type of the if. Assumes nothing.
use borrow.Author.Tests.{eqb-true}
use mathlib.Core.Path.{sym, ◌∙◌}
use Rattle.quick.proofs.ByKind.{never}
use Rattle.quick.proofs.Places.{leaves-branch}
use Rattle.quick.proofs.rows.branch.Goals as goal

pub returns-then-not-unused : goal.returns-then-not-unused
returns-then-not-unused c = λ z. absurd (never c.refused.ensures z)

pub returns-then-is : goal.returns-then-is
returns-then-is c =
    let args = c.args in
    let first = c.first in
    let row_at = c.row_at-r in
    let pre = c.requires in
    let if1 = c.if-not-unused in
    let unused = c.unused in
    let type_at = c.type_at-a in
    let want2 = c.want in
    let want = c.want-s in
    λ z. leaves-branch args.types.now args.rows.now _ _ args.p first.result row_at.result.kind row_at.result.n row_at.result.ty row_at.result.word row_at.ensures pre.0 (sym (if1.false) ∙ unused.ensures) type_at.result type_at.ensures (eqb-true _ _ (sym c.is.ensures ∙ c.if-is.true)) (want2.ensures.1 ∙ want.ensures.1) want.result want2.result want.ensures.0 want2.ensures.0 pre.1.within _ want.ensures.2 want2.ensures.2 first.ensures

pub returns : goal.returns
returns c = λ z. absurd (never c.refused-2.ensures z)
