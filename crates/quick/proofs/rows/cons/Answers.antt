-- The head is due, and a tree of the type of the cons. Assumes nothing.
use borrow.Author.Tests.{eqb-true}
use mathlib.Core.Path.{sym, ◌∙◌}
use Rattle.quick.proofs.ByKind.{never}
use Rattle.quick.proofs.Places.{leaves-cons}
use Rattle.quick.proofs.rows.cons.Goals as goal

pub returns-then-not-unused : goal.returns-then-not-unused
returns-then-not-unused c = λ z. absurd (never c.refused.ensures z)

pub returns-then-not-is : goal.returns-then-not-is
returns-then-not-is c = λ z. absurd (never c.refused-then-not-is.ensures z)

pub returns-then-result_of-a : goal.returns-then-result_of-a
returns-then-result_of-a c =
    let args = c.args in
    let first = c.first in
    let row_at = c.row_at-r in
    let pre = c.requires in
    let if1 = c.if-not-unused in
    let unused = c.unused in
    let type_at = c.type_at-a in
    let result-of = c.result_of in
    let if3 = c.if-result_of-a in
    let want = c.want in
    λ z. leaves-cons args.types.now args.rows.now _ _ args.p first.result row_at.result.kind row_at.result.n row_at.result.ty row_at.result.word row_at.ensures pre.0 (sym (if1.false) ∙ unused.ensures) type_at.result type_at.ensures (eqb-true _ _ (sym c.is.ensures ∙ c.if-not-is.false)) (sym result-of.ensures ∙ if3.true) want.ensures.1 want.result want.ensures.0 pre.1.within want.ensures.2 first.ensures

pub returns : goal.returns
returns c = λ z. absurd (never c.refused-2.ensures z)
