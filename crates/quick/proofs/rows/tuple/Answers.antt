-- The elements are due by the types of the parts. Assumes nothing.
use borrow.Author.Tests.{eqb-true}
use mathlib.Core.Path.{sym, ◌∙◌}
use native.Mathlib.Omega.{arith}
use Rattle.quick.proofs.ByKind.{never}
use Rattle.quick.proofs.Places.{leaves-tuple}
use Rattle.quick.proofs.rows.tuple.Goals as goal

pub returns-then-not-counted : goal.returns-then-not-counted
returns-then-not-counted c = λ z. absurd (never c.refused.ensures z)

pub returns-then-not-is : goal.returns-then-not-is
returns-then-not-is c = λ z. absurd (never c.refused-then-not-is.ensures z)

pub returns-then-parts_of-r : goal.returns-then-parts_of-r
returns-then-parts_of-r c = λ z. absurd (never c.refused-then-parts_of-r.ensures z)

pub returns : goal.returns
returns c =
    let args = c.args in
    let next = c.next in
    let row_at = c.row_at-r in
    let pre = c.requires in
    let if1 = c.if-not-counted in
    let counted = c.counted in
    let parts-of = c.parts_of in
    let if3 = c.if-parts_of-r in
    let want-parts = c.want_parts in
    λ z. leaves-tuple args.types.now args.rows.now _ _ args.p next.result row_at.result.kind row_at.result.n row_at.result.ty row_at.result.word row_at.ensures pre.0 (sym (if1.false) ∙ counted.ensures) (eqb-true _ _ (sym c.is.ensures ∙ c.if-not-is.false)) (omega (arith, parts-of.ensures.0, if3.false)) want-parts.ensures.1 want-parts.result want-parts.ensures.0 pre.1.within want-parts.ensures.2 next.ensures
