-- The function is due, and arguments by the types that it asks. Assumes nothing.
use mathlib.Core.Path.{sym, ◌∙◌}
use native.Mathlib.Omega.{arith}
use Rattle.quick.proofs.ByKind.{never}
use Rattle.quick.proofs.Places.{leaves-call}
use Rattle.quick.proofs.rows.apply.Goals as goal

pub returns-then-not-counted : goal.returns-then-not-counted
returns-then-not-counted c = λ z. absurd (never c.refused.ensures z)

pub returns-then-not-is_function : goal.returns-then-not-is_function
returns-then-not-is_function c = λ z. absurd (never c.refused-then-not-is_function.ensures z)

pub returns-then-result_of-r : goal.returns-then-result_of-r
returns-then-result_of-r c = λ z. absurd (never c.refused-then-result_of-r.ensures z)

pub returns-then-parts_of-r : goal.returns-then-parts_of-r
returns-then-parts_of-r c = λ z. absurd (never c.refused-then-parts_of-r.ensures z)

pub first-requires : goal.first-requires
first-requires c =
    let pre = c.requires in
    omega (arith, pre.0.here, pre.0.few)

pub returns : goal.returns
returns c =
    let args = c.args in
    let first = c.first in
    let row_at = c.row_at-r in
    let pre = c.requires in
    let if1 = c.if-not-counted in
    let counted = c.counted in
    let type_at = c.type_at-a in
    let if2 = c.if-not-is_function in
    let is-function = c.is_function in
    let result-of = c.result_of in
    let if3 = c.if-result_of-r in
    let parts-of = c.parts_of in
    let if4 = c.if-parts_of-r in
    let want-parts = c.want_parts in
    λ z. leaves-call args.types.now args.rows.now _ _ args.p first.result row_at.result.kind row_at.result.n row_at.result.ty row_at.result.word row_at.ensures pre.0 (sym (if1.false) ∙ counted.ensures) type_at.result type_at.ensures (sym (if2.false) ∙ is-function.ensures) (omega (arith, result-of.ensures, if3.false)) (omega (arith, parts-of.ensures.0, if4.false)) want-parts.ensures.1 want-parts.result want-parts.ensures.0 pre.1.within want-parts.ensures.2 first.ensures
