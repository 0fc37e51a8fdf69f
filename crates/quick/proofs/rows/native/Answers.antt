-- The names of the type are in scope while the body is due. Assumes nothing.
use mathlib.Core.Path.{refl, sym, ◌∙◌}
use native.Mathlib.Omega.{arith}
use Rattle.quick.proofs.ByKind.{never}
use Rattle.quick.proofs.Naming.{sees-native}
use Rattle.quick.proofs.rows.native.Goals as goal

pub returns-then-not-unused : goal.returns-then-not-unused
returns-then-not-unused c = λ z. absurd (never c.refused.ensures z)

pub returns-then-p-lt8 : goal.returns-then-p-lt8
returns-then-p-lt8 c = λ z. absurd (never c.refused-then-p-lt8.ensures z)

pub overflow_add-result : goal.overflow_add-result
overflow_add-result c =
    let pre = c.requires in
    omega (arith, pre.0.here, pre.0.few)

pub returns-then-lambda_ok : goal.returns-then-lambda_ok
returns-then-lambda_ok c =
    let args = c.args in
    let row_at = c.row_at-r in
    let pre = c.requires in
    let if1 = c.if-not-unused in
    let unused = c.unused in
    let type_at = c.type_at in
    let if3 = c.if-lambda_ok in
    let lambda-ok = c.lambda_ok in
    let parts-of = c.parts_of in
    let end-scope = c.end_scope-s in
    let bind-parts = c.bind_parts-b in
    λ z. sees-native args.types.now args.rows.now _ _ args.p _ row_at.result.kind row_at.result.n row_at.result.ty row_at.result.word row_at.ensures pre.1.within _ _ _ pre.0 (sym (if1.false) ∙ unused.ensures) type_at.result type_at.ensures (sym if3.true ∙ lambda-ok.ensures) parts-of.result end-scope.result bind-parts.result parts-of.ensures.0 end-scope.ensures.0 end-scope.ensures.1 bind-parts.ensures.1 end-scope.ensures.2 bind-parts.ensures.2 bind-parts.ensures.3 refl

pub returns : goal.returns
returns c = λ z. absurd (never c.refused-2.ensures z)
