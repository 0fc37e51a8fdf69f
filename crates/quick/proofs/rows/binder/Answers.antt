-- The first child, the scope of the name, the body and its end are due. Assumes nothing.
use mathlib.Core.Path.{sym, ◌∙◌}
use Rattle.quick.proofs.ByKind.{never}
use Rattle.quick.proofs.Places.{leaves-let}
use Rattle.quick.proofs.rows.binder.Goals as goal

pub returns-then-not-numbered : goal.returns-then-not-numbered
returns-then-not-numbered c = λ z. absurd (never c.refused.ensures z)

pub returns : goal.returns
returns c =
    let args = c.args in
    let first = c.first in
    let row_at = c.row_at-r in
    let pre = c.requires in
    let if1 = c.if-not-numbered in
    let numbered = c.numbered in
    let begin-scope = c.begin_scope in
    let want = c.want-t in
    let end-scope = c.end_scope-s in
    λ z s. leaves-let s args.rows.now _ _ args.p first.result row_at.result.kind row_at.result.n row_at.result.ty row_at.result.word row_at.ensures pre.0 (sym (if1.false) ∙ numbered.ensures) (begin-scope.ensures.1 ∙ want.ensures.1 ∙ end-scope.ensures.1) end-scope.result want.result begin-scope.result end-scope.ensures.0 want.ensures.0 begin-scope.ensures.0 pre.1.within _ _ end-scope.ensures.2 want.ensures.2 begin-scope.ensures.2 first.ensures
