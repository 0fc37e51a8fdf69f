-- The child states a tuple type with such a part. Assumes nothing.
use mathlib.Core.Path.{sym, ◌∙◌}
use Rattle.meaning.specs.Terms.{head_from}
use Rattle.rules.specs.Forms.{three}
use Rattle.quick.proofs.ByKind.{never, project-one}
use Rattle.quick.proofs.Places.{leaves-one}
use Rattle.quick.proofs.rows.project.Goals as goal

pub returns-then-not-counted : goal.returns-then-not-counted
returns-then-not-counted c = λ z. absurd (never c.refused.ensures z)

pub returns-then-project_ok : goal.returns-then-project_ok
returns-then-project_ok c =
    let args = c.args in
    let first = c.first in
    let row_at = c.row_at-r in
    let pre = c.requires in
    let if1 = c.if-not-counted in
    let counted = c.counted in
    let type_at = c.type_at in
    let project-ok = c.project_ok in
    let if2 = c.if-project_ok in
    unfold head_from three in (λ z es room. leaves-one args.types.now args.rows.now es args.p first.result row_at.result.kind row_at.result.n row_at.result.ty row_at.result.word row_at.ensures room 17 1 8 pre project-one (sym (if1.false) ∙ counted.ensures) type_at.result type_at.ensures (sym project-ok.ensures ∙ if2.true) first.ensures)

pub returns : goal.returns
returns c = λ z. absurd (never c.refused-2.ensures z)
