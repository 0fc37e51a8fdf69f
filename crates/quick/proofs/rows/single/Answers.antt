-- The row asks what its child states. Assumes nothing.
use mathlib.Core.Path.{sym, ap, subst, ◌∙◌}
use Rattle.meaning.specs.Terms.{kind_no}
use Rattle.rules.specs.Forms.{FixedKind, fixed_rule}
use Rattle.quick.proofs.ByKind.{never}
use Rattle.quick.proofs.Places.{kind-rule, leaves-one}
use Rattle.quick.proofs.rows.single.Goals as goal

pub returns-then-not-counted : goal.returns-then-not-counted
returns-then-not-counted c = λ z. absurd (never c.refused.ensures z)

pub fixed_ok-requires : goal.fixed_ok-requires
fixed_ok-requires c =
    let row_at = c.row_at-r in
    let pre = c.requires in
    subst FixedKind (sym (ap kind_no row_at.ensures ∙ pre.1.kind)) pre.2.plain.fixed

pub returns-then-fixed_ok : goal.returns-then-fixed_ok
unfolding fixed_rule
returns-then-fixed_ok c =
    let args = c.args in
    let first = c.first in
    let row_at = c.row_at-r in
    let pre = c.requires in
    let if1 = c.if-not-counted in
    let counted = c.counted in
    let type_at = c.type_at-a in
    let fixed-ok = c.fixed_ok in
    let if2 = c.if-fixed_ok in
    λ z es room. leaves-one args.types.now args.rows.now es args.p first.result row_at.result.kind row_at.result.n row_at.result.ty row_at.result.word row_at.ensures room _ _ _ pre.1 pre.2 (sym (if1.false) ∙ counted.ensures) type_at.result type_at.ensures (kind-rule args.types.now row_at.result.kind _ row_at.result.n row_at.result.ty row_at.result.word type_at.result (ap kind_no row_at.ensures ∙ pre.1.kind) (sym if2.true ∙ fixed-ok.ensures)) first.ensures

pub returns : goal.returns
returns c = λ z. absurd (never c.refused-2.ensures z)
