-- The name means what its chain finds. Assumes nothing.
use mathlib.Core.Path.{sym, ◌∙◌}
use Rattle.quick.proofs.ByKind.{never}
use Rattle.quick.proofs.Naming.{sees-variable}
use Rattle.quick.proofs.rows.variable.Goals as goal

pub returns-then-not-numbered : goal.returns-then-not-numbered
returns-then-not-numbered c = λ z. absurd (never c.refused.ensures z)

pub returns-then-means : goal.returns-then-means
returns-then-means c =
    let args = c.args in
    let next = c.next in
    let row_at = c.row_at-r in
    let pre = c.requires in
    let if1 = c.if-not-numbered in
    let numbered = c.numbered in
    let if2 = c.if-means in
    let means = c.means in
    λ z s es room. sees-variable s args.rows.now es args.bound.now args.p next.result row_at.result.kind row_at.result.n row_at.result.ty row_at.result.word row_at.ensures room args.heads.now pre.0 (sym (if1.false) ∙ numbered.ensures) pre.1 (sym if2.true ∙ means.ensures args.p.b pre.1) next.ensures

pub returns : goal.returns
returns c = λ z. absurd (never c.refused-2.ensures z)
