-- Any type will do. Assumes nothing.
use mathlib.Core.Path.{refl, sym, ◌∙◌}
use Rattle.quick.proofs.ByKind.{never}
use Rattle.quick.proofs.Places.{leaves-future}
use Rattle.quick.proofs.rows.future.Goals as goal

pub returns-then-numbered : goal.returns-then-numbered
returns-then-numbered c =
    let args = c.args in
    let row_at = c.row_at-r in
    let pre = c.requires in
    let if1 = c.if-numbered in
    let numbered = c.numbered in
    λ z s es room. leaves-future s args.rows.now es args.p _ row_at.result.kind row_at.result.n row_at.result.ty row_at.result.word row_at.ensures room pre (sym if1.true ∙ numbered.ensures) refl

pub returns : goal.returns
returns c =
    let refused = c.refused in
    λ z. absurd (never refused.ensures z)
