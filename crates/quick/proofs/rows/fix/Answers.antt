-- The function is due. Assumes nothing.
use mathlib.Core.Path.{sym, ◌∙◌}
use Rattle.quick.proofs.ByKind.{never}
use Rattle.quick.proofs.Places.{leaves-fix}
use Rattle.quick.proofs.rows.fix.Goals as goal

pub returns-then-not-unused : goal.returns-then-not-unused
returns-then-not-unused c = λ z. absurd (never c.refused.ensures z)

pub returns-then-not-is_native : goal.returns-then-not-is_native
returns-then-not-is_native c = λ z. absurd (never c.refused-then-not-is_native.ensures z)

pub returns-then-fix_ok : goal.returns-then-fix_ok
returns-then-fix_ok c =
    let args = c.args in
    let first = c.first in
    let row_at = c.row_at-r in
    let pre = c.requires in
    let if1 = c.if-not-unused in
    let unused = c.unused in
    let if2 = c.if-not-is_native in
    let is-native = c.is_native in
    let type_at = c.type_at in
    let if3 = c.if-fix_ok in
    let fix-ok = c.fix_ok in
    λ z es room. leaves-fix args.types.now args.rows.now es args.p first.result row_at.result.kind row_at.result.n row_at.result.ty row_at.result.word row_at.ensures room pre (sym (if1.false) ∙ unused.ensures) (sym (if2.false) ∙ is-native.ensures) type_at.result type_at.ensures (sym if3.true ∙ fix-ok.ensures) first.ensures

pub returns : goal.returns
returns c = λ z. absurd (never c.refused-2.ensures z)
