-- The row space is lent to be read.
use Prim.Native.Nat.{ℕ}
use mathlib.Core.Path.{ap, subst}
use mathlib.Core.List.{List}
use native.Mathlib.Omega.{arith}
use lib.ListN.{length}
use Rattle.layout.specs.Rows.{board}
use Rattle.search.specs.Kept.{fits_end, Leaves}
use Rattle.runs.specs.Going.{space}
use Rattle.runs.proofs.GoingOn.{lent-space, rows_fit, end-asks, end_on}
use Rattle.runs.proofs.stay_end.Goals as goal

pub slice_bounds-leave-count : goal.slice_bounds-leave-count
slice_bounds-leave-count c = rows_fit (board c.args.m) c.args.kept.now c.rows_at-at.result c.rows_at-at.ensures c.requires.0

pub slice_bounds-leave-start : goal.slice_bounds-leave-start
slice_bounds-leave-start c = rows_fit (board c.args.m) c.args.kept.now c.rows_at-at.result c.rows_at-at.ensures c.requires.0

pub leave-requires : goal.leave-requires
leave-requires c =
    let args = c.args in
    let pre = c.requires in
    let e = c.rows_at-at.ensures in
    let q = lent-space (board args.m) args.kept.now c.rows_at-at.result e (rows_fit (board args.m) args.kept.now c.rows_at-at.result e pre.0) in
    let w = pre.1 in
    let y = end-asks w.0 w.1 (space (board args.m) args.kept.now) w.3 args.frames.now args.s w.2 w.5 w.4 w.6 in
    let n = ap length q in
    (y.deep, y.few, y.shallow, omega (arith, n, y.inner), omega (arith, n, y.outer), y.owes)

pub returns : goal.returns
returns c =
    let args = c.args in
    let pre = c.requires in
    let e = c.rows_at-at.ensures in
    let q = lent-space (board args.m) args.kept.now c.rows_at-at.result e (rows_fit (board args.m) args.kept.now c.rows_at-at.result e pre.0) in
    let w = pre.1 in
    let y = end-asks w.0 w.1 (space (board args.m) args.kept.now) w.3 args.frames.now args.s w.2 w.5 w.4 w.6 in
    let leave = c.leave in
    λ work room here. end_on (space (board args.m) args.kept.now) work args.frames.now leave.new.frames args.s leave.result room here y.deep
    (subst (λ (x : List ℕ). Leaves args.frames.now leave.new.frames args.s (fits_end x args.frames.now args.s) leave.result) q leave.ensures)
