-- By the kind of the frame's row, or on all its rows.
use Prim.Native.Nat.{ℕ, ◌-◌}
use mathlib.Core.Path.{ap, sym, ◌∙◌}
use mathlib.Core.List.{List}
use native.Mathlib.Omega.{arith}
use lib.ListN.{get_or}
use Rattle.layout.specs.Rows.{board}
use Rattle.meaning.specs.Types.{form_of, member}
use Rattle.meaning.specs.Steps.{made_of_values}
use Rattle.meaning.specs.Records.{types_in}
use Rattle.search.specs.Kept.{row_in, kind_at}
use Rattle.runs.specs.Sites.{Tells}
use Rattle.runs.specs.Going.{space}
use Rattle.runs.proofs.GoingOn.{lent-space, rows_fit}
use Rattle.runs.proofs.Rests.{built-rests, frame-there}
use Rattle.runs.proofs.try_end.Goals as goal

pub slice_bounds-builds-count : goal.slice_bounds-builds-count
slice_bounds-builds-count c = rows_fit (board c.args.m) c.args.kept.now c.rows_at-at.result c.rows_at-at.ensures c.requires.0

pub slice_bounds-builds-start : goal.slice_bounds-builds-start
slice_bounds-builds-start c = rows_fit (board c.args.m) c.args.kept.now c.rows_at-at.result c.rows_at-at.ensures c.requires.0

pub overflow_sub-d : goal.overflow_sub-d
overflow_sub-d c =
    let args = c.args in
    let pre = c.requires in
    let W = pre.5 in
    let T = W.1 in
    let mb = board args.m in
    let left = space mb args.kept.now in
    omega (arith, (frame-there (form_of (types_in args.kept.now)) T.number left W.0 args.frames.now args.s T.whole T.halted pre.2 W.2).0)

pub builds-requires : goal.builds-requires
builds-requires c =
    let args = c.args in
    let pre = c.requires in
    let W = pre.5 in
    let T = W.1 in
    let mb = board args.m in
    let left = space mb args.kept.now in
    let f = frame-there (form_of (types_in args.kept.now)) T.number left W.0 args.frames.now args.s T.whole T.halted pre.2 W.2 in
    let e = c.rows_at-at.ensures in
    let q = lent-space mb args.kept.now c.rows_at-at.result e (rows_fit mb args.kept.now c.rows_at-at.result e pre.0) in
    (f.1, f.2, rw q f.3)

pub returns-then-builds : goal.returns-then-builds
unfolding Tells
returns-then-builds c =
    (
    let args = c.args in
    let pre = c.requires in
    let W = pre.5 in
    let T = W.1 in
    let mb = board args.m in
    let left = space mb args.kept.now in
    let e = c.rows_at-at.ensures in
    let q = lent-space mb args.kept.now c.rows_at-at.result e (rows_fit mb args.kept.now c.rows_at-at.result e pre.0) in
    let b = sym (c.builds.ensures ∙ ap (λ (x : List ℕ). member (kind_at x (row_in (get_or args.frames.now (args.s.d - 1) 0))) made_of_values) q) ∙ c.if-builds.true in
    λ work k t h. built-rests (form_of (types_in args.kept.now)) k left work args.frames.now args.s t h pre.2 b)
