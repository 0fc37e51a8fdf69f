-- The rule carried out, then the search backed up in the row space.
use Prim.Native.Nat.{ℕ, ◌*◌, ◌≤◌}
use mathlib.Core.Path.{◌∙◌, sym, subst}
use mathlib.Core.List.{List}
use native.Mathlib.Omega.{arith}
use lib.ListN.{length}
use Rattle.layout.specs.Rows.{board}
use Rattle.meaning.specs.Types.{form_of}
use Rattle.meaning.specs.Records.{types_in}
use Rattle.search.specs.Search.{Room, Resumes}
use Rattle.runs.specs.Going.{space}
use Rattle.runs.proofs.GoingOn.{lent-space, rows_fit}
use Rattle.runs.proofs.Steps.{made-room, made-ready, steps, space-long}
use Rattle.runs.proofs.step_anew.Goals as goal

pub make_rule-e-requires : goal.make_rule-e-requires
make_rule-e-requires c = let pre = c.requires in (pre.0, pre.1, pre.2, pre.3, pre.4, pre.5, (c.args.frames.now, pre.7, pre.8))

pub slice_bounds-back_up-count : goal.slice_bounds-back_up-count
slice_bounds-back_up-count c = rows_fit (board c.args.m) c.make_rule-e.new.kept c.rows_at-at.result c.rows_at-at.ensures (c.make_rule-e.ensures.0.long ∙ c.requires.0)

pub slice_bounds-back_up-start : goal.slice_bounds-back_up-start
slice_bounds-back_up-start c = rows_fit (board c.args.m) c.make_rule-e.new.kept c.rows_at-at.result c.rows_at-at.ensures (c.make_rule-e.ensures.0.long ∙ c.requires.0)

pub back_up-requires : goal.back_up-requires
back_up-requires c =
    let args = c.args in
    let pre = c.requires in
    let made = c.make_rule-e in
    let mb = board args.m in
    let kept1 = made.new.kept in
    let work1 = made.new.work in
    let long = made.ensures.0.long ∙ pre.0 in
    let p = c.rows_at-at.result in
    let e = c.rows_at-at.ensures in
    let form = form_of (types_in args.kept.now) in
    let left = space mb args.kept.now in
    let q = lent-space mb kept1 p e (rows_fit mb kept1 p e long) in
    let rows : 8 * args.m.rows ≤ length (space mb kept1) = omega (arith, space-long mb kept1 long) in
    let room = made-room form left (space mb kept1) args.work.now work1 args.frames.now args.s made.result args.c.old args.c.new made.ensures.1 pre.8 args.m.rows pre.7 pre.2 rows pre.6 pre.4 pre.5 in
    let ready = made-ready form left (space mb kept1) args.work.now work1 args.frames.now args.s made.result args.c.old args.c.new made.ensures.1 pre.8 args.m.rows pre.7 pre.2 rows pre.6 pre.4 pre.5 in
    (subst (λ (x : List ℕ). Room x work1 args.frames.now made.result) (sym q) room, ready.0, ready.1)

pub returns : goal.returns
returns c =
    let args = c.args in
    let pre = c.requires in
    let made = c.make_rule-e in
    let mb = board args.m in
    let kept1 = made.new.kept in
    let work1 = made.new.work in
    let long = made.ensures.0.long ∙ pre.0 in
    let p = c.rows_at-at.result in
    let e = c.rows_at-at.ensures in
    let form = form_of (types_in args.kept.now) in
    let left = space mb args.kept.now in
    let q = lent-space mb kept1 p e (rows_fit mb kept1 p e long) in
    let bu = c.back_up in (
      made.ensures.0,
      steps form left (space mb kept1) args.work.now work1 args.frames.now args.s made.result args.c.old args.c.new made.ensures.1 pre.8 bu.new.right bu.result
          (subst (λ (x : List ℕ). Resumes x work1 bu.new.right args.frames.now made.result bu.result) q bu.ensures),
    )
