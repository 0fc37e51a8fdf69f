-- The rows made come to stand at the search, which is backed up there; or an ordinary step.
use Prim.Native.Nat.{ℕ, ◌*◌, ◌≤◌}
use mathlib.Core.Path.{refl, sym, subst}
use mathlib.Core.List.{List}
use native.Mathlib.Omega.{arith}
use lib.ListN.{length}
use Rattle.layout.specs.Rows.{board}
use Rattle.meaning.specs.Types.{form_of}
use Rattle.meaning.specs.Records.{types_in}
use Rattle.search.specs.Search.{Room, Resumes}
use Rattle.runs.specs.Going.{space}
use Rattle.runs.proofs.GoingOn.{lent-space, rows_fit}
use Rattle.runs.proofs.Tries.{fresh-there, here-fits}
use Rattle.runs.proofs.Steps.{made-room, made-ready, steps, space-long}
use Rattle.runs.proofs.step.Goals as goal

pub move_fresh-e-requires : goal.move_fresh-e-requires
move_fresh-e-requires c =
    let args = c.args in
    let pre = c.requires in
    let f = pre.9 c.if-made.true in
    let T = pre.8 in
    let form = form_of (types_in args.kept.now) in
    let left = space (board args.m) args.kept.now in
    let h = here-fits form T.trying.number left args.work.now args.frames.now args.p.s T.trying.whole T.trying.halted f.0 in
    (f.0, f.1, omega (arith, h, T.turns.anew f.1, pre.7.ends), pre.7.few, omega (arith, pre.4, pre.5, pre.7.ends), fresh-there form left args.work.now args.frames.now args.fresh.now args.p.s args.p.x.old args.p.x.new f.1 T f.2)

pub slice_bounds-back_up-count : goal.slice_bounds-back_up-count
slice_bounds-back_up-count c = rows_fit (board c.args.m) c.args.kept.now c.rows_at-at.result c.rows_at-at.ensures c.requires.0

pub slice_bounds-back_up-start : goal.slice_bounds-back_up-start
slice_bounds-back_up-start c = rows_fit (board c.args.m) c.args.kept.now c.rows_at-at.result c.rows_at-at.ensures c.requires.0

pub back_up-requires : goal.back_up-requires
back_up-requires c =
    let args = c.args in
    let pre = c.requires in
    let f = pre.9 c.if-made.true in
    let mb = board args.m in
    let kept = args.kept.now in
    let moved = c.move_fresh-e in
    let work1 = moved.new.work in
    let p = c.rows_at-at.result in
    let e = c.rows_at-at.ensures in
    let form = form_of (types_in kept) in
    let left = space mb kept in
    let makes = moved.ensures form left f.2 in
    let q = lent-space mb kept p e (rows_fit mb kept p e pre.0) in
    let rows : 8 * args.m.rows ≤ length left = omega (arith, space-long mb kept pre.0) in
    let room = made-room form left left args.work.now work1 args.frames.now args.p.s moved.result args.p.x.old args.p.x.new makes pre.8 args.m.rows pre.7 pre.2 rows pre.6 pre.4 pre.5 in
    let ready = made-ready form left left args.work.now work1 args.frames.now args.p.s moved.result args.p.x.old args.p.x.new makes pre.8 args.m.rows pre.7 pre.2 rows pre.6 pre.4 pre.5 in
    (subst (λ (x : List ℕ). Room x work1 args.frames.now moved.result) (sym q) room, ready.0, ready.1)

pub returns-then-made : goal.returns-then-made
returns-then-made c =
    let args = c.args in
    let pre = c.requires in
    let f = pre.9 c.if-made.true in
    let mb = board args.m in
    let kept = args.kept.now in
    let moved = c.move_fresh-e in
    let work1 = moved.new.work in
    let p = c.rows_at-at.result in
    let e = c.rows_at-at.ensures in
    let form = form_of (types_in kept) in
    let left = space mb kept in
    let makes = moved.ensures form left f.2 in
    let q = lent-space mb kept p e (rows_fit mb kept p e pre.0) in
    let bu = c.back_up in (
      record { front = refl; long = refl },
      steps form left left args.work.now work1 args.frames.now args.p.s moved.result args.p.x.old args.p.x.new makes pre.8 bu.new.right bu.result
          (subst (λ (x : List ℕ). Resumes x work1 bu.new.right args.frames.now moved.result bu.result) q bu.ensures),
    )
