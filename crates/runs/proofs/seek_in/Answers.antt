-- The row space is lent to the search.
use Prim.Native.Nat.{ℕ, ◌-◌}
use mathlib.Core.Path.{◌≡◌, ap, sym, ◌∙◌, subst}
use mathlib.Core.List.{List}
use native.Mathlib.Omega.{arith}
use lib.ListN.{length, length-drop}
use Rattle.meaning.specs.Bytes.{rows_at}
use Rattle.layout.specs.Rows.{board}
use Rattle.search.specs.Search.{Room, Somewhere, Stops}
use Rattle.runs.specs.Sites.{Halts}
use Rattle.runs.specs.Going.{space}
use Rattle.runs.proofs.GoingOn.{lent-space, back-space, rows_fit, stops-halted, whole-somewhere}
use Rattle.runs.proofs.seek_in.Goals as goal

pub slice_bounds-seek-count : goal.slice_bounds-seek-count
slice_bounds-seek-count c = rows_fit (board c.args.m) c.args.kept.now c.rows_at-at.result c.rows_at-at.ensures c.requires.0

pub slice_bounds-seek-start : goal.slice_bounds-seek-start
slice_bounds-seek-start c = rows_fit (board c.args.m) c.args.kept.now c.rows_at-at.result c.rows_at-at.ensures c.requires.0

pub seek-requires : goal.seek-requires
seek-requires c =
    let args = c.args in
    let pre = c.requires in
    let e = c.rows_at-at.ensures in
    let q = lent-space (board args.m) args.kept.now c.rows_at-at.result e (rows_fit (board args.m) args.kept.now c.rows_at-at.result e pre.0) in
    let w = pre.2 in (
      subst (λ (x : List ℕ). Room x args.work.now args.frames.now args.s) (sym q) pre.1,
      subst (λ (x : List ℕ). Somewhere x args.work.now args.frames.now args.s) (sym q) (whole-somewhere w.0 w.1 (space (board args.m) args.kept.now) args.work.now args.frames.now args.s w.2 w.3),
    )

pub returns : goal.returns
returns c =
    let args = c.args in
    let pre = c.requires in
    let e = c.rows_at-at.ensures in
    let p = c.rows_at-at.result in
    let h = rows_fit (board args.m) args.kept.now p e pre.0 in
    let q = lent-space (board args.m) args.kept.now p e h in
    let seek = c.seek in
    let ly : length seek.new.left ≡ length args.kept.now - p = seek.auto.left ∙ ap length q ∙ omega (arith, e, length-drop (rows_at (board args.m)) args.kept.now) in
    let b = back-space (board args.m) args.kept.now seek.new.left p e h ly in (
      b.0,
      subst (λ (x : List ℕ). Halts (space (board args.m) args.kept.now) x args.work.now args.frames.now seek.new.frames args.s seek.result) (sym b.1)
          (stops-halted (space (board args.m) args.kept.now) seek.new.left args.work.now args.frames.now seek.new.frames args.s seek.result
          (subst (λ (x : List ℕ). Stops x seek.new.left args.work.now args.frames.now seek.new.frames args.s seek.result) q seek.ensures)),
    )
