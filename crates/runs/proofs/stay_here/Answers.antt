-- The row space is lent to be written behind the rows passed.
use Prim.Native.Nat.{ℕ, ◌-◌}
use mathlib.Core.Path.{◌≡◌, ap, sym, ◌∙◌, subst}
use mathlib.Core.List.{List}
use native.Mathlib.Omega.{arith}
use lib.ListN.{length, length-drop}
use Rattle.layout.specs.Rows.{board}
use Rattle.meaning.specs.Bytes.{rows_at}
use Rattle.search.specs.Kept.{fits_here, Passes}
use Rattle.search.specs.Search.{Room}
use Rattle.runs.specs.Sites.{GoesOn}
use Rattle.runs.specs.Going.{space}
use Rattle.runs.proofs.GoingOn.{lent-space, back-space, rows_fit, here-ready, here_on}
use Rattle.runs.proofs.stay_here.Goals as goal

pub slice_bounds-pass_by-count : goal.slice_bounds-pass_by-count
slice_bounds-pass_by-count c = rows_fit (board c.args.m) c.args.kept.now c.rows_at-at.result c.rows_at-at.ensures c.requires.0

pub slice_bounds-pass_by-start : goal.slice_bounds-pass_by-start
slice_bounds-pass_by-start c = rows_fit (board c.args.m) c.args.kept.now c.rows_at-at.result c.rows_at-at.ensures c.requires.0

pub pass_by-requires : goal.pass_by-requires
pass_by-requires c =
    let args = c.args in
    let pre = c.requires in
    let e = c.rows_at-at.ensures in
    let q = lent-space (board args.m) args.kept.now c.rows_at-at.result e (rows_fit (board args.m) args.kept.now c.rows_at-at.result e pre.0) in
    let w = pre.3 in
    let y = here-ready w.0 w.1 (space (board args.m) args.kept.now) args.work.now args.frames.now args.s w.2 pre.2 pre.1 w.3 in
    (subst (λ (x : List ℕ). Room x args.work.now args.frames.now args.s) (sym q) pre.1, y.0.small, y.0.inside, y.0.shallow, y.0.owes, y.1)

pub returns : goal.returns
returns c =
    let args = c.args in
    let pre = c.requires in
    let e = c.rows_at-at.ensures in
    let p = c.rows_at-at.result in
    let h = rows_fit (board args.m) args.kept.now p e pre.0 in
    let q = lent-space (board args.m) args.kept.now p e h in
    let pass = c.pass_by in
    let w = pre.3 in
    let y = here-ready w.0 w.1 (space (board args.m) args.kept.now) args.work.now args.frames.now args.s w.2 pre.2 pre.1 w.3 in
    let ly : length pass.new.left ≡ length args.kept.now - p = pass.auto.left ∙ ap length q ∙ omega (arith, e, length-drop (rows_at (board args.m)) args.kept.now) in
    let b = back-space (board args.m) args.kept.now pass.new.left p e h ly in (
      b.0,
      subst (λ (x : List ℕ). GoesOn (space (board args.m) args.kept.now) x args.work.now args.frames.now pass.new.frames args.s pass.result) (sym b.1)
          (here_on (space (board args.m) args.kept.now) pass.new.left args.work.now args.frames.now pass.new.frames args.s pass.result pre.1 pre.2 y.0
          (subst (λ (x : List ℕ). Passes x pass.new.left args.work.now args.frames.now pass.new.frames args.s (fits_here x args.work.now args.frames.now args.s) pass.result) q pass.ensures)),
    )
