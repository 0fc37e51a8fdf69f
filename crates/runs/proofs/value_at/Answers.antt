-- At a row, or at a frame's end.
use Prim.Native.Nat.{ℕ, ◌-◌}
use mathlib.Core.Path.{ap, sym, ◌∙◌}
use mathlib.Core.List.{List}
use Rattle.layout.specs.Rows.{board}
use Rattle.search.specs.Kept.{value_end}
use Rattle.runs.specs.Going.{space}
use Rattle.runs.proofs.GoingOn.{lent-space, rows_fit}
use Rattle.runs.proofs.Rests.{rests-here, rests-last, row-there, frame-there}
use Rattle.runs.proofs.value_at.Goals as goal

pub bounds-work-r : goal.bounds-work-r
bounds-work-r c = let p = c.requires in row-there p.2.0 p.2.1 (space (board c.args.m) c.args.kept.now) c.args.work.now c.args.frames.now c.args.s p.2.2 p.2.3 c.if-here.true p.1

pub returns-then-here : goal.returns-then-here
returns-then-here c form k t h e g = let (p, q) = rests-here form k _ _ _ _ t h c.if-here.true e g in (p, q ∙ sym c.plain.ensures)

pub slice_bounds-value_end-count : goal.slice_bounds-value_end-count
slice_bounds-value_end-count c = rows_fit (board c.args.m) c.args.kept.now c.rows_at-at.result c.rows_at-at.ensures c.requires.0

pub slice_bounds-value_end-start : goal.slice_bounds-value_end-start
slice_bounds-value_end-start c = rows_fit (board c.args.m) c.args.kept.now c.rows_at-at.result c.rows_at-at.ensures c.requires.0

pub overflow_sub-d : goal.overflow_sub-d
overflow_sub-d c = let p = c.requires in (frame-there p.2.0 p.2.1 (space (board c.args.m) c.args.kept.now) c.args.work.now c.args.frames.now c.args.s p.2.2 p.2.3 c.if-here.false p.1).0

pub value_end-requires : goal.value_end-requires
value_end-requires c =
    let p = c.requires in
    let f = frame-there p.2.0 p.2.1 (space (board c.args.m) c.args.kept.now) c.args.work.now c.args.frames.now c.args.s p.2.2 p.2.3 c.if-here.false p.1 in
    let l = lent-space (board c.args.m) c.args.kept.now c.rows_at-at.result c.rows_at-at.ensures (rows_fit (board c.args.m) c.args.kept.now c.rows_at-at.result c.rows_at-at.ensures p.0) in
    (f.1, f.2, rw l f.3)

pub returns : goal.returns
returns c form k t h e g =
    let l = lent-space (board c.args.m) c.args.kept.now c.rows_at-at.result c.rows_at-at.ensures (rows_fit (board c.args.m) c.args.kept.now c.rows_at-at.result c.rows_at-at.ensures c.requires.0) in
    let (p, q) = rests-last form k (space (board c.args.m) c.args.kept.now) c.args.work.now c.args.frames.now c.args.s t h c.if-here.false e g in
    (p, q ∙ sym (c.value_end.ensures ∙ ap (λ (x : List ℕ). value_end x c.args.frames.now (c.args.s.d - 1)) l))
