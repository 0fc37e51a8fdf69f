-- The loop's invariant: where the first k trees begin and end.
use mathlib.Core.Path.{sym, ◌∙◌}
use native.Mathlib.Omega.{arith}
use Rattle.layout.proofs.Tables.{row-table-length}
use Rattle.reduce.proofs.Bounded.{none-bounded, next-in, one-bounded}
use Rattle.reduce.proofs.puts.fill_bounds.Goals as goal

pub overflow_cast-bounds : goal.overflow_cast-bounds
overflow_cast-bounds g c = omega (arith, c.requires.1, c.requires.3, row-table-length c.args.rows.now)

pub bounds-bounds-0 : goal.bounds-bounds-0
bounds-bounds-0 g c = omega (arith, c.requires.0)

pub loop-k-init : goal.loop-k-init
loop-k-init g c = none-bounded c.args.rows.now c.args.first c.args.n c.args.bounds.now c.requires.0

pub end_at-at-requires : goal.end_at-at-requires
end_at-at-requires g c =
    let l = c.loop-k in
    (c.requires.1, next-in c.args.rows.now c.args.first c.args.n l.bounds l.at l.k l.invariant (omega (arith, c.loop-k-test.true)) c.requires.3)

pub overflow_cast-bounds-in-loop-k : goal.overflow_cast-bounds-in-loop-k
overflow_cast-bounds-in-loop-k g c =
    let l = c.loop-k in
    let g = next-in c.args.rows.now c.args.first c.args.n l.bounds l.at l.k l.invariant (omega (arith, c.loop-k-test.true)) c.requires.3 in
    omega (arith, c.end_at-at.ensures, c.requires.1)

pub bounds-bounds-k : goal.bounds-bounds-k
bounds-bounds-k g c = omega (arith, c.loop-k.invariant.long, c.requires.2)

pub loop-k-preserved : goal.loop-k-preserved
loop-k-preserved g c =
    let l = c.loop-k in
    one-bounded c.args.rows.now c.args.first c.args.n l.bounds l.at l.k l.invariant _ (omega (arith, c.loop-k-test.true)) c.requires.2 c.end_at-at.ensures

pub shape_of-bounds : goal.shape_of-bounds
shape_of-bounds g c = c.loop-k.invariant.long ∙ sym c.requires.0

pub returns : goal.returns
returns g c =
    let l = c.loop-k in
    λ j h. l.invariant.places j (omega arith)
