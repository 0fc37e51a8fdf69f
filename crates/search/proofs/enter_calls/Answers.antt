-- The loop's invariant: the search went on to a row that waits, and the whole is the same.
use native.Mathlib.Omega.{arith}
use Rattle.search.specs.declared.Sight.TheVariants.{Skip, Enter}
use Rattle.search.proofs.Calls.{function-size, function-skipped, argument-waits}
use Rattle.search.proofs.Moves.{went_on, skip-on, enter-on, skip-passable, enter-possible}
use Rattle.search.proofs.enter_calls.Goals as goal

pub enter-s-requires : goal.enter-s-requires
enter-s-requires c =
    let args = c.args in
    let loop = c.loop-left in
    let there = c.requires.1 in
    let b = c.nested.ensures c.loop-left-test.true in
    let y = enter-possible args.left.now loop.left args.right.now args.frames.now loop.frames args.start loop.s loop.invariant.0 there loop.invariant.1 in
    (loop.invariant.0.room, y.0, y.1)

pub pass_rows-s-requires : goal.pass_rows-s-requires
pass_rows-s-requires c =
    let args = c.args in
    let loop = c.loop-left in
    let there = c.requires.1 in
    let b = c.nested.ensures c.loop-left-test.true in
    let y = enter-possible args.left.now loop.left args.right.now args.frames.now loop.frames args.start loop.s loop.invariant.0 there loop.invariant.1 in
    let p = c.enter-s in
    let g = enter-on loop.left p.new.left args.right.now loop.frames p.new.frames loop.s p.result loop.invariant.0.room y.0 p.ensures in
    let w = went_on args.left.now loop.left args.right.now args.frames.now loop.frames args.start loop.s loop.invariant.0 Enter p.new.left p.new.frames p.result loop.invariant.1 g in
    let sees = function-skipped loop.left p.new.left args.right.now loop.frames p.new.frames loop.s p.result loop.invariant.0.room y.1 b p.ensures g.room in
    let one = function-size loop.left p.new.left args.right.now loop.frames p.new.frames loop.s p.result loop.invariant.0.room y.1 b p.ensures in
    let z = skip-passable args.left.now p.new.left args.right.now args.frames.now p.new.frames args.start p.result w there sees in
    (g.room, one, omega (arith, one, z.small), z.inside, z.shallow, z.owes)

pub loop-left-smaller : goal.loop-left-smaller
loop-left-smaller c =
    let args = c.args in
    let loop = c.loop-left in
    let there = c.requires.1 in
    let b = c.nested.ensures c.loop-left-test.true in
    let y = enter-possible args.left.now loop.left args.right.now args.frames.now loop.frames args.start loop.s loop.invariant.0 there loop.invariant.1 in
    let p = c.enter-s in
    let g = enter-on loop.left p.new.left args.right.now loop.frames p.new.frames loop.s p.result loop.invariant.0.room y.0 p.ensures in
    let w = went_on args.left.now loop.left args.right.now args.frames.now loop.frames args.start loop.s loop.invariant.0 Enter p.new.left p.new.frames p.result loop.invariant.1 g in
    let sees = function-skipped loop.left p.new.left args.right.now loop.frames p.new.frames loop.s p.result loop.invariant.0.room y.1 b p.ensures g.room in
    let one = function-size loop.left p.new.left args.right.now loop.frames p.new.frames loop.s p.result loop.invariant.0.room y.1 b p.ensures in
    let z = skip-passable args.left.now p.new.left args.right.now args.frames.now p.new.frames args.start p.result w there sees in
    let q = c.pass_rows-s in
    let h = skip-on p.new.left q.new.left args.right.now p.new.frames q.new.frames p.result q.result g.room z q.ensures in
    omega (arith, g.less, h.less)

pub loop-left-preserved : goal.loop-left-preserved
loop-left-preserved c =
    let args = c.args in
    let loop = c.loop-left in
    let there = c.requires.1 in
    let b = c.nested.ensures c.loop-left-test.true in
    let y = enter-possible args.left.now loop.left args.right.now args.frames.now loop.frames args.start loop.s loop.invariant.0 there loop.invariant.1 in
    let p = c.enter-s in
    let g = enter-on loop.left p.new.left args.right.now loop.frames p.new.frames loop.s p.result loop.invariant.0.room y.0 p.ensures in
    let w = went_on args.left.now loop.left args.right.now args.frames.now loop.frames args.start loop.s loop.invariant.0 Enter p.new.left p.new.frames p.result loop.invariant.1 g in
    let sees = function-skipped loop.left p.new.left args.right.now loop.frames p.new.frames loop.s p.result loop.invariant.0.room y.1 b p.ensures g.room in
    let one = function-size loop.left p.new.left args.right.now loop.frames p.new.frames loop.s p.result loop.invariant.0.room y.1 b p.ensures in
    let z = skip-passable args.left.now p.new.left args.right.now args.frames.now p.new.frames args.start p.result w there sees in
    let q = c.pass_rows-s in
    let h = skip-on p.new.left q.new.left args.right.now p.new.frames q.new.frames p.result q.result g.room z q.ensures in (
      went_on args.left.now p.new.left args.right.now args.frames.now p.new.frames args.start p.result w Skip q.new.left q.new.frames q.result sees h,
      argument-waits loop.left p.new.left args.right.now loop.frames p.new.frames loop.s p.result loop.invariant.0.room y.1 b p.ensures q.new.left q.new.frames q.result g.room q.ensures h.room,
    )
