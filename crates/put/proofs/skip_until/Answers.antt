-- The rows passed are none of the names and hide none.
use Prim.Native.Nat.{◌<◌}
use native.Mathlib.Omega.{arith}
use Rattle.layout.specs.Rows.{numbers}
use Rattle.put.specs.Put.{still}
use Rattle.put.proofs.Rows.{row_read, row-in}
use Rattle.put.proofs.Skipping.{skips-past, skips-few, skips-in}
use Rattle.put.proofs.skip_until.Goals as goal

pub loop-owed-init : goal.loop-owed-init
loop-owed-init g c = still

pub row_at-r-requires : goal.row_at-r-requires
row_at-r-requires g c = row-in c.args.rows.now c.loop-owed.i (skips-in c.requires.owing c.loop-owed.invariant (omega arith))

pub overflow_add-owed : goal.overflow_add-owed
overflow_add-owed g c = omega (arith, (skips-few c.requires.owing c.loop-owed.invariant).1, (c.requires.told _ _ c.children.ensures).1)

pub overflow_add-i : goal.overflow_add-i
overflow_add-i g c = omega (arith, (skips-few c.requires.owing c.loop-owed.invariant).0)

pub loop-owed-smaller : goal.loop-owed-smaller
loop-owed-smaller g c = omega (arith, skips-in c.requires.owing c.loop-owed.invariant (omega arith))

pub loop-owed-preserved : goal.loop-owed-preserved
loop-owed-preserved g c =
    let p = c.requires in
    let l = c.loop-owed in
    let h : 0 < l.owed = omega arith in
    let r = c.row_at-r.result in
    let m = c.may_touch.ensures c.if-may_touch.false in
    skips-past l.invariant h r (row_read c.args.rows.now l.i (numbers r) (skips-in p.owing l.invariant h) c.row_at-r.ensures) (record { other = m.0; out = m.1 }) (p.told _ _ c.children.ensures).0
