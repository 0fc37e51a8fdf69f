-- The loop's invariant: as many entries are left to go as the count says, and they lead to the same row.
use Prim.Native.Nat.{◌+◌, ◌-◌}
use Rattle.terms.proofs.Scan.{hops-on}
use native.Mathlib.Omega.{arith}
use Rattle.terms.proofs.past.Goals as goal

pub offset_bounds-ends-e : goal.offset_bounds-ends-e
offset_bounds-ends-e c =
    let args = c.args in
    let loop = c.loop-k in
    let good = c.type_inv in
    let g = hops-on args.ends.now loop.e (args.n - loop.k) (args.n - (loop.k + 1)) (omega arith) loop.invariant.1 in
    omega (arith, g.0, good)

pub bounds-ends-e : goal.bounds-ends-e
bounds-ends-e c =
    let args = c.args in
    let loop = c.loop-k in
    let g = hops-on args.ends.now loop.e (args.n - loop.k) (args.n - (loop.k + 1)) (omega arith) loop.invariant.1 in
    omega (arith, g.0)
