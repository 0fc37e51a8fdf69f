-- The new entry begins its chain. Assumes nothing.
use Prim.Native.Nat.{suc, ◌-◌, ◌%◌}
use mathlib.Core.Path.{◌≡◌}
use native.Mathlib.Omega.{arith}
use lib.ListN.{get_or, length-set}
use Rattle.quick.specs.Names.{packed}
use Rattle.quick.proofs.Chains.{bound, scope-bound}
use Rattle.quick.proofs.names.bind.Goals as goal

pub returns : goal.returns
returns c =
    let args = c.args in
    let pre = c.requires in
    let es = args.bound.now in
    let hs = args.heads.now in
    let j = args.b - 1 in
    let e : suc j ≡ args.b = omega arith in
    rw c.entry.ensures (omega arith, length-set es j (packed args.x args.t (get_or hs (args.x % 256) 0)), bound es hs args.b pre.0 j args.x args.t e (omega arith) (omega arith), scope-bound es hs args.b pre.0 j args.x args.t e (omega arith) (omega arith))
