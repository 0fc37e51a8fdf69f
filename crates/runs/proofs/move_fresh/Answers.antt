-- One copy.
use Rattle.runs.proofs.Tries.{fresh-makes}
use native.Mathlib.Omega.{arith}
use mathlib.Core.Path.{refl}
use Rattle.runs.proofs.move_fresh.Goals as goal

pub returns : goal.returns
returns c =
    let a = c.args in
    let pre = c.requires in
    λ form left st. fresh-makes form left a.work.now _ a.fresh.now a.s _ a.x.old a.x.new pre.0 pre.1 (omega (arith, pre.2)) pre.4 pre.5 refl refl refl st c.copy_to.ensures c.copy_to.auto.dst
