-- The arrays hold no name at first. Assumes nothing.
use native.Mathlib.Omega.{arith}
use Rattle.quick.proofs.Turning.{unnamed}
use Rattle.quick.proofs.good_within.Goals as goal

pub walk-requires : goal.walk-requires
walk-requires g c =
    let pre = c.requires in
    (omega arith, unnamed g.row.NAMES (omega arith), pre.table.0, pre.table.1)
