-- There is a frame for each row that a term may have, so it is never outgrown.
use Prim.Native.Nat.{ℕ}
use native.Mathlib.Omega.{arith}
use lib.ListN.{length-replicate}
use Rattle.runs.proofs.Outgrown.{ended-says, left-says}
use Rattle.runs.proofs.run_far.Goals as goal

pub returns-in-Ended : goal.returns-in-Ended
returns-in-Ended c = ended-says _ _ _ _ _ _ _ _ c.ride_within-g.ensures _ c.in-Ended.is

pub returns-in-Left : goal.returns-in-Left
returns-in-Left c = let o = left-says _ _ _ _ _ _ _ _ c.ride_within-g.ensures _ c.in-Left.is in absurd (omega (arith, o.short, length-replicate {A = ℕ} 2048 0))
