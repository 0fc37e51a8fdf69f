-- The arrays are as long as they are to be.
use Prim.Native.Nat.{ℕ}
use native.Mathlib.Omega.{arith}
use lib.ListN.{length-replicate}
use Rattle.runs.proofs.ride_within.Goals as goal

pub ride-requires : goal.ride-requires
ride-requires g c = (c.requires.ready, omega (arith, c.requires.fresh, length-replicate {A = ℕ} g.row.FRESH 0))
