-- The limits are the arm's.
use Rattle.runs.proofs.Outgrown.{arm-ready, arm-gone}
use Rattle.runs.proofs.ride.Goals as goal

pub go-requires : goal.go-requires
go-requires c = (arm-ready _ c.arm_limits.ensures _ _ _ c.requires.0, c.requires.1)

pub returns : goal.returns
returns c = arm-gone _ c.arm_limits.ensures _ _ _ _ _ _ _ c.go.ensures
