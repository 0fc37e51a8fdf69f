-- Each name that goes leaves the rest of its chain. Assumes nothing.
use native.Mathlib.Omega.{arith}
use Rattle.quick.proofs.Chains.{unbound_one}
use Rattle.quick.proofs.names.unbind.Goals as goal

pub loop-j-preserved : goal.loop-j-preserved
loop-j-preserved c = rw (c.name_in.ensures, c.link_in.ensures) (unbound_one _ _ _ c.loop-j.invariant (omega arith))
