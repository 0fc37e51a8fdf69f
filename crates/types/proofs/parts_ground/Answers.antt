-- `types::parts_ground` meets its contract: from the k-th part on as from the first. Assumes nothing.
use mathlib.Core.Path.{refl}
use Rattle.types.specs.Table.{parts_ground}
use Rattle.types.proofs.parts_ground.Goals as goal

pub loop-k-init : goal.loop-k-init
loop-k-init c = (unfold parts_ground in refl, c.requires.2)
