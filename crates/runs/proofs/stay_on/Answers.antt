-- At a row, or at a frame's end, where nothing of the record changes.
use mathlib.Core.Path.{refl}
use Rattle.runs.proofs.stay_on.Goals as goal

pub returns : goal.returns
returns c = (record { front = refl; long = refl }, c.stay_end.ensures c.args.work.now c.requires.1 c.if-here.false)
