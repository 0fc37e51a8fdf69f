-- `sound::few_zero` meets its contract: the greatest of the bytes passed. Assumes nothing.
use Rattle.sound.proofs.Laws.{bounds-none}
use Rattle.sound.proofs.few_zero.Goals as goal

pub loop-b-init : goal.loop-b-init
loop-b-init c = bounds-none c.args.bytes.now
