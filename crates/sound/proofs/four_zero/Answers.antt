-- `sound::four_zero` meets its contract: the greatest of the bytes passed in each part. Assumes nothing.
use Rattle.sound.proofs.Laws.{fronts-none}
use Rattle.sound.proofs.four_zero.Goals as goal

pub loop-i-init : goal.loop-i-init
loop-i-init c =
    let args = c.args in
    fronts-none args.a.now args.b.now args.c.now args.d.now
