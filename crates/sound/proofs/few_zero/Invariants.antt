-- `sound::few_zero` meets its contract: the greatest of the bytes passed. Assumes nothing.
use lib.ListN.{take}
use Rattle.sound.proofs.Laws.{Bounds}
use Rattle.sound.proofs.few_zero.Given as goal

abbrev pub invariant-loop-b : goal.invariant-loop-b
invariant-loop-b l = Bounds (take l.b-index l.bytes) l.most
