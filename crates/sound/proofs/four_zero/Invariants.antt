-- `sound::four_zero` meets its contract: the greatest of the bytes passed in each part. Assumes nothing.
use Rattle.sound.proofs.Laws.{Bounds, fronts}
use Rattle.sound.proofs.four_zero.Given as goal

abbrev pub invariant-loop-i : goal.invariant-loop-i
invariant-loop-i l = Bounds (fronts l.a l.b l.c l.d l.i) l.most
