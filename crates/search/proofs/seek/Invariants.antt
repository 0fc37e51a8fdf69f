-- The loop's invariant: the search went on, and the whole is the same.
use Rattle.search.specs.Search.{Went, ahead}
use Rattle.search.proofs.seek.Given as goal

abbrev pub invariant-loop-left : goal.invariant-loop-left
invariant-loop-left l = Went l.initial.left l.left l.right l.initial.frames l.frames l.initial.s l.s

abbrev pub decreases-loop-left : goal.decreases-loop-left
decreases-loop-left l = ahead l.right l.s
