-- The loop's invariant: the search went on to a row that waits, and the whole is the same.
use Rattle.search.specs.Search.{Sees, Went, ahead}
use Rattle.search.specs.declared.Sight.TheVariants.{Enter}
use Rattle.search.proofs.enter_calls.Given as goal

abbrev pub invariant-loop-left : goal.invariant-loop-left
invariant-loop-left l = Went l.initial.left l.left l.right l.initial.frames l.frames l.initial.s l.s × Sees Enter l.left l.right l.frames l.s

abbrev pub decreases-loop-left : goal.decreases-loop-left
decreases-loop-left l = ahead l.right l.s
