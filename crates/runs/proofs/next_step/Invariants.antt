-- The loop's invariant: the search went on, and the whole is the same.
use Rattle.layout.specs.Rows.{board}
use Rattle.search.specs.Search.{ahead}
use Rattle.runs.proofs.Finds.{Went}
use Rattle.runs.proofs.next_step.Given as goal

abbrev pub invariant-loop-kept : goal.invariant-loop-kept
invariant-loop-kept l = Went (board l.m) l.initial.kept l.kept l.work l.initial.frames l.frames l.initial.s l.s

abbrev pub decreases-loop-kept : goal.decreases-loop-kept
decreases-loop-kept l = ahead l.work l.s
