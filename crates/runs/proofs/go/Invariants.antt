-- The loop's invariant: the buffers hold the term after the steps made so far. Each way out is a line of the table, or a call, or the term has outgrown the frames.
use Prim.Native.Nat.{◌-◌}
use mathlib.Core.Path.{◌≡◌}
use lib.ListN.{length}
use Rattle.layout.specs.Rows.{board}
use Rattle.runs.proofs.Looping.{Under}
use Rattle.runs.proofs.go.Given as goal

abbrev pub invariant-loop-kept : goal.invariant-loop-kept
invariant-loop-kept l = Under (board l.m) l.initial.kept l.budget l.kept l.work l.frames l.s l.made × (length l.work ≡ length l.initial.work) × (length l.frames ≡ length l.initial.frames) × (length l.fresh ≡ length l.initial.fresh)

abbrev pub decreases-loop-kept : goal.decreases-loop-kept
decreases-loop-kept l = l.budget - l.made
