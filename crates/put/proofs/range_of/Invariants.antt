-- The names so far are in the range.
use Prim.Native.Nat.{ℕ, ◌≤◌, ◌<◌}
use lib.ListN.{get_or}
use Rattle.put.proofs.range_of.Given as goal

abbrev pub invariant-loop-y : goal.invariant-loop-y
invariant-loop-y l = (l.x.low ≤ l.x.high) × (l.x.high ≤ 65535) × ((j : ℕ) → j < l.y-index → (l.x.low ≤ get_or l.names j 0) × (get_or l.names j 0 ≤ l.x.high))
