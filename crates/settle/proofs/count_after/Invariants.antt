-- `settle::count_after` meets its contract: the count of the rows passed. Assumes nothing.
use Prim.Native.Nat.{◌*◌, ◌≤◌}
use mathlib.Core.Path.{◌≡◌}
use lib.ListN.{length, take}
use Rattle.layout.specs.Rows.{row_table}
use Rattle.settle.specs.Settled.{settled}
use Rattle.settle.proofs.count_after.Given as goal

abbrev pub invariant-loop-i : goal.invariant-loop-i
invariant-loop-i l = (l.total ≤ 256 * l.i) × (l.total ≡ length (settled l.number (row_table l.value) (take l.i (row_table l.rows))))
