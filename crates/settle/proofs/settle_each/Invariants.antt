-- `settle::settle_each` meets its contract: the rows passed are settled, the others as they were. Assumes nothing.
use Prim.Native.Nat.{◌*◌}
use mathlib.Core.Path.{◌≡◌}
use mathlib.Core.List.{◌++◌}
use lib.ListN.{length, take, drop}
use Rattle.meaning.specs.Bytes.{writes, term_row}
use Rattle.layout.specs.Rows.{row_table}
use Rattle.settle.specs.Settled.{settled}
use Rattle.settle.proofs.settle_each.Given as goal

abbrev pub invariant-loop-i : goal.invariant-loop-i
invariant-loop-i l = (length l.rows ≡ length l.initial.rows) × (l.rows ≡ writes term_row (settled l.number (row_table l.value) (take l.i (row_table l.initial.rows))) ++ drop (8 * l.i) l.initial.rows)
