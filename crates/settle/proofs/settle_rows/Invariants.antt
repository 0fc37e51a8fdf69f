-- `settle::settle_rows` meets its contract: what is written is the rows passed, settled. Assumes nothing.
use Prim.Native.Nat.{◌*◌}
use mathlib.Core.Path.{◌≡◌}
use mathlib.Core.List.{◌++◌}
use lib.ListN.{length, take, drop}
use Rattle.meaning.specs.Bytes.{writes, term_row}
use Rattle.layout.specs.Rows.{row_table}
use Rattle.settle.specs.Settled.{settled}
use Rattle.settle.proofs.settle_rows.Given as goal

abbrev pub invariant-loop-i : goal.invariant-loop-i
invariant-loop-i l = (l.out ≡ 8 * length (settled l.number (row_table l.value) (take l.i (row_table l.rows)))) × (length l.work ≡ length l.initial.work) × (l.work ≡ writes term_row (settled l.number (row_table l.value) (take l.i (row_table l.rows))) ++ drop l.out l.initial.work)
