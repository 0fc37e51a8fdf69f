-- The loop's invariant: what was due is good if what is due now is. Assumes nothing.
use Prim.Native.Nat.{ℕ, ◌-◌}
use mathlib.Core.Path.{◌≡◌}
use mathlib.Core.Bool.{false}
use lib.ListN.{length}
use Rattle.meaning.specs.Types.{Form}
use Rattle.layout.specs.Rows.{row_table}
use Rattle.quick.specs.Dues.{Rises}
use Rattle.quick.proofs.rise.Given as goal

abbrev pub invariant-loop-p : goal.invariant-loop-p
invariant-loop-p l = (length l.bound ≡ length l.initial.bound) × (length l.heads ≡ length l.initial.heads) × (l.p.down ≡ false) × ((form : ℕ → Form) → Rises form (row_table l.rows) l.stack l.initial.bound l.bound l.heads l.initial.p l.p)

abbrev pub decreases-loop-p : goal.decreases-loop-p
decreases-loop-p l = length l.stack - l.p.s
