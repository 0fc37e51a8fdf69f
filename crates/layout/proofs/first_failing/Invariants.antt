-- From row i on as from the first.
use Prim.Native.Nat.{ℕ}
use mathlib.Core.Path.{◌≡◌}
use mathlib.Core.Bool.{Bool}
use mathlib.Core.List.{List}
use lib.ListN.{drop}
use Rattle.meaning.specs.Typing.{later}
use Rattle.meaning.specs.Records.{first_not}
use Rattle.layout.specs.Rows.{row_table, Tells}
use Rattle.layout.proofs.first_failing.Given as goal

abbrev pub invariant-loop-i : goal.invariant-loop-i
invariant-loop-i g l = (p : List ℕ → Bool) → Tells (goal.F-post g l.test) p → later l.i (first_not p (drop l.i (row_table l.rows))) ≡ first_not p (row_table l.rows)
