-- The loop's invariant: the trees still owed from row i on end where the first tree ends, and it is a value if they are.
use Prim.Native.Nat.{◌+◌, ◌*◌, ◌-◌, ◌/◌, ◌≤◌}
use mathlib.Core.Path.{◌≡◌}
use lib.ListN.{length}
use Rattle.layout.specs.Rows.{term_rows}
use Rattle.meaning.specs.Terms.{size, sizes, tree_at, grove}
use Rattle.meaning.specs.Steps.{value, values}
use Rattle.search.proofs.value_rows.Given as goal

abbrev pub invariant-loop-owed : goal.invariant-loop-owed
invariant-loop-owed l = (l.i + sizes (grove (term_rows l.rows) l.i l.owed) ≡ size (tree_at (term_rows l.rows) 0)) × (values (grove (term_rows l.rows) l.i l.owed) ≡ value (tree_at (term_rows l.rows) 0)) × (l.owed ≤ 1 + 256 * l.i)

abbrev pub decreases-loop-owed : goal.decreases-loop-owed
decreases-loop-owed l = length l.rows / 8 - l.i
