-- The loop's invariant: the trees still owed from row i on end where the tree at row `at` ends.
use Rattle.std.proofs.Common.{◌≡◌, ◌+◌, ◌*◌, ◌-◌, ◌≤◌, length, map}
use Rattle.meaning.specs.Terms.{row_of, size, sizes, tree_at, grove}
use Rattle.terms.proofs.trees.end_of.Given as goal

abbrev pub invariant-loop-owed : goal.invariant-loop-owed
invariant-loop-owed l = (l.i + sizes (grove (map row_of l.rows) l.i l.owed) ≡ l.at + size (tree_at (map row_of l.rows) l.at)) × (l.owed ≤ 1 + 256 * l.i)

abbrev pub decreases-loop-owed : goal.decreases-loop-owed
decreases-loop-owed l = length l.rows - l.i
