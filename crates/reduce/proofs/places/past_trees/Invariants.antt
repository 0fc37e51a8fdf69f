-- The loop's invariant: behind so many trees.
use Prim.Native.Nat.{◌+◌}
use mathlib.Core.Path.{◌≡◌}
use mathlib.Core.List.{map}
use Rattle.layout.specs.Rows.{row_table}
use Rattle.meaning.specs.Terms.{row_of, sizes, grove}
use Rattle.reduce.proofs.places.past_trees.Given as goal

abbrev pub invariant-loop-tree : goal.invariant-loop-tree
invariant-loop-tree l = l.e ≡ l.at + sizes (grove (map row_of (row_table l.rows)) l.at l._tree)
