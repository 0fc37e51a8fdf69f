-- The loop's invariant: the arguments from the j-th on answer as all of them do.
use mathlib.Core.Path.{◌≡◌}
use Prim.Native.Nat.{◌+◌, ◌-◌}
use mathlib.Core.List.{map}
use Rattle.layout.specs.Rows.{row_table}
use Rattle.meaning.specs.Terms.{row_of, sizes, grove}
use Rattle.meaning.specs.Steps.{any_nil}
use Rattle.reduce.proofs.zips.any_nil.Given as goal

abbrev pub invariant-loop-j : goal.invariant-loop-j
invariant-loop-j l =
    (l.at ≡ l.first + sizes (grove (map row_of (row_table l.rows)) l.first l.j))
    × (any_nil l.left (grove (map row_of (row_table l.rows)) l.at (l.n - l.j)) ≡ any_nil l.m (grove (map row_of (row_table l.rows)) l.first l.n))
