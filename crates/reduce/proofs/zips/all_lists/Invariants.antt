-- The loop's invariant: the arguments from the j-th on answer as all of them do.
use mathlib.Core.Path.{◌≡◌}
use Prim.Native.Nat.{◌+◌, ◌-◌}
use mathlib.Core.List.{map}
use Rattle.layout.specs.Rows.{row_table}
use Rattle.meaning.specs.Terms.{row_of, sizes, grove}
use Rattle.meaning.specs.Steps.{ready}
use Rattle.reduce.proofs.zips.all_lists.Given as goal

abbrev pub invariant-loop-j : goal.invariant-loop-j
invariant-loop-j l =
    (l.at ≡ l.first + sizes (grove (map row_of (row_table l.rows)) l.first l.j))
    × (ready l.left (grove (map row_of (row_table l.rows)) l.at (l.n - l.j)) ≡ ready l.m (grove (map row_of (row_table l.rows)) l.first l.n))
