-- The loop's invariant: the arguments from row `at` on, those that are left, answer as all do.
use Prim.Native.Nat.{◌+◌, ◌-◌, ◌≤◌}
use mathlib.Core.Path.{◌≡◌}
use mathlib.Core.List.{map}
use lib.ListN.{length}
use Rattle.layout.specs.Rows.{row_table}
use Rattle.meaning.specs.Terms.{row_of, sizes, grove}
use Rattle.meaning.specs.Steps.{ready}
use Rattle.reduce.proofs.zips.lists_from.Given as goal

abbrev pub invariant-loop-j : goal.invariant-loop-j
invariant-loop-j l =
    (l.at + sizes (grove (map row_of (row_table l.rows)) l.at (l.n - l.j + 1)) ≤ length (row_table l.rows))
    × (ready l.h (grove (map row_of (row_table l.rows)) l.at (l.n - l.j + 1)) ≡ ready l.m (grove (map row_of (row_table l.rows)) l.first l.n))
