-- The loop's invariant: the rows taken and those left are all.
use mathlib.Core.Path.{◌≡◌}
use mathlib.Core.Bool.{true}
use mathlib.Core.List.{List, ◌++◌}
use Prim.Native.Nat.{ℕ}
use Rattle.layout.specs.Rows.{row_table}
use Rattle.reduce.specs.Halves.{half_of}
use Rattle.reduce.specs.Taking.{Takes}
use Rattle.reduce.proofs.Parted.{Going, left_of}
use Rattle.reduce.proofs.zips.take_half.Given as goal

abbrev pub invariant-loop-j : goal.invariant-loop-j
invariant-loop-j g l =
    Going (row_table l.rows) l.z.first l.z.n l.h l.at l.j
    × ((y : List (List ℕ)) × Takes g.S.Sink.holds g.S.Sink.room g.S.Sink.loan l.initial.sink l.sink true y × (y ++ left_of (row_table l.rows) l.h l.at l.z.n l.j l.z.tails ≡ half_of (row_table l.rows) l.z.first l.z.n l.z.mask l.z.tails))
