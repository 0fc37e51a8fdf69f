-- The mask so far is that of the names from the k-th on.
use mathlib.Core.Path.{◌≡◌}
use lib.ListN.{drop}
use Rattle.layout.specs.Rows.{numbers}
use Rattle.meaning.specs.Terms.{row_of}
use Rattle.meaning.specs.Types.{form_of}
use Rattle.put.specs.Put.{mark, binds}
use Rattle.put.proofs.Turning.{rests}
use Rattle.put.proofs.marked.Given as goal

abbrev pub invariant-loop-k : goal.invariant-loop-k
invariant-loop-k l = l.x ≡ mark (binds (form_of l.types) (row_of (numbers l.r)).head (row_of (numbers l.r)).type) (drop l.k l.names) (rests l.k l.m)
