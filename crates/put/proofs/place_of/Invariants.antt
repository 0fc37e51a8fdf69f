-- The names from the k-th on answer as all of them do.
use mathlib.Core.Path.{◌≡◌}
use lib.ListN.{drop}
use Rattle.put.specs.Put.{pick}
use Rattle.put.proofs.Turning.{shift, rests}
use Rattle.put.proofs.place_of.Given as goal

abbrev pub invariant-loop-k : goal.invariant-loop-k
invariant-loop-k l = shift l.k (pick (drop l.k l.names) (rests l.k l.m) l.x) ≡ pick l.names l.m l.x
