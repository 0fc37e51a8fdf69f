-- `types::parts_below` meets its contract: from the k-th type on as from the first. Assumes nothing.
use mathlib.Core.Path.{◌≡◌}
use lib.ListN.{drop}
use Rattle.meaning.specs.Types.{every, below}
use Rattle.types.specs.Table.{type_at, first_types}
use Rattle.types.proofs.parts_below.Given as goal

abbrev pub invariant-loop-k : goal.invariant-loop-k
invariant-loop-k l = every (below l.t) (drop l.k (first_types l.n (type_at l.types l.t))) ≡ every (below l.t) (first_types l.n (type_at l.types l.t))
