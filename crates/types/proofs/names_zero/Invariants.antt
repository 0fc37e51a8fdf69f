-- `types::names_zero` meets its contract: from the k-th name on as from the first. Assumes nothing.
use mathlib.Core.Path.{◌≡◌}
use lib.ListN.{drop}
use Rattle.meaning.specs.Bytes.{zeros}
use Rattle.types.specs.Table.{type_at, first_names}
use Rattle.types.proofs.names_zero.Given as goal

abbrev pub invariant-loop-k : goal.invariant-loop-k
invariant-loop-k l = zeros (drop l.k (first_names l.n (type_at l.types l.t))) ≡ zeros (first_names l.n (type_at l.types l.t))
