-- `types::name_from` meets its contract: from the j-th name on as from the k-th. Assumes nothing.
use mathlib.Core.Path.{◌≡◌}
use lib.ListN.{drop}
use Rattle.meaning.specs.Types.{member}
use Rattle.types.specs.Table.{type_at, first_names}
use Rattle.types.proofs.name_from.Given as goal

abbrev pub invariant-loop-j : goal.invariant-loop-j
invariant-loop-j l = member l.x (drop l.j (first_names l.n (type_at l.types l.t))) ≡ member l.x (drop l.k (first_names l.n (type_at l.types l.t)))
