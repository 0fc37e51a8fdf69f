-- `types::is_fresh` meets its contract: before row j of the chain as before row t. Assumes nothing.
use Prim.Native.Nat.{◌-◌, ◌<◌, ◌≤◌}
use mathlib.Core.Path.{◌≡◌}
use Rattle.meaning.specs.Types.{fresh}
use Rattle.types.specs.Table.{type_at, rows_before}
use Rattle.types.specs.Chains.{hash_at}
use Rattle.types.proofs.is_fresh.Given as goal

abbrev pub invariant-loop-j : goal.invariant-loop-j
invariant-loop-j l = (l.j ≤ l.t) × (0 < l.j → hash_at l.types (l.j - 1) ≡ hash_at l.types l.t) × (fresh (rows_before l.types l.j) (type_at l.types l.t) ≡ fresh (rows_before l.types l.t) (type_at l.types l.t))

abbrev pub decreases-loop-j : goal.decreases-loop-j
decreases-loop-j l = l.j
