-- `types::same_row` meets its contract: the head, then from the k-th pair on as from the first. Assumes nothing.
use Prim.Native.Nat.{◌+◌, ◌*◌}
use mathlib.Core.Path.{◌≡◌}
use lib.ListN.{drop}
use Rattle.meaning.specs.Types.{same_numbers}
use Rattle.types.specs.Table.{type_at}
use Rattle.types.proofs.same_row.Given as goal

abbrev pub invariant-loop-k : goal.invariant-loop-k
invariant-loop-k l = same_numbers (drop (3 + 2 * l.k) (type_at l.types l.t)) (drop (3 + 2 * l.k) (type_at l.types l.u)) ≡ same_numbers (type_at l.types l.t) (type_at l.types l.u)
