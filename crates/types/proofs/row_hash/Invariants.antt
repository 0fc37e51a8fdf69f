-- `types::row_hash` meets its contract: the sum so far with what the pairs from the k-th on weigh is the whole sum. Assumes nothing.
use Prim.Native.Nat.{◌+◌, ◌*◌, ◌<◌, ◌≤◌}
use mathlib.Core.Path.{◌≡◌}
use lib.ListN.{drop}
use Rattle.meaning.specs.Types.{form_no, parts_no, result_no}
use Rattle.types.specs.Table.{type_at}
use Rattle.types.specs.Chains.{weigh}
use Rattle.types.proofs.row_hash.Given as goal

abbrev pub invariant-loop-k : goal.invariant-loop-k
invariant-loop-k l =
    (l.sum ≤ 281474976710656 * l.k + 281474976710656)
    × (l.weight < 65536)
    × (l.sum + weigh (drop (3 + 2 * l.k) (type_at l.types l.t)) l.weight ≡ form_no (type_at l.types l.t) + 256 * parts_no (type_at l.types l.t) + 65536 * result_no (type_at l.types l.t) + weigh (drop 3 (type_at l.types l.t)) 37)
