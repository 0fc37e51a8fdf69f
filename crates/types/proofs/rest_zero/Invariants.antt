-- `types::rest_zero` meets its contract: the greatest pair so far, and the pairs to come. Assumes nothing.
use Prim.Native.Nat.{◌+◌, ◌*◌, max}
use mathlib.Core.Path.{◌≡◌}
use lib.Dec.{eqb}
use lib.ListN.{drop}
use Rattle.meaning.specs.Bytes.{◌∧ᵇ◌, zeros}
use Rattle.types.specs.Table.{type_at}
use Rattle.types.proofs.rest_zero.Given as goal

abbrev pub invariant-loop-k : goal.invariant-loop-k
invariant-loop-k l = (eqb l.most 0 ∧ᵇ zeros (drop (3 + 2 * max l.n l.k) (type_at l.types l.t))) ≡ zeros (drop (3 + 2 * l.n) (type_at l.types l.t))
