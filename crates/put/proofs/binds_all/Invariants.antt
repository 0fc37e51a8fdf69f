-- The names so far are the function's.
use Prim.Native.Nat.{ℕ, ◌<◌}
use mathlib.Core.Path.{◌≡◌}
use mathlib.Core.Bool.{true}
use lib.ListN.{get_or}
use Rattle.meaning.specs.Types.{form_of, params, find}
use Rattle.std.specs.Prelude.{is_some}
use Rattle.put.proofs.binds_all.Given as goal

abbrev pub invariant-loop-k : goal.invariant-loop-k
invariant-loop-k l = (j : ℕ) → j < l.k → is_some (find (params (form_of l.types l.t)) (get_or l.names j 0)) ≡ true
