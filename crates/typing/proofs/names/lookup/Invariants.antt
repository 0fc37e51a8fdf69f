-- The loop's invariant: the binders from entry e on answer as those from v on do; each entry names an earlier row.
use Prim.Native.Nat.{◌/◌, ◌≤◌}
use mathlib.Core.Path.{◌≡◌}
use lib.ListN.{length}
use Rattle.layout.specs.Rows.{term_rows}
use Rattle.rules.specs.Forms.{forms}
use Rattle.typing.specs.Scope.{chain}
use Rattle.typing.proofs.names.lookup.Given as goal

abbrev pub invariant-loop-e : goal.invariant-loop-e
invariant-loop-e l = (l.e ≤ length l.rows / 8) × (chain (forms l.types) (term_rows l.rows) l.scope l.e l.e l.x ≡ chain (forms l.types) (term_rows l.rows) l.scope l.v l.v l.x)

abbrev pub decreases-loop-e : goal.decreases-loop-e
decreases-loop-e l = l.e
