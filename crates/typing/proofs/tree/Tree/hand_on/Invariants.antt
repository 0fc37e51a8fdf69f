-- The loop's invariant: the children still to come end within the rows, and what is left to write gives the same array.
use Prim.Native.Nat.{◌+◌, ◌-◌, ◌/◌, ◌≤◌}
use mathlib.Core.Path.{◌≡◌}
use lib.ListN.{length}
use Rattle.meaning.specs.Terms.{sizes, grove}
use Rattle.layout.specs.Rows.{term_rows}
use Rattle.typing.specs.Scope.{hand_on, inner_of}
use Rattle.typing.proofs.tree.Tree.hand_on.Given as goal

abbrev pub invariant-loop-k : goal.invariant-loop-k
invariant-loop-k l =
    (l.p + sizes (grove (term_rows l.self.rows.now) l.p (l.k-end - l.k)) ≤ length l.self.rows.now / 8)
    × (hand_on (term_rows l.self.rows.now) (inner_of l.r.kind l.outer l.own) l.k (l.k-end - l.k) l.p l.scope ≡ hand_on (term_rows l.self.rows.now) (inner_of l.r.kind l.outer l.own) 0 l.k-end (l.i + 1) l.initial.scope)
