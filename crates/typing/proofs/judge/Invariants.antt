-- The loop's invariant: the rows before row i stand.
use Prim.Native.Nat.{◌/◌}
use lib.ListN.{length}
use Rattle.layout.specs.Rows.{term_rows}
use Rattle.rules.specs.Forms.{forms}
use Rattle.typing.proofs.Walking.{Stands}
use Rattle.typing.proofs.judge.Given as goal

abbrev pub invariant-loop-i : goal.invariant-loop-i
invariant-loop-i l = Stands (forms l.tree.types.now) (term_rows l.tree.rows.now) (length l.tree.rows.now / 8) l.initial.scope l.scope l.i
