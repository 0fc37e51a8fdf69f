-- The loop's invariant: what is left of the table answers as the whole of it does.
use Prim.Native.Nat.{◌+◌, ◌*◌, ◌≤◌}
use mathlib.Core.Path.{◌≡◌}
use lib.ListN.{drop}
use Rattle.meaning.specs.Terms.{shape, shape_from}
use Rattle.terms.proofs.trees.whole_at_once.Given as goal

abbrev pub invariant-loop-i : goal.invariant-loop-i
invariant-loop-i l = record { few : l.owed ≤ 1 + 256 * l.i; rest : shape_from l.edition l.count (drop l.i l.rows) l.owed l.i ≡ shape l.edition l.count l.rows }
