-- The loop's invariant: what is due is good only if the whole is, and there is a future only where one was seen. Assumes nothing.
use Prim.Native.Nat.{◌-◌, ◌/◌}
use mathlib.Core.Path.{◌≡◌}
use mathlib.Core.Bool.{false}
use mathlib.Core.List.{[], ◌∷◌}
use lib.ListN.{length}
use Rattle.meaning.specs.Terms.{ty_of, tree_at}
use Rattle.layout.specs.Rows.{row_table, term_rows}
use Rattle.rules.specs.Forms.{forms}
use Rattle.quick.specs.Names.{in_scope}
use Rattle.quick.specs.Dues.{wanted, dues, Arrays, Good}
use Rattle.quick.proofs.Turning.{Still}
use Rattle.quick.proofs.walk.Given as goal

abbrev pub invariant-loop-p : goal.invariant-loop-p
invariant-loop-p l =
    Arrays l.stack l.bound l.heads l.p × (length l.stack ≡ length l.initial.stack) × (length l.bound ≡ length l.initial.bound) × (length l.heads ≡ length l.initial.heads)
    × (Good 1 (length l.types) (forms l.types) (row_table l.rows) (wanted (ty_of (tree_at (term_rows l.rows) l.p.i)) ∷ dues l.stack l.p.s) (in_scope l.bound l.p.b) l.p.i
    → Good 1 (length l.types) (forms l.types) (row_table l.rows) (wanted (ty_of (tree_at (term_rows l.rows) 0)) ∷ []) [] 0)
    × (l.p.future ≡ false → Still (row_table l.rows) l.p.i → Still (row_table l.rows) 0)

abbrev pub decreases-loop-p : goal.decreases-loop-p
decreases-loop-p l = length l.rows / 8 - l.p.i
