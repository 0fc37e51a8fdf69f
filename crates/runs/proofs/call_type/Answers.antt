-- Read from the call's own row.
use Prim.Native.Nat.{ℕ, ◌*◌, ◌-◌}
use mathlib.Core.Path.{ap, ◌∙◌}
use mathlib.Core.List.{List}
use native.Mathlib.Omega.{arith}
use lib.ListN.{drop}
use Rattle.layout.specs.Rows.{board}
use Rattle.meaning.specs.Bytes.{number}
use Rattle.runs.proofs.PutBack.{record-long}
use Rattle.runs.proofs.GoingOn.{lent_rows}
use Rattle.runs.proofs.call_type.Goals as goal

pub overflow_add-p : goal.overflow_add-p
overflow_add-p c = omega (arith, c.rows_at-at.ensures, c.requires, record-long (board c.args.m))

pub overflow_add-q : goal.overflow_add-q
overflow_add-q c = omega (arith, c.rows_at-at.ensures, c.requires, record-long (board c.args.m))

pub slice_bounds-u16_at-end : goal.slice_bounds-u16_at-end
slice_bounds-u16_at-end c = omega (arith, c.rows_at-at.ensures, c.requires, record-long (board c.args.m))

pub returns : goal.returns
returns c = c.u16_at.ensures ∙ ap (λ (x : List ℕ). number 2 (drop 2 x)) (lent_rows (board c.args.m) c.args.kept.now c.rows_at-at.result (8 * (c.args.s.l - c.args.old)) (8 * c.args.old) c.rows_at-at.ensures)
