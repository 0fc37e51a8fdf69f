-- `settle::settle_each` meets its contract: the rows passed are settled, the others as they were. Assumes nothing.
use Prim.Native.Nat.{ℕ, ◌*◌}
use mathlib.Core.Path.{refl, sym, ap, ◌∙◌}
use mathlib.Core.List.{List, ◌++◌, append-nil}
use native.Mathlib.Omega.{arith}
use lib.ListN.{drop, drop_of_length-le}
use Rattle.meaning.specs.Bytes.{writes, term_row}
use Rattle.layout.specs.Rows.{row_table}
use Rattle.layout.proofs.Tables.{row-table-length}
use Rattle.settle.proofs.Rows.{all-rows, no_rows}
use Rattle.settle.proofs.settle_each.Goals as goal

pub loop-i-init : goal.loop-i-init
loop-i-init c =
    let a = c.args in
    (refl, unfold writes in ap (λ (x : List (List ℕ)). writes term_row x ++ a.rows.now) (sym (no_rows a.number (row_table a.value.now) (row_table a.rows.now))))

pub returns : goal.returns
returns c =
    let a = c.args in
    let l = c.loop-i in
    let z = row-table-length a.rows.now in
    l.invariant.1
    ∙ ap (λ (x : List (List ℕ)). writes term_row x ++ drop (8 * l.i) a.rows.now) (all-rows a.number (row_table a.value.now) (row_table a.rows.now) l.i (omega arith))
    ∙ rw (drop_of_length-le a.rows.now {i = 8 * l.i} (omega arith)) (append-nil _)
