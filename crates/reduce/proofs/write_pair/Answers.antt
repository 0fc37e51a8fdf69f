-- Five runs of rows, one behind the other.
use mathlib.Core.Path.{◌≡◌, ap, sym, ◌∙◌}
use native.Mathlib.Omega.{arith}
use Prim.Native.Nat.{ℕ, ◌+◌, ◌-◌}
use mathlib.Core.List.{List}
use lib.ListN.{length, take, drop}
use Rattle.layout.specs.Rows.{row_table}
use Rattle.layout.proofs.Tables.{row-table-length}
use Rattle.meaning.specs.Types.{form_of}
use Rattle.meaning.specs.Terms.{n_no, type_no}
use Rattle.put.specs.Put.{standing}
use Rattle.put.proofs.Loops.{standing-length}
use Rattle.reduce.proofs.Filled.{same_rows, pair-filled, pair-length, pair_same, part_length}
use Rattle.reduce.proofs.write_pair.Goals as goal

pub write_row-requires : goal.write_row-requires
write_row-requires c =
    let T = row_table c.args.rows.now in
    let F = form_of c.args.types.now in
    let pl = pair-length F T c.args.tail c.requires.1 c.requires.2 in
    let rt = row-table-length c.args.rows.now in
    omega (arith, pl, c.requires.3)

pub write_row-requires-2 : goal.write_row-requires-2
write_row-requires-2 c =
    let T = row_table c.args.rows.now in
    let F = form_of c.args.types.now in
    let pl = pair-length F T c.args.tail c.requires.1 c.requires.2 in
    let rt = row-table-length c.args.rows.now in
    omega (arith, pl, c.requires.3, c.write_row.auto.to)

pub copy_rows-requires : goal.copy_rows-requires
copy_rows-requires c =
    let T = row_table c.args.rows.now in
    let F = form_of c.args.types.now in
    let pl = pair-length F T c.args.tail c.requires.1 c.requires.2 in
    let rt = row-table-length c.args.rows.now in
    (omega (arith, pl, c.requires.3, c.requires.1, c.write_row.auto.to, c.write_row-2.auto.to), omega (arith, c.requires.1, c.requires.2, rt))

pub write_row-requires-3 : goal.write_row-requires-3
write_row-requires-3 c =
    let T = row_table c.args.rows.now in
    let F = form_of c.args.types.now in
    let pl = pair-length F T c.args.tail c.requires.1 c.requires.2 in
    let rt = row-table-length c.args.rows.now in
    omega (arith, pl, c.requires.3, c.requires.1, c.write_row.auto.to, c.write_row-2.auto.to, c.copy_rows.auto.to)

pub overflow_add-tail : goal.overflow_add-tail
overflow_add-tail c =
    let T = row_table c.args.rows.now in
    let F = form_of c.args.types.now in
    let pl = pair-length F T c.args.tail c.requires.1 c.requires.2 in
    let rt = row-table-length c.args.rows.now in
    omega (arith, c.requires.0, c.requires.2, rt)

pub overflow_sub-n : goal.overflow_sub-n
overflow_sub-n c =
    let T = row_table c.args.rows.now in
    let F = form_of c.args.types.now in
    let pl = pair-length F T c.args.tail c.requires.1 c.requires.2 in
    let rt = row-table-length c.args.rows.now in
    omega (arith, c.requires.2, rt, c.term_rows-n.ensures)

pub copy_rows-requires-2 : goal.copy_rows-requires-2
copy_rows-requires-2 c =
    let T = row_table c.args.rows.now in
    let F = form_of c.args.types.now in
    let pl = pair-length F T c.args.tail c.requires.1 c.requires.2 in
    let rt = row-table-length c.args.rows.now in
    (omega (arith, pl, c.requires.3, c.requires.1, c.requires.2, rt, c.term_rows-n.ensures, c.write_row.auto.to, c.write_row-2.auto.to, c.copy_rows.auto.to, c.write_row-3.auto.to), omega (arith, c.requires.2, rt, c.term_rows-n.ensures))

pub returns : goal.returns
returns c =
    let T = row_table c.args.rows.now in
    let F = form_of c.args.types.now in
    let pl = pair-length F T c.args.tail c.requires.1 c.requires.2 in
    let rt = row-table-length c.args.rows.now in
    let tl = c.args.tail in
    let n = c.term_rows-n.result in
    let tn : n ≡ length T = c.term_rows-n.ensures ∙ sym rt in
    pair-filled (row_table c.args.to.now) _ _ _ _ _ (standing T 2 tl) (take (n - tl) (drop tl T)) _ _ _ (tl - 2) (n - tl) tl (tl + 1) (standing-length T 2 tl c.requires.1 c.requires.2) (part_length T tl (n - tl) (omega (arith, tn, c.requires.2))) (omega (arith, c.requires.1)) (omega (arith, c.requires.1)) (omega (arith, row-table-length c.args.to.now, c.requires.3, pl, tn))
    (same_rows c.write_row.new.to c.args.to.now c.write_row.auto.to) (same_rows c.write_row-2.new.to c.args.to.now (c.write_row-2.auto.to ∙ c.write_row.auto.to)) (same_rows c.copy_rows.new.to c.args.to.now (c.copy_rows.auto.to ∙ c.write_row-2.auto.to ∙ c.write_row.auto.to)) (same_rows c.write_row-3.new.to c.args.to.now (c.write_row-3.auto.to ∙ c.copy_rows.auto.to ∙ c.write_row-2.auto.to ∙ c.write_row.auto.to)) (same_rows c.copy_rows-2.new.to c.args.to.now (c.copy_rows-2.auto.to ∙ c.write_row-3.auto.to ∙ c.copy_rows.auto.to ∙ c.write_row-2.auto.to ∙ c.write_row.auto.to))
    (rw c.made.ensures at c.write_row.ensures) (rw c.made-2.ensures at c.write_row-2.ensures) c.copy_rows.ensures (rw c.made-3.ensures at c.write_row-3.ensures) c.copy_rows-2.ensures
    ∙ pair_same F T tl c.requires.1 c.requires.2 _ _ _ n (ap (λ (r : List ℕ). type_no r) c.row_of-r.ensures.row) (ap (λ (r : List ℕ). n_no r) c.row_of-r.ensures.row) c.elem_of-e.ensures tn
