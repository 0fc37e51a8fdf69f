-- One row is the table.
use mathlib.Core.Path.{◌≡◌, refl, ap, sym, ◌∙◌}
use native.Mathlib.Omega.{arith}
use Prim.Native.Nat.{ℕ}
use mathlib.Core.List.{List, ◌∷◌, []}
use lib.ListN.{take}
use Rattle.layout.specs.Kinds.{number_of}
use Rattle.layout.specs.Rows.{row_table}
use Rattle.layout.proofs.Tables.{row-table-length}
use Rattle.meaning.specs.Terms.{type_no}
use Rattle.reduce.proofs.Filled.{same_rows, filled_row, filled}
use Rattle.reduce.proofs.write_leaf.Goals as goal

pub returns : goal.returns
returns c =
    let T = row_table c.args.rows.now in
    let u = c.write_row.new.to in
    let rt = row-table-length c.args.to.now in
    let x : List ℕ = number_of c.args.kind ∷ 0 ∷ c.row_of-r.result.ty ∷ 0 ∷ [] in
    let f : take 1 (row_table u) ≡ x ∷ [] = filled_row (row_table c.args.to.now) (row_table u) [] 0 x refl (omega (arith, rt, c.requires.1)) (rw c.made.ensures at c.write_row.ensures) in
    filled (row_table u) (x ∷ []) 1 f (omega (arith, same_rows u c.args.to.now c.write_row.auto.to, rt, c.requires.1))
    ∙ ap (λ (t : ℕ). (number_of c.args.kind ∷ 0 ∷ t ∷ 0 ∷ []) ∷ []) (sym (ap (λ (r : List ℕ). type_no r) c.row_of-r.ensures.row))
