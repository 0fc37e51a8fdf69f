-- A row, and the pass over the body behind it.
use Prim.Native.Nat.{ℕ, ◌-◌}
use mathlib.Core.Path.{◌≡◌, refl, ap, sym, ◌∙◌}
use mathlib.Core.List.{List, [], ◌∷◌}
use native.Mathlib.Omega.{arith}
use lib.ListN.{length}
use Rattle.layout.specs.Rows.{row_table, term_rows}
use Rattle.layout.proofs.Tables.{row-table-length}
use Rattle.meaning.specs.Types.{form_of, params}
use Rattle.meaning.specs.Terms.{type_no, size, tree_of}
use Rattle.meaning.proofs.Trees.Parse.{tree-at-zero}
use Rattle.reduce.specs.Given.{tie_row}
use Rattle.reduce.proofs.Roots.{some-row}
use Rattle.reduce.proofs.Bound.{some-bound}
use Rattle.reduce.proofs.Filled.{filled_row}
use Rattle.reduce.proofs.Told.{tail-lent}
use Rattle.reduce.proofs.Given.{fix-more, tie-puts}
use Rattle.reduce.proofs.AtOnce.{tied-once, pass-few}
use borrow.Author.Rules.{rules}
use Rattle.reduce.proofs.once.tie_once.Goals as goal

pub row_of-r-requires : goal.row_of-r-requires
row_of-r-requires c = some-row (row_table c.args.rows.now) c.requires.0.inside

pub end_of-old-requires : goal.end_of-old-requires
end_of-old-requires c =
    let R = c.requires.0 in
    (omega (arith, R.few, row-table-length c.args.rows.now), omega (arith, R.inside, ap size (tree-at-zero (term_rows c.args.rows.now)), row-table-length c.args.rows.now))

pub row_of-c-requires : goal.row_of-c-requires
row_of-c-requires c =
    let R = c.requires.0 in
    fix-more (row_table c.args.rows.now) R.exact R.inside c.requires.1.0

pub param_name-name-requires : goal.param_name-name-requires
param_name-name-requires c =
    let F = form_of c.args.types.now in
    let u = ap (λ (r : List ℕ). type_no r) c.row_of-c.ensures.row in
    omega (arith, some-bound _ c.requires.1.2, ap (λ (t : ℕ). length (params (F t))) u)

pub put_one-requires : goal.put_one-requires
put_one-requires c =
    let T = row_table c.args.rows.now in
    let R = c.requires.0 in
    let F = form_of c.args.types.now in
    let old : c.end_of-old.result ≡ size (tree_of (term_rows c.args.rows.now)) = c.end_of-old.ensures ∙ omega (arith, ap size (tree-at-zero (term_rows c.args.rows.now))) in
    let d = tie-puts T R.exact R.inside R.few F c.requires.1 _ _ _ [] [] (ap (λ (r : List ℕ). type_no r) c.row_of-c.ensures.row) c.param_name-name.ensures old in
    (d.ready, R.exact, search rules)

pub overflow_add-result : goal.overflow_add-result
overflow_add-result c =
    let T = row_table c.args.rows.now in
    let R = c.requires.0 in
    omega (arith, pass-few (form_of c.args.types.now) T _ _ _ _ _ R.few c.in_ok-body.ensures)

pub returns : goal.returns
returns c =
    let T = row_table c.args.rows.now in
    let R = c.requires.0 in
    let F = form_of c.args.types.now in
    let u = c.write_row.new.to in
    let k : length u ≡ length c.args.to.now = c.write_row.auto.to in
    let x : List ℕ = 6 ∷ 0 ∷ c.row_of-r.result.ty ∷ 0 ∷ [] in
    let f = filled_row (row_table c.args.to.now) (row_table u) [] 0 x refl (omega (arith, c.if-to-lt-TERM_ROW.false, row-table-length c.args.to.now)) (rw c.made.ensures at c.write_row.ensures) in
    let g = f ∙ ap (λ (t : ℕ). (6 ∷ 0 ∷ t ∷ 0 ∷ []) ∷ []) (sym (ap (λ (r : List ℕ). type_no r) c.row_of-r.ensures.row)) in
    let e = tail-lent u c.put_one.new.to (tie_row T) _ (length u - 8) (omega (arith, c.if-to-lt-TERM_ROW.false, k)) g refl (omega arith) in
    let old : c.end_of-old.result ≡ size (tree_of (term_rows c.args.rows.now)) = c.end_of-old.ensures ∙ omega (arith, ap size (tree-at-zero (term_rows c.args.rows.now))) in
    let d = tie-puts T R.exact R.inside R.few F c.requires.1 _ _ _ [] [] (ap (λ (r : List ℕ). type_no r) c.row_of-c.ensures.row) c.param_name-name.ensures old in
    tied-once F T _ _ d _ _ _ c.in_ok-body.ensures e old
