-- A row, and the body behind it.
use mathlib.Core.Path.{◌≡◌, refl, ap, sym, ◌∙◌}
use native.Mathlib.Omega.{arith}
use Prim.Native.Nat.{ℕ, ◌-◌}
use mathlib.Core.List.{List, ◌∷◌, []}
use lib.ListN.{length, take, drop, length-drop}
use lib.Seq.{length-take-le}
use Rattle.layout.specs.Rows.{row_table}
use Rattle.layout.proofs.Tables.{row-table-length}
use Rattle.meaning.specs.Types.{form_of}
use Rattle.meaning.specs.Terms.{type_no}
use Rattle.reduce.specs.Given.{tie_row}
use Rattle.reduce.proofs.Roots.{whole_in, some-row}
use Rattle.reduce.proofs.Filled.{filled_row}
use Rattle.reduce.proofs.Quiet.{redex-front}
use Rattle.reduce.proofs.Told.{tied-rows, tail-lent}
use Rattle.reduce.proofs.puts.write_tie.Goals as goal

pub row_of-r-requires : goal.row_of-r-requires
row_of-r-requires c =
    let T = row_table c.args.rows.now in
    let R = c.requires.0 in
    some-row T (whole_in R.one)

pub tie_puts-p-requires : goal.tie_puts-p-requires
tie_puts-p-requires c =
    let R = c.requires.0 in
    (redex-front c.args.rows.now R, c.requires.1, c.term_rows.ensures ∙ sym (row-table-length c.args.rows.now) ∙ sym R.one)

pub write_row-requires : goal.write_row-requires
write_row-requires c =
    let T = row_table c.args.rows.now in
    let R = c.requires.0 in
    let F = form_of c.args.types.now in
    let tr = tied-rows F T c.tie_puts-p.result c.tie_puts-p.ensures in
    let ln = ap (λ (x : List (List ℕ)). length x) tr in
    omega (arith, c.requires.2, ln)

pub slice_bounds-write_puts-count : goal.slice_bounds-write_puts-count
slice_bounds-write_puts-count c =
    let T = row_table c.args.rows.now in
    let R = c.requires.0 in
    let F = form_of c.args.types.now in
    let tr = tied-rows F T c.tie_puts-p.result c.tie_puts-p.ensures in
    let ln = ap (λ (x : List (List ℕ)). length x) tr in
    omega (arith, c.requires.2, ln, c.write_row.auto.to)

pub slice_bounds-write_puts-start : goal.slice_bounds-write_puts-start
slice_bounds-write_puts-start c =
    let T = row_table c.args.rows.now in
    let R = c.requires.0 in
    let F = form_of c.args.types.now in
    let tr = tied-rows F T c.tie_puts-p.result c.tie_puts-p.ensures in
    let ln = ap (λ (x : List (List ℕ)). length x) tr in
    omega (arith, c.requires.2, ln, c.write_row.auto.to)

pub write_puts-requires : goal.write_puts-requires
write_puts-requires c =
    let T = row_table c.args.rows.now in
    let R = c.requires.0 in
    let F = form_of c.args.types.now in
    let tr = tied-rows F T c.tie_puts-p.result c.tie_puts-p.ensures in
    let ln = ap (λ (x : List (List ℕ)). length x) tr in
    let u = c.write_row.new.to in
    let k : length u ≡ length c.args.to.now = c.write_row.auto.to in
    let lt : length (take (length u - 8) (drop 8 u)) ≡ length u - 8 = length-take-le (length u - 8) (drop 8 u) (rw (length-drop 8 u) (omega arith)) in
    (c.tie_puts-p.ensures.few, c.tie_puts-p.ensures.ready, lt ∙ omega (arith, c.requires.2, ln, k))

pub returns : goal.returns
returns c =
    let T = row_table c.args.rows.now in
    let R = c.requires.0 in
    let F = form_of c.args.types.now in
    let tr = tied-rows F T c.tie_puts-p.result c.tie_puts-p.ensures in
    let ln = ap (λ (x : List (List ℕ)). length x) tr in
    let u = c.write_row.new.to in
    let k : length u ≡ length c.args.to.now = c.write_row.auto.to in
    let x : List ℕ = 6 ∷ 0 ∷ c.row_of-r.result.ty ∷ 0 ∷ [] in
    let f : take 1 (row_table u) ≡ x ∷ [] = filled_row (row_table c.args.to.now) (row_table u) [] 0 x refl (omega (arith, c.requires.2, ln, row-table-length c.args.to.now)) (rw c.made.ensures at c.write_row.ensures) in
    let f' : take 1 (row_table u) ≡ tie_row T ∷ [] = f ∙ ap (λ (t : ℕ). (6 ∷ 0 ∷ t ∷ 0 ∷ []) ∷ []) (sym (ap (λ (r : List ℕ). type_no r) c.row_of-r.ensures.row)) in
    tail-lent u c.write_puts.new.to (tie_row T) _ (length u - 8) (omega (arith, c.requires.2, ln, k)) f' c.write_puts.ensures (omega arith) ∙ sym tr
