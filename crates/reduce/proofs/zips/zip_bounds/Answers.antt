-- All bounds but the last by a walk.
use Prim.Native.Nat.{ℕ, ◌+◌}
use mathlib.Core.Path.{sym, ◌∙◌}
use mathlib.Core.List.{map}
use native.Mathlib.Omega.{arith}
use Rattle.layout.specs.Rows.{row_table}
use Rattle.layout.proofs.Tables.{row-table-length}
use Rattle.meaning.specs.Terms.{row_of, sizes, grove}
use Rattle.reduce.proofs.LastBound.{one_less, place_set}
use Rattle.reduce.proofs.zips.zip_bounds.Goals as goal

pub fill_bounds-requires-2 : goal.fill_bounds-requires-2
fill_bounds-requires-2 c =
    let a = c.args in
    let pre = c.requires in
    let some = c.if-n-eq0.false in
    (pre.0, omega (arith, pre.1), omega (arith, pre.2), omega (arith, pre.3, one_less (map row_of (row_table a.rows.now)) a.first a.n some))

pub returns : goal.returns
returns c =
    let a = c.args in
    let pre = c.requires in
    let some = c.if-n-eq0.false in
    let fill = c.fill_bounds-2 in
    place_set fill.new.bounds a.n _ (λ (j : ℕ). a.first + sizes (grove (map row_of (row_table a.rows.now)) a.first j)) some (omega (arith, pre.0, pre.2, fill.auto.bounds)) (c.term_rows.ensures ∙ sym (row-table-length a.rows.now) ∙ sym pre.3) fill.ensures
