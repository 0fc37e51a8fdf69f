-- The loop's invariant: behind so many trees.
use Prim.Native.Nat.{ℕ, ◌+◌, ◌≤◌}
use mathlib.Core.Path.{ap}
use mathlib.Core.List.{map}
use native.Mathlib.Omega.{arith}
use native.Mathlib.Numerals.{add-one}
use lib.ListN.{length}
use Rattle.layout.specs.Rows.{row_table}
use Rattle.layout.proofs.Tables.{row-table-length}
use Rattle.meaning.specs.Terms.{row_of, size, tree_at}
use Rattle.terms.proofs.Scan.{grove-none}
use Rattle.reduce.proofs.Roots.{grove-part, grove-last}
use Rattle.reduce.proofs.places.past_trees.Goals as goal

pub loop-tree-init : goal.loop-tree-init
loop-tree-init c = omega (arith, grove-none (map row_of (row_table c.args.rows.now)) c.args.at)

pub end_of-e-requires : goal.end_of-e-requires
end_of-e-requires c =
    let a = c.args in
    let l = c.loop-tree in
    let L = map row_of (row_table a.rows.now) in
    let g = grove-part L l._tree a.at a.n (omega arith) in
    let q : l.e + size (tree_at L l.e) ≤ length (row_table a.rows.now) = rw l.invariant (omega (arith, g, c.requires.1)) in
    (omega (arith, c.requires.0), omega (arith, q, row-table-length a.rows.now))

pub loop-tree-preserved : goal.loop-tree-preserved
loop-tree-preserved c =
    let a = c.args in
    let l = c.loop-tree in
    let L = map row_of (row_table a.rows.now) in
    let g = grove-last L l._tree a.at in
    let s = ap (λ (x : ℕ). x + size (tree_at L x)) l.invariant in
    rw (add-one l._tree) (omega (arith, c.end_of-e.ensures, s, g))
