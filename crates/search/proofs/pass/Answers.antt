-- A row with no tree below it is one row; the rows of another tree are counted.
use Prim.Native.Nat.{ℕ, ◌*◌, ◌-◌, ◌≤◌}
use mathlib.Core.Path.{◌≡◌, refl, ap, sym, ◌∙◌}
use mathlib.Core.List.{List}
use native.Mathlib.Omega.{arith}
use lib.ListN.{length, take, drop}
use Rattle.meaning.specs.Terms.{arity, row_of, size}
use Rattle.terms.proofs.Scan.{size-some}
use Rattle.search.specs.Kept.{tree_here}
use Rattle.search.proofs.Tables.{lent_length, lent-tree}
use Rattle.search.proofs.Values.{one-row-tree}
use Rattle.search.proofs.pass.Goals as goal

pub row_at-requires : goal.row_at-requires
row_at-requires c =
    let args = c.args in
    let pre = c.requires in
    omega (arith, size-some (tree_here args.right.now args.s.r), pre.1, pre.0.ends)

pub pass_rows-requires : goal.pass_rows-requires
pass_rows-requires c =
    let args = c.args in
    let pre = c.requires in
    let some = size-some (tree_here args.right.now args.s.r) in
    let none = sym (c.children.ensures.0 ∙ ap (λ (x : List ℕ). arity (row_of x).head) c.row_at.ensures) ∙ c.if-children-eq0.true in
    let n = one-row-tree args.right.now args.s.r (omega (arith, some, pre.1)) none in
    (pre.0, n, omega (arith, n, pre.1), pre.2, pre.3, pre.4)

pub end_of-n-requires : goal.end_of-n-requires
end_of-n-requires c =
    let args = c.args in
    let pre = c.requires in
    let x = take (length args.right.now - 8 * args.s.r) (drop (8 * args.s.r) args.right.now) in
    let h : 8 * args.s.r ≤ length args.right.now = omega (arith, pre.0.ends) in
    let n = lent_length args.right.now x args.s.r h refl in
    let t = ap size (lent-tree args.right.now x args.s.r h refl) in
    (omega (arith, n, pre.0.few), omega (arith, n, t, pre.1))

pub pass_rows-requires-2 : goal.pass_rows-requires-2
pass_rows-requires-2 c =
    let args = c.args in
    let pre = c.requires in
    let x = take (length args.right.now - 8 * args.s.r) (drop (8 * args.s.r) args.right.now) in
    let h : 8 * args.s.r ≤ length args.right.now = omega (arith, pre.0.ends) in
    let n : size (tree_here args.right.now args.s.r) ≡ c.end_of-n.result = omega (arith, c.end_of-n.ensures, ap size (lent-tree args.right.now x args.s.r h refl)) in
    (pre.0, n, omega (arith, n, pre.1), pre.2, pre.3, pre.4)
