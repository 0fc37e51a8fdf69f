-- The rows to come are lent to be scanned.
use Prim.Native.Nat.{◌*◌, ◌-◌, ◌≤◌}
use mathlib.Core.Path.{refl, ap, subst}
use native.Mathlib.Omega.{arith}
use lib.ListN.{length, take, drop}
use Rattle.layout.specs.Rows.{term_rows}
use Rattle.meaning.specs.Terms.{size, tree_at}
use Rattle.terms.proofs.Scan.{size-some}
use Rattle.search.specs.Kept.{tree_here}
use Rattle.search.specs.Search.{Spans, SpansHere}
use Rattle.search.specs.declared.Span.{Span}
use Rattle.search.proofs.Tables.{lent_length, lent-tree}
use Rattle.search.proofs.Values.{told_here, part-told}
use Rattle.search.proofs.value_here.Goals as goal

pub returns-then-s-eq0 : goal.returns-then-s-eq0
unfolding SpansHere
returns-then-s-eq0 c = tt

pub returns-then-r-far : goal.returns-then-r-far
unfolding SpansHere
returns-then-r-far c = tt

pub bounds-right-r : goal.bounds-right-r
bounds-right-r c =
    let args = c.args in
    omega (arith, size-some (tree_here args.right.now args.s.r), c.requires.3)

pub value_rows-requires : goal.value_rows-requires
value_rows-requires c =
    let args = c.args in
    let pre = c.requires in
    let x = take (length args.right.now - 8 * args.s.r) (drop (8 * args.s.r) args.right.now) in
    let h : 8 * args.s.r ≤ length args.right.now = omega (arith, pre.0) in
    let n = lent_length args.right.now x args.s.r h refl in
    let t = ap size (lent-tree args.right.now x args.s.r h refl) in
    (omega (arith, n, pre.2), omega (arith, n, t, pre.3))

pub returns-in-Whole : goal.returns-in-Whole
returns-in-Whole c =
    let args = c.args in
    let x = take (length args.right.now - 8 * args.s.r) (drop (8 * args.s.r) args.right.now) in
    let h : 8 * args.s.r ≤ length args.right.now = omega (arith, c.requires.0) in
    let t = lent-tree args.right.now x args.s.r h refl in
    let y = subst (λ (v : Span). Spans v (tree_at (term_rows x) 0)) c.in-Whole.is c.value_rows.ensures in
    told_here _ _ args.right.now args.s (omega arith) t y

pub overflow_add-result : goal.overflow_add-result
overflow_add-result c =
    let args = c.args in
    let pre = c.requires in
    let x = take (length args.right.now - 8 * args.s.r) (drop (8 * args.s.r) args.right.now) in
    let h : 8 * args.s.r ≤ length args.right.now = omega (arith, pre.0) in
    let t = ap size (lent-tree args.right.now x args.s.r h refl) in
    let y = subst (λ (v : Span). Spans v (tree_at (term_rows x) 0)) c.in-Part.is c.value_rows.ensures in
    omega (arith, part-told _ _ y, t, pre.0, pre.1, pre.3)

pub returns-in-Part : goal.returns-in-Part
unfolding SpansHere
returns-in-Part c = tt

pub returns : goal.returns
unfolding SpansHere
returns c = tt
