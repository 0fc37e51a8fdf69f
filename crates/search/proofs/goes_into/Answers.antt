-- A row that waits is entered, but for a zip whose lists are there.
use Prim.Native.Nat.{◌*◌, ◌-◌, ◌≤◌}
use mathlib.Core.Path.{refl, ap, sym, ◌∙◌}
use native.Mathlib.Omega.{arith}
use lib.ListN.{length, take, drop}
use borrow.Author.Tests.{not-false}
use Rattle.layout.specs.Rows.{term_rows}
use Rattle.layout.proofs.Tables.{row-table-length}
use Rattle.meaning.specs.Terms.{size}
use Rattle.meaning.proofs.Trees.Parse.{tree-at-zero}
use Rattle.search.specs.Frames.{tree_zips_lists}
use Rattle.search.proofs.Tables.{lent_length, lent-tree}
use Rattle.search.proofs.goes_into.Goals as goal

pub zips_lists-requires : goal.zips_lists-requires
zips_lists-requires c =
    let args = c.args in
    let pre = c.requires in
    let x = take (length args.right.now - 8 * args.r) (drop (8 * args.r) args.right.now) in
    let h : 8 * args.r ≤ length args.right.now = omega (arith, pre.0) in
    let n = lent_length args.right.now x args.r h refl in
    let t = ap size (sym (tree-at-zero (term_rows x)) ∙ lent-tree args.right.now x args.r h refl) in
    (omega (arith, n, c.if-right-from-gt-LONGEST.false), omega (arith, n, t, row-table-length x, pre.2))

pub returns-then-waits_at : goal.returns-then-waits_at
returns-then-waits_at c =
    let args = c.args in
    let pre = c.requires in
    let x = take (length args.right.now - 8 * args.r) (drop (8 * args.r) args.right.now) in
    let h : 8 * args.r ≤ length args.right.now = omega (arith, pre.0) in
    let t = sym (tree-at-zero (term_rows x)) ∙ lent-tree args.right.now x args.r h refl in
    let w = c.waits_at in
    record {
      waiting = λ y. sym w.ensures ∙ c.if-waits_at.true;
      zipping = λ y v. ap tree_zips_lists (sym t) ∙ c.zips_lists.ensures (not-false _ y);
    }
