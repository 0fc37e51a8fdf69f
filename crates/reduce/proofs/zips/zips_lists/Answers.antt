-- By the first two rows, and where the arguments begin.
use Prim.Native.Nat.{ℕ, ◌+◌}
use mathlib.Core.Path.{◌≡◌, ap, sym, ◌∙◌}
use mathlib.Core.List.{map}
use native.Mathlib.Omega.{arith}
use Rattle.layout.specs.Rows.{row_table}
use Rattle.layout.proofs.Tables.{row-table-length}
use Rattle.meaning.specs.Terms.{row_of, kind_no, n_no, size, sizes, tree_of, tree_at, grove}
use Rattle.meaning.specs.Steps.{ready}
use Rattle.reduce.specs.Plan.{row_no}
use Rattle.reduce.proofs.Roots.{some-row}
use Rattle.reduce.proofs.Listed.{called_more, called-size, lists-told}
use Rattle.reduce.proofs.zips.zips_lists.Goals as goal

pub row_of-call-requires : goal.row_of-call-requires
row_of-call-requires c = some-row (row_table c.args.rows.now) c.requires.1

pub row_of-zip-requires : goal.row_of-zip-requires
row_of-zip-requires c =
    let T = row_table c.args.rows.now in
    let e : kind_no (row_no T 0) ≡ 8 = grind arith in
    called_more T c.requires.1 e

pub end_of-requires : goal.end_of-requires
end_of-requires c =
    let T = row_table c.args.rows.now in
    let e : kind_no (row_no T 0) ≡ 8 = grind arith in
    (c.requires.0, omega (arith, c.requires.1, called-size T c.requires.1 e, row-table-length c.args.rows.now))

pub lists_from-requires : goal.lists_from-requires
lists_from-requires c =
    let T = row_table c.args.rows.now in
    let L = map row_of T in
    let e : kind_no (row_no T 0) ≡ 8 = grind arith in
    let n = c.row_of-call.result.n in
    let i = c.row_of-call.ensures.n in
    let first = c.end_of.result in
    let g : first ≡ 1 + size (tree_at L 1) = c.end_of.ensures in
    let w : first + sizes (grove L first n) ≡ size (tree_of L) = ap (λ (x : ℕ). x + sizes (grove L x n)) g ∙ ap (λ (x : ℕ). 1 + size (tree_at L 1) + sizes (grove L (1 + size (tree_at L 1)) x)) (sym i) ∙ sym (called-size T c.requires.1 e) in
    (c.requires.0, omega (arith, w, c.requires.1))

pub returns-then-is : goal.returns-then-is
returns-then-is c =
    let T = row_table c.args.rows.now in
    let L = map row_of T in
    let e : kind_no (row_no T 0) ≡ 8 = grind arith in
    let q : kind_no (row_no T 1) ≡ 15 = grind arith in
    let n = c.row_of-call.result.n in
    let i = c.row_of-call.ensures.n in
    let g : c.end_of.result ≡ 1 + size (tree_at L 1) = c.end_of.ensures in
    let m = c.row_of-zip.result.n in
    let r : c.lists_from.result ≡ ready (n_no (row_no T 1)) (grove L (1 + size (tree_at L 1)) (n_no (row_no T 0))) =
    c.lists_from.ensures ∙ ap (λ (x : ℕ). ready m (grove L x n)) g ∙ ap (λ (x : ℕ). ready m (grove L (1 + size (tree_at L 1)) x)) (sym i) ∙ ap (λ (x : ℕ). ready x (grove L (1 + size (tree_at L 1)) (n_no (row_no T 0)))) (sym c.row_of-zip.ensures.n) in
    λ b. lists-told T c.requires.1 e q (sym r ∙ b)
