-- The rows of its tree are cut off: they are a zip's, and its arguments stand where they stood.
use Prim.Native.Nat.{ℕ, ◌+◌, ◌*◌}
use mathlib.Core.Path.{◌≡◌, refl, ap, sym, ◌∙◌}
use mathlib.Core.List.{List, map}
use native.Mathlib.Omega.{arith}
use lib.Seq.{length-take-le}
use Rattle.layout.specs.Rows.{row_table}
use Rattle.layout.proofs.Tables.{row-table-length}
use Rattle.meaning.specs.Types.{form_of}
use Rattle.meaning.specs.Terms.{row_of, n_no, size, sizes, tree_of, tree_at, grove}
use Rattle.reduce.specs.Plan.{row_no}
use Rattle.reduce.proofs.Roots.{some-row}
use Rattle.reduce.proofs.Listed.{called-size}
use Rattle.reduce.proofs.Cut.{cut-zip, cut-made}
use Rattle.reduce.proofs.once.zip_once.Goals as goal

pub row_of-r-requires : goal.row_of-r-requires
row_of-r-requires c =
    let T = row_table c.args.rows.now in
    let L = map row_of T in
    let R = c.requires.0 in
    some-row T R.inside

pub end_of-first-requires : goal.end_of-first-requires
end_of-first-requires c =
    let T = row_table c.args.rows.now in
    let L = map row_of T in
    let R = c.requires.0 in
    (omega (arith, R.few, row-table-length c.args.rows.now), omega (arith, R.inside, called-size T R.inside c.requires.1, row-table-length c.args.rows.now))

pub fill_bounds-requires : goal.fill_bounds-requires
fill_bounds-requires c =
    let T = row_table c.args.rows.now in
    let L = map row_of T in
    let R = c.requires.0 in
    let n = c.row_of-r.result.n in
    let i : n_no (row_no T 0) ≡ n = ap (λ (x : List ℕ). n_no x) c.row_of-r.ensures.row in
    let first = c.end_of-first.result in
    let g : first ≡ 1 + size (tree_at L 1) = c.end_of-first.ensures in
    let w : first + sizes (grove L first n) ≡ size (tree_of L) = ap (λ (x : ℕ). x + sizes (grove L x n)) g ∙ ap (λ (x : ℕ). 1 + size (tree_at L 1) + sizes (grove L (1 + size (tree_at L 1)) x)) (sym i) ∙ sym (called-size T R.inside c.requires.1) in
    (refl, omega (arith, R.few, row-table-length c.args.rows.now), omega (arith, c.if-n-gt8.false), omega (arith, w, R.inside))

pub overflow_mul-e : goal.overflow_mul-e
overflow_mul-e c =
    let T = row_table c.args.rows.now in
    let L = map row_of T in
    let R = c.requires.0 in
    let n = c.row_of-r.result.n in
    let i : n_no (row_no T 0) ≡ n = ap (λ (x : List ℕ). n_no x) c.row_of-r.ensures.row in
    let first = c.end_of-first.result in
    let g : first ≡ 1 + size (tree_at L 1) = c.end_of-first.ensures in
    let w : first + sizes (grove L first n) ≡ size (tree_of L) = ap (λ (x : ℕ). x + sizes (grove L x n)) g ∙ ap (λ (x : ℕ). 1 + size (tree_at L 1) + sizes (grove L (1 + size (tree_at L 1)) x)) (sym i) ∙ sym (called-size T R.inside c.requires.1) in
    let old : c.wide-e.result ≡ size (tree_of L) = c.wide-e.ensures ∙ c.fill_bounds.ensures n (omega arith) ∙ w in
    record { fits = omega (arith, old, R.inside, R.few) }

pub slice_bounds-make_zip-end : goal.slice_bounds-make_zip-end
slice_bounds-make_zip-end c =
    let T = row_table c.args.rows.now in
    let L = map row_of T in
    let R = c.requires.0 in
    let n = c.row_of-r.result.n in
    let i : n_no (row_no T 0) ≡ n = ap (λ (x : List ℕ). n_no x) c.row_of-r.ensures.row in
    let first = c.end_of-first.result in
    let g : first ≡ 1 + size (tree_at L 1) = c.end_of-first.ensures in
    let w : first + sizes (grove L first n) ≡ size (tree_of L) = ap (λ (x : ℕ). x + sizes (grove L x n)) g ∙ ap (λ (x : ℕ). 1 + size (tree_at L 1) + sizes (grove L (1 + size (tree_at L 1)) x)) (sym i) ∙ sym (called-size T R.inside c.requires.1) in
    let old : c.wide-e.result ≡ size (tree_of L) = c.wide-e.ensures ∙ c.fill_bounds.ensures n (omega arith) ∙ w in
    sym (length-take-le (8 * c.wide-e.result) c.args.rows.now (omega (arith, old, R.inside, row-table-length c.args.rows.now)))

pub make_zip-requires : goal.make_zip-requires
make_zip-requires c =
    let T = row_table c.args.rows.now in
    let L = map row_of T in
    let R = c.requires.0 in
    let n = c.row_of-r.result.n in
    let i : n_no (row_no T 0) ≡ n = ap (λ (x : List ℕ). n_no x) c.row_of-r.ensures.row in
    let first = c.end_of-first.result in
    let g : first ≡ 1 + size (tree_at L 1) = c.end_of-first.ensures in
    let w : first + sizes (grove L first n) ≡ size (tree_of L) = ap (λ (x : ℕ). x + sizes (grove L x n)) g ∙ ap (λ (x : ℕ). 1 + size (tree_at L 1) + sizes (grove L (1 + size (tree_at L 1)) x)) (sym i) ∙ sym (called-size T R.inside c.requires.1) in
    let old : c.wide-e.result ≡ size (tree_of L) = c.wide-e.ensures ∙ c.fill_bounds.ensures n (omega arith) ∙ w in
    let f = c.fill_bounds in
    let z = cut-zip c.args.rows.now R c.wide-e.result _ old refl c.requires.1 c.requires.2 first n g (sym i) (omega (arith, c.if-n-gt8.false)) _ f.auto.bounds f.ensures in
    (z.0, z.1, z.2)

pub returns : goal.returns
returns c =
    let T = row_table c.args.rows.now in
    let L = map row_of T in
    let R = c.requires.0 in
    let n = c.row_of-r.result.n in
    let i : n_no (row_no T 0) ≡ n = ap (λ (x : List ℕ). n_no x) c.row_of-r.ensures.row in
    let first = c.end_of-first.result in
    let g : first ≡ 1 + size (tree_at L 1) = c.end_of-first.ensures in
    let w : first + sizes (grove L first n) ≡ size (tree_of L) = ap (λ (x : ℕ). x + sizes (grove L x n)) g ∙ ap (λ (x : ℕ). 1 + size (tree_at L 1) + sizes (grove L (1 + size (tree_at L 1)) x)) (sym i) ∙ sym (called-size T R.inside c.requires.1) in
    let old : c.wide-e.result ≡ size (tree_of L) = c.wide-e.ensures ∙ c.fill_bounds.ensures n (omega arith) ∙ w in
    cut-made c.args.rows.now R c.wide-e.result _ old refl (form_of c.args.types.now) _ _ c.make_zip.ensures
