-- As many names as the function has and arguments as the call has.
use mathlib.Core.Path.{◌≡◌, refl, ap}
use native.Mathlib.Omega.{arith}
use Prim.Native.Nat.{ℕ}
use mathlib.Core.List.{List, map}
use Rattle.layout.specs.Rows.{row_table}
use Rattle.layout.proofs.Tables.{row-table-length}
use Rattle.meaning.specs.Types.{form_of}
use Rattle.meaning.specs.Terms.{row_of, n_no, type_no}
use Rattle.reduce.specs.Plan.{row_no}
use Rattle.reduce.proofs.Roots.{some-row, grove-less}
use Rattle.reduce.proofs.Given.{call-more, args-whole, call-puts}
use Rattle.reduce.proofs.puts.call_puts.Goals as goal

pub row_of-r-requires : goal.row_of-r-requires
row_of-r-requires c =
    let T = row_table c.args.rows.now in
    let L = map row_of T in
    let R = c.requires.0 in
    some-row T R.inside

pub row_of-c-requires : goal.row_of-c-requires
row_of-c-requires c =
    let T = row_table c.args.rows.now in
    let L = map row_of T in
    let R = c.requires.0 in
    call-more T R.exact R.inside c.requires.1.0

pub fill_bounds-requires : goal.fill_bounds-requires
fill_bounds-requires c =
    let T = row_table c.args.rows.now in
    let L = map row_of T in
    let R = c.requires.0 in
    let i : n_no (row_no T 0) ≡ c.row_of-r.result.n = ap (λ (r : List ℕ). n_no r) c.row_of-r.ensures.row in
    let w = args-whole T R.exact R.inside c.requires.1.0 c.requires.1.1 c.args.first c.requires.1.2 in
    let g = grove-less L c.args.first c.min-n.result (n_no (row_no T 0)) (omega (arith, c.min-n.ensures, i)) in
    (refl, omega (arith, R.few, row-table-length c.args.rows.now), omega (arith, c.min-n.ensures, c.param_count.ensures.1), omega (arith, w, g))

pub returns : goal.returns
returns c =
    let T = row_table c.args.rows.now in
    let R = c.requires.0 in
    let F = form_of c.args.types.now in
    let i = ap (λ (r : List ℕ). n_no r) c.row_of-r.ensures.row in
    let u = ap (λ (r : List ℕ). type_no r) c.row_of-c.ensures.row in
    let count = c.param_count.ensures in
    let least = c.min-n.ensures in
    let f = c.fill_names in
    let b = c.fill_bounds in
    call-puts T R.exact R.inside R.few F c.args.first c.requires.1 _ _ _ _ _ i u (omega (arith, least, count.0)) (omega (arith, least, count.1)) f.ensures f.auto.names b.auto.bounds b.ensures
