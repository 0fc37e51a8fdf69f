-- One name, and where its term stands.
use mathlib.Core.Path.{refl, ap, sym}
use native.Mathlib.Omega.{arith}
use Prim.Native.Nat.{ℕ, ◌≤◌}
use mathlib.Core.List.{List}
use lib.ListN.{length}
use Rattle.layout.specs.Rows.{row_table}
use Rattle.layout.proofs.Tables.{row-table-length}
use Rattle.meaning.specs.Terms.{word_no}
use Rattle.reduce.proofs.Roots.{some-row}
use Rattle.reduce.proofs.Given.{bound-in, let-puts}
use Rattle.reduce.proofs.puts.let_puts.Goals as goal

pub row_of-name-requires : goal.row_of-name-requires
row_of-name-requires c =
    let T = row_table c.args.rows.now in
    let R = c.requires.0 in
    some-row T R.inside

pub overflow_cast-name : goal.overflow_cast-name
overflow_cast-name c =
    let T = row_table c.args.rows.now in
    let R = c.requires.0 in
    omega (arith, R.name c.requires.1.0, ap (λ (r : List ℕ). word_no r) c.row_of-name.ensures.row)

pub overflow_cast-result : goal.overflow_cast-result
overflow_cast-result c =
    let T = row_table c.args.rows.now in
    let R = c.requires.0 in
    let short : length T ≤ 2048 = omega (arith, R.few, row-table-length c.args.rows.now) in
    omega (arith, short, c.requires.1.1, bound-in T R.exact R.inside c.requires.1.0)

pub returns : goal.returns
returns c =
    let T = row_table c.args.rows.now in
    let R = c.requires.0 in
    let short : length T ≤ 2048 = omega (arith, R.few, row-table-length c.args.rows.now) in
    (λ form. let-puts T R.exact R.inside short c.requires.1.0 c.args.body c.requires.1.1 form _ _ _ _ (sym (ap (λ (r : List ℕ). word_no r) c.row_of-name.ensures.row)) refl, refl)
