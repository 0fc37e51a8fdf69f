-- The first name, and the whole as its term.
use mathlib.Core.Path.{ap}
use native.Mathlib.Omega.{arith}
use Prim.Native.Nat.{ℕ}
use mathlib.Core.List.{List}
use lib.ListN.{length}
use Rattle.layout.specs.Rows.{row_table}
use Rattle.meaning.specs.Types.{form_of, params}
use Rattle.meaning.specs.Terms.{type_no}
use Rattle.reduce.proofs.Bound.{some-bound}
use Rattle.reduce.proofs.Given.{fix-more, tie-puts}
use Rattle.reduce.proofs.puts.tie_puts.Goals as goal

pub row_of-requires : goal.row_of-requires
row_of-requires c =
    let T = row_table c.args.rows.now in
    let R = c.requires.0 in
    fix-more T R.exact R.inside c.requires.1.0

pub param_name-name-requires : goal.param_name-name-requires
param_name-name-requires c =
    let T = row_table c.args.rows.now in
    let R = c.requires.0 in
    let F = form_of c.args.types.now in
    let u = ap (λ (r : List ℕ). type_no r) c.row_of.ensures.row in
    omega (arith, some-bound _ c.requires.1.2, ap (λ (t : ℕ). length (params (F t))) u)

pub overflow_cast-result : goal.overflow_cast-result
overflow_cast-result c = omega (arith, c.requires.0.few, c.requires.0.inside, c.requires.2)

pub returns : goal.returns
returns c =
    let T = row_table c.args.rows.now in
    let R = c.requires.0 in
    let F = form_of c.args.types.now in
    tie-puts T R.exact R.inside R.few F c.requires.1 _ _ _ _ _ (ap (λ (r : List ℕ). type_no r) c.row_of.ensures.row) c.param_name-name.ensures c.requires.2
