-- By the kind of the tuple, and by the place.
use Prim.Native.Nat.{suc, ◌-◌}
use mathlib.Core.Path.{◌≡◌}
use native.Mathlib.Omega.{arith}
use Rattle.layout.specs.Rows.{row_table}
use Rattle.meaning.specs.Terms.{kind_no, n_no}
use Rattle.reduce.specs.Plan.{row_no}
use Rattle.reduce.proofs.Standing.{tuple-there, others-inside, last-element}
use Rattle.reduce.proofs.behind.before_last.Goals as goal

pub row_of-tuple-requires : goal.row_of-tuple-requires
row_of-tuple-requires c = tuple-there (row_table c.args.rows.now) c.requires.0.inside c.requires.1

pub past_trees-requires : goal.past_trees-requires
past_trees-requires c =
    let T = row_table c.args.rows.now in
    let j = c.row_of-place.result.n - 1 in
    let i : n_no (row_no T 0) ≡ suc j = grind arith in
    let n : n_no (row_no T 1) ≡ suc j = grind arith in
    let k : kind_no (row_no T 1) ≡ 16 = grind arith in
    (c.requires.0.few, others-inside T c.requires.0.inside c.requires.1 k j i n)

pub returns-then-place-tuple : goal.returns-then-place-tuple
returns-then-place-tuple c =
    let T = row_table c.args.rows.now in
    let j = c.row_of-place.result.n - 1 in
    let i : n_no (row_no T 0) ≡ suc j = grind arith in
    let n : n_no (row_no T 1) ≡ suc j = grind arith in
    let k : kind_no (row_no T 1) ≡ 16 = grind arith in
    (omega arith, last-element T c.requires.0.inside c.requires.1 k j i n _ c.past_trees.ensures)
