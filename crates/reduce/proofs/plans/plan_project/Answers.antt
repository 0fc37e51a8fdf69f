-- By the kind of the tuple, and by the place.
use Prim.Native.Nat.{ℕ, ◌-◌, ◌+◌, ◌≤◌}
use mathlib.Core.Path.{◌≡◌, ap, sym, ◌∙◌}
use mathlib.Core.List.{map}
use native.Mathlib.Omega.{arith}
use Rattle.layout.specs.Rows.{row_table}
use Rattle.layout.proofs.Tables.{row-table-length}
use Rattle.meaning.specs.Terms.{row_of, kind_no, n_no, sizes, grove}
use Rattle.reduce.specs.Plan.{row_no}
use Rattle.reduce.proofs.Kept.{project-more, before-in, element-in, plan-element, plan-beyond, plan-first, plan-no-tuple}
use Rattle.reduce.proofs.plans.plan_project.Goals as goal
use Rattle.reduce.proofs.plans.plan_project.Goals.{else-is-via-then-is+then-place-ne0+else-place-tuple, else-is-via-then-is+else-place-ne0, else-is-via-else-is}

pub row_of-tuple-requires : goal.row_of-tuple-requires
row_of-tuple-requires c = project-more (row_table c.args.rows.now) c.requires.0.exact c.requires.0.one c.requires.1

pub past_trees-at-requires : goal.past_trees-at-requires
past_trees-at-requires c =
    let T = row_table c.args.rows.now in
    let R = c.requires.0 in
    let t : kind_no (row_no T 1) ≡ 16 = grind arith in
    let z : n_no (row_no T 0) ≡ 0 → ⊥ = λ q. c.if-place-ne0.true (sym c.row_of-place.ensures.n ∙ q) in
    let h : n_no (row_no T 0) ≤ n_no (row_no T 1) = grind arith in
    (omega (arith, R.few), rw c.row_of-place.ensures.n at (before-in T R.exact R.one c.requires.1 t z h))

pub end_of-requires : goal.end_of-requires
end_of-requires c =
    let T = row_table c.args.rows.now in
    let R = c.requires.0 in
    let t : kind_no (row_no T 1) ≡ 16 = grind arith in
    let z : n_no (row_no T 0) ≡ 0 → ⊥ = λ q. c.if-place-ne0.true (sym c.row_of-place.ensures.n ∙ q) in
    let h : n_no (row_no T 0) ≤ n_no (row_no T 1) = grind arith in
    let g = c.past_trees-at.ensures ∙ ap (λ (x : ℕ). 2 + sizes (grove (map row_of T) 2 (x - 1))) (sym c.row_of-place.ensures.n) in
    (omega (arith, R.few), omega (arith, element-in T R.exact R.one c.requires.1 t z h _ g, row-table-length c.args.rows.now))

pub returns-then-place-tuple : goal.returns-then-place-tuple
returns-then-place-tuple c =
    let T = row_table c.args.rows.now in
    let R = c.requires.0 in
    let t : kind_no (row_no T 1) ≡ 16 = grind arith in
    let z : n_no (row_no T 0) ≡ 0 → ⊥ = λ q. c.if-place-ne0.true (sym c.row_of-place.ensures.n ∙ q) in
    let h : n_no (row_no T 0) ≤ n_no (row_no T 1) = grind arith in
    let g = c.past_trees-at.ensures ∙ ap (λ (x : ℕ). 2 + sizes (grove (map row_of T) 2 (x - 1))) (sym c.row_of-place.ensures.n) in
    λ form. plan-element T R.exact R.one c.requires.1 t z h form _ _ g c.end_of.ensures

pub returns : goal.returns
returns c =
    let T = row_table c.args.rows.now in
    let R = c.requires.0 in
    λ form. elim c.else-is.branch [
      | else-is-via-then-is+then-place-ne0+else-place-tuple w ↦ plan-beyond T R.exact R.one c.requires.1 (grind arith) form (omega (arith, w.if-place-tuple.false, c.row_of-place.ensures.n, c.row_of-tuple.ensures.n))
      | else-is-via-then-is+else-place-ne0 w ↦ plan-first T R.exact R.one c.requires.1 (grind arith) form (omega (arith, w.if-place-ne0.false, c.row_of-place.ensures.n))
      | else-is-via-else-is w ↦ plan-no-tuple T R.exact R.one c.requires.1 form (λ q. absurd (grind (arith, q)))
    ]
