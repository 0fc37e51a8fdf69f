-- By the kind of the condition.
use mathlib.Core.Path.{sym, ◌∙◌}
use native.Mathlib.Omega.{arith}
use Rattle.layout.specs.Rows.{row_table}
use Rattle.layout.proofs.Tables.{row-table-length}
use Rattle.reduce.proofs.Kept.{if-more, true-in, false-in, plan-then, plan-else, plan-unless}
use Rattle.reduce.proofs.plans.plan_if.Goals as goal

pub kind_at-requires : goal.kind_at-requires
kind_at-requires c =
    let T = row_table c.args.rows.now in
    let R = c.requires.0 in
    if-more T R.exact R.one c.requires.1

pub end_of-requires : goal.end_of-requires
end_of-requires c =
    let T = row_table c.args.rows.now in
    let R = c.requires.0 in
    (omega (arith, R.few), omega (arith, true-in T R.exact R.one c.requires.1 (rw c.in-Some-True.field-0-is at c.in-Some-True.ensures), row-table-length c.args.rows.now))

pub returns-in-Some-True : goal.returns-in-Some-True
returns-in-Some-True c =
    let T = row_table c.args.rows.now in
    let R = c.requires.0 in
    λ form. plan-then T R.exact R.one c.requires.1 form _ (rw c.in-Some-True.field-0-is at c.in-Some-True.ensures) c.end_of.ensures

pub end_of-requires-in-Some-False : goal.end_of-requires-in-Some-False
end_of-requires-in-Some-False c =
    let T = row_table c.args.rows.now in
    let R = c.requires.0 in
    (omega (arith, R.few), omega (arith, false-in T R.exact R.one c.requires.1 (rw c.in-Some-False.field-0-is at c.in-Some-False.ensures), row-table-length c.args.rows.now))

pub returns-in-Some-False : goal.returns-in-Some-False
returns-in-Some-False c =
    let T = row_table c.args.rows.now in
    let R = c.requires.0 in
    λ form. plan-else T R.exact R.one c.requires.1 form _ _ (rw c.in-Some-False.field-0-is at c.in-Some-False.ensures) c.end_of-in-Some-False.ensures (c.term_rows.ensures ∙ sym (row-table-length c.args.rows.now))

pub returns-in_default : goal.returns-in_default
returns-in_default c =
    let T = row_table c.args.rows.now in
    let R = c.requires.0 in
    λ form. plan-unless T R.exact R.one c.requires.1 form (λ q. absurd (grind (arith, q))) (λ q. absurd (grind (arith, q)))

pub returns-in_default-2 : goal.returns-in_default-2
returns-in_default-2 c =
    let T = row_table c.args.rows.now in
    let R = c.requires.0 in
    λ form. plan-unless T R.exact R.one c.requires.1 form (λ q. absurd (grind (arith, q))) (λ q. absurd (grind (arith, q)))
