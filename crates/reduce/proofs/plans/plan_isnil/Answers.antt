-- By the kind of the list.
use native.Mathlib.Omega.{arith}
use Rattle.layout.specs.Rows.{row_table}
use Rattle.reduce.proofs.Kept.{isnil-more, plan-yes, plan-no, plan-unknown}
use Rattle.reduce.proofs.plans.plan_isnil.Goals as goal

pub kind_at-requires : goal.kind_at-requires
kind_at-requires c =
    let T = row_table c.args.rows.now in
    let R = c.requires.0 in
    isnil-more T R.exact R.one c.requires.1

pub returns-in-Some-Nil : goal.returns-in-Some-Nil
returns-in-Some-Nil c =
    let T = row_table c.args.rows.now in
    let R = c.requires.0 in
    λ form. plan-yes T R.exact R.one c.requires.1 form (rw c.in-Some-Nil.field-0-is at c.in-Some-Nil.ensures)

pub returns-in-Some-Cons : goal.returns-in-Some-Cons
returns-in-Some-Cons c =
    let T = row_table c.args.rows.now in
    let R = c.requires.0 in
    λ form. plan-no T R.exact R.one c.requires.1 form (rw c.in-Some-Cons.field-0-is at c.in-Some-Cons.ensures)

pub returns-in_default : goal.returns-in_default
returns-in_default c =
    let T = row_table c.args.rows.now in
    let R = c.requires.0 in
    λ form. plan-unknown T R.exact R.one c.requires.1 form (λ q. absurd (grind (arith, q))) (λ q. absurd (grind (arith, q)))

pub returns-in_default-2 : goal.returns-in_default-2
returns-in_default-2 c =
    let T = row_table c.args.rows.now in
    let R = c.requires.0 in
    λ form. plan-unknown T R.exact R.one c.requires.1 form (λ q. absurd (grind (arith, q))) (λ q. absurd (grind (arith, q)))
