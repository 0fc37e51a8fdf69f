-- By the kind of the function.
use native.Mathlib.Omega.{arith}
use mathlib.Core.List.{map}
use Rattle.layout.specs.Rows.{row_table}
use Rattle.layout.proofs.Tables.{row-table-length}
use Rattle.meaning.specs.Terms.{row_of}
use Rattle.reduce.specs.Plan.{Plans}
use Rattle.reduce.proofs.Roots.{whole_in}
use Rattle.reduce.proofs.Given.{call-more, call-size}
use Rattle.reduce.proofs.Zipped.{plan-other-call}
use Rattle.reduce.proofs.plans.plan_call.Goals as goal

pub kind_at-requires : goal.kind_at-requires
kind_at-requires c =
    let T = row_table c.args.rows.now in
    let L = map row_of T in
    let R = c.requires.0 in
    call-more T R.exact (whole_in R.one) c.requires.1

pub end_of-requires : goal.end_of-requires
end_of-requires c =
    let T = row_table c.args.rows.now in
    let L = map row_of T in
    let R = c.requires.0 in
    (omega (arith, R.few), omega (arith, call-size T R.exact (whole_in R.one) c.requires.1, row-table-length c.args.rows.now))

pub returns-in-Some-Native : goal.returns-in-Some-Native
returns-in-Some-Native c = λ form. unfold Plans in (c.requires.1, rw c.in-Some-Native.field-0-is at c.in-Some-Native.ensures, c.end_of.ensures)

pub end_of-requires-in-Some-Zip : goal.end_of-requires-in-Some-Zip
end_of-requires-in-Some-Zip c =
    let T = row_table c.args.rows.now in
    let R = c.requires.0 in
    (omega (arith, R.few), omega (arith, call-size T R.exact (whole_in R.one) c.requires.1, row-table-length c.args.rows.now))

pub returns-in-Some-Zip : goal.returns-in-Some-Zip
returns-in-Some-Zip c = λ form. unfold Plans in (c.requires.1, rw c.in-Some-Zip.field-0-is at c.in-Some-Zip.ensures, c.end_of-in-Some-Zip.ensures)

pub returns-in_default : goal.returns-in_default
returns-in_default c =
    let T = row_table c.args.rows.now in
    let L = map row_of T in
    let R = c.requires.0 in
    λ form. plan-other-call T R.exact R.one c.requires.1 form (λ q. absurd (grind (arith, q))) (λ q. absurd (grind (arith, q)))

pub returns-in_default-2 : goal.returns-in_default-2
returns-in_default-2 c =
    let T = row_table c.args.rows.now in
    let L = map row_of T in
    let R = c.requires.0 in
    λ form. plan-other-call T R.exact R.one c.requires.1 form (λ q. absurd (grind (arith, q))) (λ q. absurd (grind (arith, q)))
