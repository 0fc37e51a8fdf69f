-- By the kind of the first row.
use native.Mathlib.Omega.{arith}
use Rattle.layout.specs.Rows.{row_table}
use Rattle.meaning.specs.Types.{form_of}
use Rattle.reduce.proofs.Roots.{whole_in, some-row}
use Rattle.reduce.proofs.Kept.{plan-rest}
use Rattle.reduce.proofs.plans.plan_of.Goals as goal

pub kind_at-requires : goal.kind_at-requires
kind_at-requires c = some-row (row_table c.args.rows.now) (whole_in c.requires.one)

pub returns-in-Some-Apply : goal.returns-in-Some-Apply
returns-in-Some-Apply c = c.plan_call.ensures (form_of c.args.types.now)

pub returns-in-Some-If : goal.returns-in-Some-If
returns-in-Some-If c = c.plan_if.ensures (form_of c.args.types.now)

pub returns-in-Some-IsNil : goal.returns-in-Some-IsNil
returns-in-Some-IsNil c = c.plan_isnil.ensures (form_of c.args.types.now)

pub returns-in-Some-Project : goal.returns-in-Some-Project
returns-in-Some-Project c = c.plan_project.ensures (form_of c.args.types.now)

pub returns-in-Some-ListProject : goal.returns-in-Some-ListProject
returns-in-Some-ListProject c = c.plan_lproject.ensures (form_of c.args.types.now)

pub returns-in-Some-Let : goal.returns-in-Some-Let
returns-in-Some-Let c = c.plan_let.ensures (form_of c.args.types.now)

pub returns-in_default : goal.returns-in_default
returns-in_default c = plan-rest (row_table c.args.rows.now) c.requires.exact c.requires.one (form_of c.args.types.now) (λ q. absurd (grind (arith, q))) (λ q. absurd (grind (arith, q))) (λ q. absurd (grind (arith, q))) (λ q. absurd (grind (arith, q))) (λ q. absurd (grind (arith, q))) (λ q. absurd (grind (arith, q))) (λ q. absurd (grind (arith, q)))

pub returns-in_default-2 : goal.returns-in_default-2
returns-in_default-2 c = plan-rest (row_table c.args.rows.now) c.requires.exact c.requires.one (form_of c.args.types.now) (λ q. absurd (grind (arith, q))) (λ q. absurd (grind (arith, q))) (λ q. absurd (grind (arith, q))) (λ q. absurd (grind (arith, q))) (λ q. absurd (grind (arith, q))) (λ q. absurd (grind (arith, q))) (λ q. absurd (grind (arith, q)))
