-- By the plan.
use mathlib.Core.Path.{sym, ◌∙◌, subst}
use native.Mathlib.Omega.{arith}
use Rattle.layout.specs.Rows.{row_table}
use Rattle.layout.proofs.Tables.{row-table-length}
use Rattle.meaning.specs.Types.{form_of}
use Rattle.reduce.specs.Plan.{Plans}
use Rattle.reduce.proofs.Quiet.{redex-front}
use Rattle.reduce.proofs.Told.{count-stays, part-rises, count-part, count-leaf, count-pair, let-of, call-of, tie-of, zip-of, count-puts}
use Rattle.reduce.proofs.count.Goals as goal

pub returns-in-Stays : goal.returns-in-Stays
returns-in-Stays c =
    let T = row_table c.args.rows.now in
    let F = form_of c.args.types.now in
    let q = subst (Plans F T) c.in-Stays.is c.plan_of.ensures in
    count-stays F T q

pub overflow_sub-result : goal.overflow_sub-result
overflow_sub-result c =
    let T = row_table c.args.rows.now in
    let F = form_of c.args.types.now in
    let q = subst (Plans F T) c.in-Part.is c.plan_of.ensures in
    omega (arith, (part-rises F T _ _ q).0)

pub returns-in-Part : goal.returns-in-Part
returns-in-Part c =
    let T = row_table c.args.rows.now in
    let F = form_of c.args.types.now in
    let q = subst (Plans F T) c.in-Part.is c.plan_of.ensures in
    count-part F T _ _ q

pub returns-in-Leaf : goal.returns-in-Leaf
returns-in-Leaf c =
    let T = row_table c.args.rows.now in
    let F = form_of c.args.types.now in
    let q = subst (Plans F T) c.in-Leaf.is c.plan_of.ensures in
    count-leaf F T _ q

pub returns-in-Pair : goal.returns-in-Pair
returns-in-Pair c =
    let T = row_table c.args.rows.now in
    let F = form_of c.args.types.now in
    let q = subst (Plans F T) c.in-Pair.is c.plan_of.ensures in
    count-pair F T _ _ q (c.term_rows.ensures ∙ sym (row-table-length c.args.rows.now))

pub let_puts-requires : goal.let_puts-requires
let_puts-requires c =
    let T = row_table c.args.rows.now in
    let F = form_of c.args.types.now in
    let q = subst (Plans F T) c.in-Let.is c.plan_of.ensures in
    (redex-front c.args.rows.now c.requires, let-of F T _ q)

pub count_puts-requires : goal.count_puts-requires
count_puts-requires c =
    let T = row_table c.args.rows.now in
    let F = form_of c.args.types.now in
    ((c.let_puts.ensures.0 F).few, (c.let_puts.ensures.0 F).ready)

pub returns-in-Let : goal.returns-in-Let
returns-in-Let c =
    let T = row_table c.args.rows.now in
    let F = form_of c.args.types.now in
    count-puts F T _ _ (c.let_puts.ensures.0 F) c.count_puts.ensures

pub call_puts-requires : goal.call_puts-requires
call_puts-requires c =
    let T = row_table c.args.rows.now in
    let F = form_of c.args.types.now in
    let q = subst (Plans F T) c.in-Call.is c.plan_of.ensures in
    (redex-front c.args.rows.now c.requires, call-of F T _ q)

pub returns-in-Call : goal.returns-in-Call
returns-in-Call c =
    let T = row_table c.args.rows.now in
    let F = form_of c.args.types.now in
    count-puts F T _ _ c.call_puts.ensures.0 c.count_puts-in-Call.ensures

pub count_tie-requires : goal.count_tie-requires
count_tie-requires c =
    let T = row_table c.args.rows.now in
    let F = form_of c.args.types.now in
    let q = subst (Plans F T) c.in-Tie.is c.plan_of.ensures in
    (c.requires, tie-of F T q)

pub count_zip-requires : goal.count_zip-requires
count_zip-requires c =
    let T = row_table c.args.rows.now in
    let F = form_of c.args.types.now in
    let q = subst (Plans F T) c.in-Zip.is c.plan_of.ensures in
    (c.requires, zip-of F T _ q)

pub returns-in-Zip : goal.returns-in-Zip
returns-in-Zip c = c.count_zip.ensures (form_of c.args.types.now)
