-- By the plan.
use mathlib.Core.Path.{ap, sym, ◌∙◌, subst}
use native.Mathlib.Omega.{arith}
use Prim.Native.Nat.{ℕ, ◌*◌}
use mathlib.Core.List.{List}
use lib.ListN.{length}
use Rattle.layout.specs.Rows.{row_table}
use Rattle.layout.proofs.Tables.{row-table-length}
use Rattle.meaning.specs.Types.{form_of}
use Rattle.reduce.specs.Plan.{Plans}
use Rattle.put.proofs.Loops.{standing-length}
use Rattle.reduce.proofs.Roots.{whole_in, some-row}
use Rattle.reduce.proofs.Quiet.{redex-front}
use Rattle.reduce.proofs.Told.{stays-none, part-rises, part-rows, leaf-rows, pair-rises, pair-rows, let-of, call-of, tie-of, zip-of, put-rows, part-copied}
use Rattle.reduce.proofs.reduce.Goals as goal

pub returns-in-Stays : goal.returns-in-Stays
returns-in-Stays c =
    let T = row_table c.args.rows.now in
    let F = form_of c.args.types.now in
    let q = subst (Plans F T) c.in-Stays.is c.plan_of.ensures in
    absurd (omega (arith, c.requires.1, c.requires.2, stays-none F T q))

pub overflow_sub-end : goal.overflow_sub-end
overflow_sub-end c =
    let T = row_table c.args.rows.now in
    let F = form_of c.args.types.now in
    let q = subst (Plans F T) c.in-Part.is c.plan_of.ensures in
    omega (arith, (part-rises F T _ _ q).0)

pub copy_rows-requires : goal.copy_rows-requires
copy_rows-requires c =
    let T = row_table c.args.rows.now in
    let F = form_of c.args.types.now in
    let q = subst (Plans F T) c.in-Part.is c.plan_of.ensures in
    let h = part-rises F T _ _ q in
    let rs = part-rows F T _ _ q in
    let ln = c.requires.2 ∙ ap (λ (x : List (List ℕ)). 8 * length x) rs in
    (omega (arith, ln, standing-length T _ _ h.0 h.1), omega (arith, h.0, h.1, row-table-length c.args.rows.now))

pub returns-in-Part : goal.returns-in-Part
returns-in-Part c =
    let T = row_table c.args.rows.now in
    let F = form_of c.args.types.now in
    let q = subst (Plans F T) c.in-Part.is c.plan_of.ensures in
    part-copied F T _ _ q (row_table c.args.to.now) _ (omega (arith, c.requires.2, row-table-length c.args.to.now)) c.copy_rows.ensures

pub write_leaf-requires : goal.write_leaf-requires
write_leaf-requires c =
    let T = row_table c.args.rows.now in
    let F = form_of c.args.types.now in
    let q = subst (Plans F T) c.in-Leaf.is c.plan_of.ensures in
    let rs = leaf-rows F T _ q in
    let ln = c.requires.2 ∙ ap (λ (x : List (List ℕ)). 8 * length x) rs in
    (some-row T (whole_in c.requires.0.one), ln)

pub returns-in-Leaf : goal.returns-in-Leaf
returns-in-Leaf c =
    let T = row_table c.args.rows.now in
    let F = form_of c.args.types.now in
    let q = subst (Plans F T) c.in-Leaf.is c.plan_of.ensures in
    c.write_leaf.ensures ∙ sym (leaf-rows F T _ q)

pub write_pair-requires : goal.write_pair-requires
write_pair-requires c =
    let T = row_table c.args.rows.now in
    let F = form_of c.args.types.now in
    let q = subst (Plans F T) c.in-Pair.is c.plan_of.ensures in
    let rs = pair-rows F T _ q in
    let ln = c.requires.2 ∙ ap (λ (x : List (List ℕ)). 8 * length x) rs in
    (c.requires.0.few, (pair-rises F T _ q).0, (pair-rises F T _ q).1, ln)

pub returns-in-Pair : goal.returns-in-Pair
returns-in-Pair c =
    let T = row_table c.args.rows.now in
    let F = form_of c.args.types.now in
    let q = subst (Plans F T) c.in-Pair.is c.plan_of.ensures in
    c.write_pair.ensures ∙ sym (pair-rows F T _ q)

pub let_puts-requires : goal.let_puts-requires
let_puts-requires c =
    let T = row_table c.args.rows.now in
    let F = form_of c.args.types.now in
    let q = subst (Plans F T) c.in-Let.is c.plan_of.ensures in
    (redex-front c.args.rows.now c.requires.0, let-of F T _ q)

pub write_puts-requires : goal.write_puts-requires
write_puts-requires c =
    let T = row_table c.args.rows.now in
    let F = form_of c.args.types.now in
    let d = c.let_puts.ensures.0 F in
    let rs = put-rows F T _ d in
    let ln = c.requires.2 ∙ ap (λ (x : List (List ℕ)). 8 * length x) rs in
    (d.few, d.ready, ln)

pub returns-in-Let : goal.returns-in-Let
returns-in-Let c =
    let T = row_table c.args.rows.now in
    let F = form_of c.args.types.now in
    c.write_puts.ensures ∙ sym (put-rows F T _ (c.let_puts.ensures.0 F))

pub call_puts-requires : goal.call_puts-requires
call_puts-requires c =
    let T = row_table c.args.rows.now in
    let F = form_of c.args.types.now in
    let q = subst (Plans F T) c.in-Call.is c.plan_of.ensures in
    (redex-front c.args.rows.now c.requires.0, call-of F T _ q)

pub write_puts-requires-in-Call : goal.write_puts-requires-in-Call
write_puts-requires-in-Call c =
    let T = row_table c.args.rows.now in
    let F = form_of c.args.types.now in
    let d = c.call_puts.ensures.0 in
    let rs = put-rows F T _ d in
    let ln = c.requires.2 ∙ ap (λ (x : List (List ℕ)). 8 * length x) rs in
    (d.few, d.ready, ln)

pub returns-in-Call : goal.returns-in-Call
returns-in-Call c =
    let T = row_table c.args.rows.now in
    let F = form_of c.args.types.now in
    c.write_puts-in-Call.ensures ∙ sym (put-rows F T _ c.call_puts.ensures.0)

pub write_tie-requires : goal.write_tie-requires
write_tie-requires c =
    let T = row_table c.args.rows.now in
    let F = form_of c.args.types.now in
    let q = subst (Plans F T) c.in-Tie.is c.plan_of.ensures in
    (c.requires.0, tie-of F T q, c.requires.2)

pub write_zip-requires : goal.write_zip-requires
write_zip-requires c =
    let T = row_table c.args.rows.now in
    let F = form_of c.args.types.now in
    let q = subst (Plans F T) c.in-Zip.is c.plan_of.ensures in
    (c.requires.0, zip-of F T _ q, c.requires.1, c.requires.2)
