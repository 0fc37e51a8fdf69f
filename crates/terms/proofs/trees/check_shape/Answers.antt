-- The loop's invariant: what is left of the table answers as the whole of it does.
use Rattle.std.proofs.Common.{◌≡◌, refl, sym, ◌∙◌, arith}
use Rattle.meaning.specs.Terms.{shape}
use Rattle.terms.proofs.Scan.{shape-bad, shape_behind, shape_on, shape-whole, shape-short}
use Rattle.terms.proofs.trees.check_shape.Goals as goal

pub loop-i-init : goal.loop-i-init
loop-i-init c = record { few = omega arith; rest = unfold shape in refl }

pub returns-in-Some : goal.returns-in-Some
returns-in-Some c =
    sym (shape-bad _ _ c.args.rows.now c.loop-i.i c.loop-i.owed _ (omega arith) (sym c.at-r.ensures.row) _ (sym c.in-Some.is ∙ c.row_fault.ensures)) ∙ c.loop-i.invariant.rest

pub returns-then-owed-eq0 : goal.returns-then-owed-eq0
returns-then-owed-eq0 c =
    sym (shape_behind _ _ c.args.rows.now c.loop-i.i c.loop-i.owed _ (omega arith) (sym c.at-r.ensures.row) (sym c.in_default.is ∙ c.row_fault.ensures) c.if-owed-eq0.true) ∙ c.loop-i.invariant.rest

pub loop-i-preserved : goal.loop-i-preserved
loop-i-preserved c =
    let on = shape_on _ _ c.args.rows.now c.loop-i.i c.loop-i.owed _ (omega arith) (sym c.at-r.ensures.row) (sym c.in_default.is ∙ c.row_fault.ensures) c.if-owed-eq0.false in
    record { few = omega (arith, c.children.ensures); rest = rw c.children.ensures.0 (sym on ∙ c.loop-i.invariant.rest) }

pub returns-then-owed-eq0-2 : goal.returns-then-owed-eq0-2
returns-then-owed-eq0-2 c = sym (shape-whole _ _ c.args.rows.now c.loop-i.i c.loop-i.owed (omega arith) c.if-owed-eq0-2.true) ∙ c.loop-i.invariant.rest

pub returns-else-owed-eq0-2 : goal.returns-else-owed-eq0-2
returns-else-owed-eq0-2 c =
    let e : c.loop-i.i ≡ c.len.result = omega arith in
    rw e at (sym (shape-short _ _ c.args.rows.now c.loop-i.i c.loop-i.owed (omega arith) c.if-owed-eq0-2.false) ∙ c.loop-i.invariant.rest)
