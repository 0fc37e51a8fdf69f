-- The loop's invariant: what is left of the table answers as the whole of it does.
use Rattle.std.proofs.Common.{ℕ, refl, sym, ap, ◌∙◌, arith}
use Rattle.std.proofs.lemmas.Bool.{OnTrue_at}
use borrow.Author.Tests.{eqb-true}
use Rattle.layout.specs.Rows.{numbers}
use Rattle.meaning.specs.Terms.{row_fault, shape}
use Rattle.terms.proofs.Scan.{shape_on, shape-whole}
use Rattle.terms.proofs.trees.whole_at_once.Goals as goal

pub loop-i-init : goal.loop-i-init
loop-i-init c = record { few = omega arith; rest = unfold shape in refl }

pub loop-i-preserved : goal.loop-i-preserved
loop-i-preserved c =
    let f = ap (λ (e : ℕ). row_fault e c.args.count (numbers c.at-r.result)) c.if-edition-ne-EDITION.false ∙ OnTrue_at c.if-not-faultless.false c.faultless.ensures in
    let on = shape_on _ _ c.args.rows.now c.loop-i.i c.loop-i.owed _ (omega arith) (sym c.at-r.ensures.row) (sym f) c.if-owed-eq0.false in
    record { few = omega (arith, c.listed.ensures); rest = rw c.listed.ensures.0 (sym on ∙ c.loop-i.invariant.rest) }

pub returns : goal.returns
returns c = λ e. sym c.loop-i.invariant.rest ∙ shape-whole _ _ c.args.rows.now c.loop-i.i c.loop-i.owed (omega arith) (eqb-true _ _ e)
