-- The name of the let stands in front, with the type that its first child states. Assumes nothing.
use borrow.Author.Tests.{eqb-true}
use mathlib.Core.Path.{refl, sym, ◌∙◌}
use native.Mathlib.Omega.{arith}
use Rattle.quick.proofs.ByKind.{never}
use Rattle.quick.proofs.Places.{let-front}
use Rattle.quick.proofs.scopes.enter.Goals as goal

pub returns-then-term_rows-j : goal.returns-then-term_rows-j
returns-then-term_rows-j c = λ z. absurd (never c.refused.ensures z)

pub returns-then-not-is : goal.returns-then-not-is
returns-then-not-is c = λ z. absurd (never c.refused-then-not-is.ensures z)

pub returns-then-r-gt-LAST_NUMBER : goal.returns-then-r-gt-LAST_NUMBER
returns-then-r-gt-LAST_NUMBER c = λ z. absurd (never c.refused-then-r-gt-LAST_NUMBER.ensures z)

pub returns-then-p-eq0 : goal.returns-then-p-eq0
returns-then-p-eq0 c = λ z. absurd (never c.refused-then-p-eq0.ensures z)

pub returns : goal.returns
returns c =
    let args = c.args in
    let pre = c.requires in
    let row_at = c.row_at-r in
    let term_rows_here = c.term_rows in
    let if1 = c.if-term_rows-j in
    let type_at = c.type_at-a in
    let bind = c.bind in
    let r = row_at.result in
    λ z form. record {
      row = refl;
      same = refl;
      up = refl;
      still = refl;
      room = bind.ensures.1;
      chained = bind.ensures.2;
      names = let-front form args.rows.now args.j r.kind r.n r.ty r.word type_at.result (omega (arith, term_rows_here.ensures, if1.false)) row_at.ensures (eqb-true _ _ (sym c.is.ensures.test ∙ c.if-not-is.false)) type_at.ensures _ _ bind.ensures.3;
    }
